-- The first turn of a run: it begins its body, or is over as its intent has ended.
use Rattle.beldi_bound.proofs.{FirstStages.first_stages_are_few, FirstsOpen.firsts_open, Standing.runs_stand}
use Rattle.std.specs.FinMap as map
use Rattle.std.proofs.Common.{◌≡◌, inl, ℕ, suc, ◌+◌, ◌<◌, ◌≤◌, true, false, List, [], ◌∷◌, Option, Some, None, is_some, refl, sym, ap, subst, ◌∙◌, arith}
use Rattle.beldi_value.specs.declared.{id.IntentId.IntentId, place.Caller.Caller}
use Rattle.beldi_tree.specs.{Names.func_at, declared.deployment.Deployment.Deployment, declared.deployment.Func.Func}
use Rattle.beldi_lang.specs.{Machine.begun as machine_begun, declared.effect.Answer.Answer, declared.machine.Machine.Machine}
use Rattle.beldi_book.specs.LinearOrder.{count_changes}
use Rattle.beldi_row.specs.{Key.RowKey, Table.Rows, declared.row.Body.Body}
use Rattle.beldi_query.specs.Query.{rows_after, query_reply}
use Rattle.beldi_intent.specs.Intent.{body_told}
use Rattle.beldi_step.specs.{HostStep.Core, HostStep.counted, HostStep.turn_next, Next.next_run, declared.run.Begun.Begun, declared.run.Run.Run, declared.run.RunAt.RunAt, declared.run.RunTx.RunTx, declared.run.Stage.Stage}
use Rattle.beldi_step.specs.Run.{Turned, asks_at, local_steps, begin_in, body_registered, first_stage, goes_from, run_asks, told_at, inherited_tx}
use Rattle.beldi_upkeep.specs.Checked.{has_begun, next_turn}
use Rattle.beldi_bound.specs.{Cost.AreAsked, Cost.cost_from, Cost.step_cost, Ends.Sound, Left.left_at, SettleWork.has_ended, SettleWork.seat}
use Rattle.beldi_bound.proofs.{Begun.cover_stage, Costs.front_few, Costs.its_cost, Costs.splits, Ending.knows_it, Ending.over, Ending.some_left, Facts.GoesOn, Facts.Stands, Facts.begun_left, Facts.rest_cost, Facts.rest_left, GoingOn.goes_on}
use Rattle.beldi_bound.proofs.Ledger.{Covers, HasBody, Ledger, find}
use Rattle.beldi_bound.proofs.Frames.{Cost, Covered, Due, Spare}
use Rattle.beldi_bound.proofs.Paying.{own_live}
use Rattle.beldi_bound.proofs.BoundTurns.{FullStays, Paying}

module _ (d : Deployment) (room : ℕ) (e : Rows) (asked : IntentId → List Answer) (first most : ℕ) (past i : ℕ) (c : Core) (m : Rows) (r : Run) (a : ℕ) (runs : List (ℕ × ℕ)) (keys : List RowKey) (sound : Sound d c m)
    (ledger : Ledger d room e asked first most past c m runs keys) (next : next_run c past ≡ Some i) (live : map.get c.runs i ≡ Some r) (has : find i runs ≡ Some a) (mine : Covered d room e asked first most past c m keys i r a)
    (alive : r.deadline < c.now → ⊥) (f : ℕ) (areas : AreAsked d e asked) (rows : GoesOn m (rows_after (run_asks r) c.now m)) (full : FullStays room m (rows_after (run_asks r) c.now m)) (goes : GoesOn (rows_after (run_asks r) c.now m) e) where
  abbrev pub N : Rows
  N = rows_after (run_asks r) c.now m

  abbrev pub Turn : Turned → Type 0
  Turn s = Sound d (turn_next (counted c) i r s).0 N → Paying d room e asked first most past i c m r runs keys f (turn_next (counted c) i r s) N

  pub record FirstKnows : Type 0 where
    -- who begins has not ended
    pub open_still : (s : Run) → (next_turn d c m r).next ≡ Some s → has_ended (map.get m (seat r)) ≡ false
    -- who is over has, where it was started since
    pub ended : (next_turn d c m r).next ≡ None → (r.at ≡ RunAt.Looks → HasBody d room e asked first most m r) → (has_ended (map.get N (seat r)) ≡ true) × (1 ≤ Cost d room e asked first most (seat r))
    -- what was registered costs something
    pub registers : (b : Body) → r.at ≡ RunAt.Registers b → 1 ≤ Cost d room e asked first most (seat r)

  module _ (k : FirstKnows) where
    some_amount : (x : RunAt) → has_begun x ≡ false → r.at ≡ x → Covers d room e asked first most past c m keys i r a x → 1 ≤ a
    some_amount RunAt.Looks yet at h = h.0
    some_amount (RunAt.Registers b) yet at h = let p = splits d room e asked first most (seat r) in of (Due d room e asked first most (seat r)) (Spare d room e asked first most (seat r)) (Cost d room e asked first most (seat r)) a p.whole (p.some (k.registers b at)) h
      where
        of : (u s c a : ℕ) → u + s ≡ c → 1 ≤ u → c ≤ s + a → 1 ≤ a
        of u s c a h l k = omega arith
    some_amount (RunAt.Begins g) yet at h = cc

    enough : (x : RunAt) → has_begun x ≡ false → has_ended (map.get m (seat r)) ≡ false → Covers d room e asked first most past c m keys i r a x → Cost d room e asked first most (seat r) ≤ Spare d room e asked first most (seat r) + a
    enough RunAt.Looks yet open_still h = h.1 open_still
    enough (RunAt.Registers b) yet open_still h = h
    enough (RunAt.Begins g) yet open_still h = cc

    module _ (yet : has_begun r.at ≡ false) where
      is_over : (next_turn d c m r).next ≡ None → Turn (record { next = None; mark = None; starts = false; wait = None; reply = None })
      is_over none sb = over d room e asked first most past i c m r a runs keys sound ledger next live has mine (turn_next (counted c) i r (record { next = None; mark = None; starts = false; wait = None; reply = None })).0 refl refl refl N rows full f
          (some_amount r.at yet refl mine.covers) (λ since. k.ended none (mine.looks since))

      by_stage : (z : Machine × Option RunTx) (from : Option Caller) (w : Option Stage) → first_stage r.id from z.1 z.0.steps z.0.effect ≡ w → (next_turn d c m r).next ≡ (goes_from r z from None w).next → Turn (goes_from r z from None w)
      by_stage z from None is none sb = is_over none sb
      by_stage z from (Some w) is goes_next sb =
          let h : Begun = record { machine = z.0; caller = from; tx = z.1; stage = w } in
          let s : Run = record r { at = RunAt.Begins h } in
          let b = (turn_next (counted c) i r (goes_from r z from None (Some w))).0 in
          let open_still = k.open_still s goes_next in
          let lives = own_live d room e asked first most past i c m r a runs keys ledger sound.upkeep.invariant.runs.numbers next live has b N keys (Some s) None refl in
          let q = runs_stand d b N e asked i s h sb goes areas lives refl in
          let know = knows_it sb.upkeep.invariant i s h lives refl in
          let some = some_left sb.upkeep.invariant s h know.0 e asked know.1 q in
          goes_on d room e asked first most past i c m r a runs keys sound ledger next live has mine alive b N keys None s h refl refl ledger.since rows full (λ j there. inl there) (λ j there. there) refl refl f refl q some (less s h q refl is open_still)
          (λ x more le. cover_stage d room e asked first most past b N i s h (begun_left N q) x w le (λ v st later. absurd (later (firsts_open r.id from z.1 z.0.steps z.0.effect v (is ∙ ap Some st)))))
          (λ j st. ledger.stuck_paid (seat r) j st open_still) (λ v st. cc) (omega arith)
        where
          join : (left rest step from whole cost its x : ℕ) → left ≤ step → from ≡ step + rest → from ≤ whole → cost ≡ 1 + whole → cost ≡ its → its ≤ x → suc (left + rest) ≤ x
          join left rest step from whole cost its x h k l o p q = omega arith

          split : (id : IntentId) (b : Body) (given rest : List Answer) → cost_from d e id b given rest ≡ step_cost d e id b given + rest_cost d e id b given rest
          split id b given [] = omega arith
          split id b given (v ∷ rest) = refl

          less : (s : Run) (h : Begun) (q : Stands d e asked s h) → seat s ≡ seat r → first_stage s.id h.caller h.tx h.machine.steps h.machine.effect ≡ Some h.stage → has_ended (map.get m (seat r)) ≡ false → suc (begun_left N q) ≤ Spare d room e asked first most (seat r) + a
          less s h q same st open_still =
              let left = first_stages_are_few d e N s.id q.body (asked s.id) s h refl q.along st in
              let whole = split s.id q.body q.along.answers q.along.later in
              let front = front_few d e s.id q.body q.along.answers q.along.later (asked s.id) q.along.all in
              let cost = its_cost d room e asked first most q in
              let fits = enough r.at yet open_still mine.covers in
              join (left_at e N s.func s.id h.tx h.machine.steps h.machine.effect h.stage) (rest_left q) (step_cost d e s.id q.body q.along.answers) (cost_from d e s.id q.body q.along.answers q.along.later) (cost_from d e s.id q.body [] (asked s.id)) (Cost d room e asked first most (seat s))
              (Cost d room e asked first most (seat r)) (Spare d room e asked first most (seat r) + a) left whole front cost (ap (Cost d room e asked first most) same) fits

      by_body : (o : Option Func) (b : Option Body) → (next_turn d c m r).next ≡ (begin_in d r o b).next → Turn (begin_in d r o b)
      by_body o None none = is_over none
      by_body None (Some b) none = is_over none
      by_body (Some o) (Some b) is = let z = local_steps d r.id (machine_begun d r.func b.args (is_some b.tx), inherited_tx b.tx) in by_stage z b.parent (first_stage r.id b.parent z.1 z.0.steps z.0.effect) refl is

      pub first_so : Turn (next_turn d c m r)
      first_so = by_at r.at refl yet
        where
          eq : (x : RunAt) → r.at ≡ x → next_turn d c m r ≡ told_at d (count_changes c.book) r x (query_reply (asks_at r x) c.now m)
          eq x at = ap (λ (y : RunAt). told_at d (count_changes c.book) r y (query_reply (asks_at r y) c.now m)) at

          begun_not : true ≡ false → ⊥
          begun_not h = cc

          by_at : (x : RunAt) → r.at ≡ x → has_begun x ≡ false → Turn (next_turn d c m r)
          by_at RunAt.Looks at not_yet = let t = eq RunAt.Looks at in subst Turn (sym t) (by_body (func_at d r.func) (body_told r.func (query_reply (asks_at r RunAt.Looks) c.now m)) (ap (λ (z : Turned). z.next) t))
          by_at (RunAt.Registers b) at not_yet = let t = eq (RunAt.Registers b) at in subst Turn (sym t) (by_body (func_at d r.func) (body_registered r.func b (query_reply (asks_at r (RunAt.Registers b)) c.now m)) (ap (λ (z : Turned). z.next) t))
          by_at (RunAt.Begins g) at not_yet = absurd (begun_not not_yet)
