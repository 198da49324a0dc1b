-- A turn of a run that has begun, by what its stage says: it goes on in its effect, or to the next one, or it is over.
use Rattle.beldi_plain_laws.proofs.Maps.{same_some}
use Rattle.beldi_upkeep.proofs.{Overs.no_turn_over, Started.started_of_it}
use Rattle.beldi_bound.proofs.{Closed.closes_end, Closed.none_spared, FirstStages.first_stages_are_few, FirstsOpen.firsts_open, Rising.TellsAnswer, Rising.steps_rise, Standing.runs_stand, Turning.turns_lower}
use Rattle.std.specs.FinMap as map
use Rattle.std.proofs.Common.{◌==◌, eq-eqb, eqb-true, ltb-true, nat_lt, ◌||◌, ◌≡◌, ◌⊎◌, inl, inr, ℕ, zero, suc, ◌+◌, ◌*◌, ◌<◌, ◌≤◌, Bool, true, false, List, [], ◌∷◌, length, Option, Some, None, refl, sym, ap, subst, ◌∙◌, arith}
use Rattle.std.proofs.lemmas.Bool.Decides.{nat_tests}
use Rattle.beldi_value.specs.{declared.id.IntentId.IntentId, declared.outcome.Outcome.Outcome}
use Rattle.beldi_tree.specs.declared.deployment.Deployment.{Deployment}
use Rattle.beldi_lang.specs.declared.{effect.Answer.Answer, machine.Machine.Machine}
use Rattle.beldi_book.specs.LinearOrder.{count_changes}
use Rattle.beldi_row.specs.{Key.RowKey, Table.Rows, declared.key.Kind.Kind, declared.row.Body.Body, declared.row.IntentRow.IntentRow, declared.row.Row.Row}
use Rattle.beldi_query.specs.Query.{rows_after, query_reply}
use Rattle.beldi_call.specs.declared.{async_call.AsyncAt.AsyncAt, call.CallAt.CallAt}
use Rattle.beldi_histories.proofs.Cases.{by_cases}
use Rattle.beldi_step.proofs.PutRun.{put_self}
use Rattle.beldi_step.specs.{HostStep.Core, HostStep.counted, HostStep.has_run, HostStep.is_crowded, HostStep.made, HostStep.may_start, HostStep.started, HostStep.with_run, HostStep.put_run, HostStep.turn_next, HostStep.turned_core, Next.next_run, declared.run.Begun.Begun, declared.run.Mark.Mark, declared.run.Run.Run, declared.run.RunAt.RunAt, declared.run.RunTx.RunTx, declared.run.StageOutput.StageOutput, declared.run.Stage.Stage, declared.run.Wait.Wait, declared.event.EventReply.EventReply}
use Rattle.beldi_step.specs.Run.{Turned, asks_at, local_steps, at_stage, callee_of, output_of, first_stage, goes_from, run_asks, takes, told_at, turned_by}
use Rattle.beldi_invariant.specs.OneAnswer.{IsBegun}
use Rattle.beldi_upkeep.specs.Checked.{Checked, is_close, next_output, next_turn}
use Rattle.beldi_bound.specs.{Cost.AreAsked, Cost.cost_from, Cost.step_cost, Ends.IsIn, Ends.Sound, Left.OutputLower, Left.left_at, SettleWork.has_ended, SettleWork.seat}
use Rattle.beldi_bound.proofs.{Costs.body_costs, Costs.its_cost, Costs.splits, Costs.rest_more, Ending.covers_left, Ending.knows_it, Ending.over, Ending.some_left, Ending.waits, BoundEntries.run_there, Numbers.put_apart, Numbers.put_same, Waited.async_goes, Facts.GoesOn, Facts.Stands, Facts.begun_left, Facts.rest_left, Facts.rest_cost, GoingOn.Funds, GoingOn.by_key, GoingOn.by_none, GoingOn.fewer, BoundLists.without, GoingOn.Keys, GoingOn.goes_at, GoingOn.goes_on, GoingOn.leaves}
use Rattle.beldi_bound.proofs.Ledger.{CoversAt, Covers, HasBody, IsStarted, Ledger, Pays, find}
use Rattle.beldi_bound.proofs.Frames.{Cost, Covered, Due, Leaves, Mid, Paid, Spare, Stuck, body_on, ended_stays, stays_so}
use Rattle.beldi_bound.proofs.Paying.{New, amount_of, own_live, pays, with_new}
use Rattle.beldi_bound.proofs.BoundTurns.{FullStays, Paying, either}

-- a run that goes on at another stage stands where it stood
abbrev pub restand : {d : Deployment} {e : Rows} {asked : IntentId → List Answer} {r : Run} {g : Begun} → Stands d e asked r g → (w : Stage) → Stands d e asked (record r { at = RunAt.Begins (at_stage g w) }) (at_stage g w)
restand s w = record {
  row = s.row;
  body = s.body;
  there = s.there;
  has = s.has;
  along = record { answers = s.along.answers; later = s.along.later; all = s.along.all; func = s.along.func; caller = s.along.caller; steps = s.along.steps; machine = s.along.machine; effect = s.along.effect; tx = s.along.tx };
}

first_false : (a b : Bool) → (a || b) ≡ false → a ≡ false
first_false true b h = cc
first_false false b h = refl

module _ (d : Deployment) (room : ℕ) (e : Rows) (asked : IntentId → List Answer) (first most : ℕ) where
  -- what is left is covered at a stage, but for what is midway
  pub cover_stage : (past : ℕ) (b : Core) (n : Rows) (i : ℕ) (s : Run) (g : Begun) (left x : ℕ) (w : Stage) → left ≤ x
      → ((z : AsyncAt) → w ≡ Stage.Async z → (z ≡ AsyncAt.Open → ⊥) → (suc left ≤ x) ⊎ ((left ≤ x) × Mid d room e asked first most past b n i s g)) → CoversAt d room e asked first most past b n i s g left x w
  cover_stage past b n i s g left x (Stage.Async AsyncAt.Open) less mid = less
  cover_stage past b n i s g left x (Stage.Async AsyncAt.Register) less mid = mid AsyncAt.Register refl (λ h. cc)
  cover_stage past b n i s g left x (Stage.Async AsyncAt.Note) less mid = mid AsyncAt.Note refl (λ h. cc)
  cover_stage past b n i s g left x w less mid = less

  -- two bodies of one row are one
  pub same_body : {r s : Run} {g h : Begun} (p : Stands d e asked r g) (q : Stands d e asked s h) → seat s ≡ seat r → q.body ≡ p.body
  same_body p q same = one q.row p.row q.body p.body (sym q.there ∙ ap (map.get e) same ∙ p.there) q.has p.has
    where
      one : (i j : IntentRow) (b c : Body) → ◌≡◌ {A = Option Row} (Some (Row.Intent i)) (Some (Row.Intent j)) → i.body ≡ Some b → j.body ≡ Some c → b ≡ c
      one i j b c h p q = let same : i ≡ j = cc in let both : Some b ≡ Some c = sym p ∙ ap (λ (z : IntentRow). z.body) same ∙ q in cc

  -- after more answers no more is left than there was past the effect before
  pub next_few : (n : Rows) (r s : Run) (g h : Begun) → s.id ≡ r.id → seat s ≡ seat r → (p : Stands d e asked r g) (q : Stands d e asked s h) → g.machine.steps < h.machine.steps
      → first_stage s.id h.caller h.tx h.machine.steps h.machine.effect ≡ Some h.stage → begun_left n q ≤ rest_left p
  next_few n r s g h same_id same p q more stage =
      let f = first_stages_are_few d e n s.id q.body (asked s.id) s h refl q.along stage in
      let steps_p = p.along.steps in let steps_q = q.along.steps in
      let longer : length p.along.answers < length q.along.answers = less (length p.along.answers) (length q.along.answers) g.machine.steps h.machine.steps steps_p steps_q more in
      let rest = rest_more d e s.id q.body p.along.answers p.along.later q.along.answers q.along.later (p.along.all ∙ ap asked (sym same_id) ∙ sym q.along.all) longer in
      let rest2 = subst (λ b. cost_from d e s.id q.body q.along.answers q.along.later ≤ rest_cost d e s.id b p.along.answers p.along.later) (same_body p q same) rest in
      let rest3 = subst (λ z. cost_from d e s.id q.body q.along.answers q.along.later ≤ rest_cost d e z p.body p.along.answers p.along.later) same_id rest2 in
      let whole = split q.along.answers q.along.later in
      join (begun_left n q) (rest_left p) (left_at e n s.func s.id h.tx h.machine.steps h.machine.effect h.stage) (rest_left q) (step_cost d e s.id q.body q.along.answers) (cost_from d e s.id q.body q.along.answers q.along.later) refl f whole rest3
    where
      less : (a b x y : ℕ) → a ≡ x → b ≡ y → x < y → a < b
      less a b x y h k l = omega arith

      join : (all rest left then_rest step whole : ℕ) → all ≡ left + then_rest → left ≤ step → whole ≡ step + then_rest → whole ≤ rest → all ≤ rest
      join all rest left then_rest step whole h k l o = omega arith

      split : (given rest : List Answer) → cost_from d e s.id q.body given rest ≡ step_cost d e s.id q.body given + rest_cost d e s.id q.body given rest
      split given [] = omega arith
      split given (a ∷ rest) = refl

module _ (d : Deployment) (room : ℕ) (e : Rows) (asked : IntentId → List Answer) (first most : ℕ) (past i : ℕ) (c : Core) (m : Rows) (r : Run) (a : ℕ) (runs : List (ℕ × ℕ)) (keys : List RowKey) (sound : Sound d c m)
    (ledger : Ledger d room e asked first most past c m runs keys) (next : next_run c past ≡ Some i) (live : map.get c.runs i ≡ Some r) (has : find i runs ≡ Some a) (mine : Covered d room e asked first most past c m keys i r a)
    (alive : r.deadline < c.now → ⊥) (f : ℕ) (areas : AreAsked d e asked) (rows : GoesOn m (rows_after (run_asks r) c.now m)) (full : FullStays room m (rows_after (run_asks r) c.now m)) (goes : GoesOn (rows_after (run_asks r) c.now m) e)
    (g : Begun) (at : r.at ≡ RunAt.Begins g) where
  abbrev pub N : Rows
  N = rows_after (run_asks r) c.now m

  abbrev pub Turn : Turned → Type 0
  Turn s = Sound d (turn_next (counted c) i r s).0 N → Paying d room e asked first most past i c m r runs keys f (turn_next (counted c) i r s) N

  abbrev pub Its : Type 0
  Its = (s : Stands d e asked r g) × CoversAt d room e asked first most past c m i r g (begun_left m s) (Spare d room e asked first most (seat r) + a) g.stage × ((j : RowKey) → Stuck d room e asked first most (seat r) ≡ Some j → Paid d room e asked first most c keys j)

  abbrev pub its : Its
  its = subst (Covers d room e asked first most past c m keys i r a) at mine.covers

  abbrev Left : Rows → Stage → ℕ
  Left n w = left_at e n r.func r.id g.tx g.machine.steps g.machine.effect w

  pub all_left : Left m g.stage + rest_left its.0 ≤ Spare d room e asked first most (seat r) + a
  all_left = covers_left d room e asked first most past c m i r g (begun_left m its.0) (Spare d room e asked first most (seat r) + a) g.stage its.1

  pub output_lower : (y : StageOutput) → next_output c m r g ≡ y → OutputLower (Left N) (Left m g.stage) y
  output_lower y is = subst (OutputLower (Left N) (Left m g.stage)) is (turns_lower d c m e i r g sound goes live at)

  -- some is left of it after the turn
  module _ (b : Core) (s : Run) (h : Begun) (sb : Sound d b N) (lives : map.get b.runs i ≡ Some s) (at1 : s.at ≡ RunAt.Begins h) where
    pub left_then : (q : Stands d e asked s h) → 1 ≤ begun_left N q
    left_then q = let k = knows_it sb.upkeep.invariant i s h lives at1 in some_left sb.upkeep.invariant s h k.0 e asked k.1 q

    pub stands_then : Stands d e asked s h
    stands_then = runs_stand d b N e asked i s h sb goes areas lives at1

  -- ---- it goes on, with a run that it started, or without
  abbrev pub Midway : Core → Run → Begun → ℕ → Type 0
  Midway b s h left = (z : AsyncAt) → h.stage ≡ Stage.Async z → (z ≡ AsyncAt.Open → ⊥) → (x : ℕ) → suc x ≡ Spare d room e asked first most (seat r) + a → left ≤ x → (suc left ≤ x) ⊎ ((left ≤ x) × Mid d room e asked first most past b N i s h)

  -- what pays for a run that is started
  pub record Pays_new (b : Core) (u : New) (kept : List RowKey) : Type 0 where
    pub keep : (k : RowKey) → IsIn k keys → Paid d room e asked first most b kept k
    pub within : (k : RowKey) → IsIn k kept → IsIn k keys
    pub new : (z : Run × ℕ) → u ≡ Some z → Covered d room e asked first most past b N kept (c.last_run + 1) z.0 z.1
    pub fund : amount_of u + Keys d room e asked first most kept ≤ Keys d room e asked first most keys

  pub none_new : (b : Core) → Pays_new b None keys
  none_new b = record { keep = λ k there. inl there; within = λ k there. there; new = λ z is. cc; fund = omega arith }

  module _ (b : Core) (u : New) (kept : List RowKey) (s : Run) (h : Begun) (runs_so : b.runs ≡ with_new (c.last_run + 1) u (put_run c.runs i (Some s))) (now_so : b.now ≡ c.now) (last_ok : first ≤ b.last_run) (deadline_so : s.deadline ≡ r.deadline) (seat_so : seat s ≡ seat r)
      (at1 : s.at ≡ RunAt.Begins h) (sb : Sound d b N) (paid : Pays_new b u kept) where
    lives_then : map.get b.runs i ≡ Some s
    lives_then = own_live d room e asked first most past i c m r a runs keys ledger sound.upkeep.invariant.runs.numbers next live has b N kept (Some s) u runs_so

    pub moves : (q : Stands d e asked s h) → suc (begun_left N q) ≤ Left m g.stage + rest_left its.0 → Midway b s h (begun_left N q) → Pays d room e asked first most past runs keys 1 f b N
    moves q less mid = goes_on d room e asked first most past i c m r a runs keys sound ledger next live has mine alive b N kept u s h runs_so now_so last_ok rows full paid.keep paid.within deadline_so seat_so f at1 q
        (left_then b s h sb lives_then at1 q) (trans (suc (begun_left N q)) (Left m g.stage + rest_left its.0) (Spare d room e asked first most (seat r) + a) less all_left)
        (λ x more enough. cover_stage d room e asked first most past b N i s h (begun_left N q) x h.stage enough (λ z is later. mid z is later x more enough)) its.2 paid.new paid.fund
      where
        trans : (x y z : ℕ) → x ≤ y → y ≤ z → x ≤ z
        trans x y z h k = omega arith

    -- .. to its next effect
    pub answers : 1 ≤ Left m g.stage → s.id ≡ r.id → g.machine.steps < h.machine.steps → first_stage s.id h.caller h.tx h.machine.steps h.machine.effect ≡ Some h.stage → Pays d room e asked first most past runs keys 1 f b N
    answers some same_id more stage =
        let q = stands_then b s h sb lives_then at1 in
        let k = next_few d room e asked first most N r s g h same_id seat_so its.0 q more stage in
        moves q (join (begun_left N q) (Left m g.stage) (rest_left its.0) some k) (λ z is later. absurd (later (firsts_open s.id h.caller h.tx h.machine.steps h.machine.effect z (stage ∙ ap Some is))))
      where
        join : (l x y : ℕ) → 1 ≤ x → l ≤ y → suc l ≤ x + y
        join l x y h k = omega arith

  -- ---- by what the stage says
  pub on : (w : Stage) (k : Option Mark) → next_output c m r g ≡ StageOutput.On w k → let t = turned_by d r g (StageOutput.On w k) in let b = (turn_next (counted c) i r t).0 in
      Midway b (record r { at = RunAt.Begins (at_stage g w) }) (at_stage g w) (begun_left N (restand its.0 w)) → Turn t
  on w k output mid sb =
      let b = (turn_next (counted c) i r (turned_by d r g (StageOutput.On w k))).0 in let q = restand its.0 w in let less = output_lower (StageOutput.On w k) output in
      moves b None keys (record r { at = RunAt.Begins (at_stage g w) }) (at_stage g w) refl refl ledger.since refl refl refl sb (none_new b) q (more (Left N w) (Left m g.stage) (rest_left its.0) less) mid
    where
      more : (x y z : ℕ) → suc x ≤ y → suc (x + z) ≤ y + z
      more x y z h = omega arith

  -- it is over only where it closes its intent
  checked : Checked d c m
  checked = record { invariant = sound.upkeep.invariant; rules = sound.rules; roots = started_of_it d c m sound.upkeep.started sound.starts }

  begun_it : IsBegun c r.id r g
  begun_it = record { number = i; live = live; same_id = refl; begun = at }

  pub is_over : (k : Option Mark) (o : Option Outcome) → (next_turn d c m r).next ≡ None → 1 ≤ Left m g.stage → Turn (record { next = None; mark = k; starts = false; wait = None; reply = o })
  is_over k o none some sb =
      let close = no_turn_over d c m r g checked begun_it none in
      let b = (turn_next (counted c) i r (record { next = None; mark = k; starts = false; wait = None; reply = o })).0 in
      let cost = its_cost d room e asked first most its.0 in
      over d room e asked first most past i c m r a runs keys sound ledger next live has mine b refl refl refl N rows full f
      (amount (Left m g.stage) (rest_left its.0) (Spare d room e asked first most (seat r)) a all_left some (none_spared d room c m e asked first most i r g sound areas live at its.0 close))
      (λ since. (closes_end d c m i r g sound live at close, first_cost (Cost d room e asked first most (seat r)) (cost_from d e r.id its.0.body [] (asked r.id)) cost))
    where
      amount : (l x s a : ℕ) → l + x ≤ s + a → 1 ≤ l → s ≡ 0 → 1 ≤ a
      amount l x s a h k z = omega arith

      first_cost : (x y : ℕ) → x ≡ 1 + y → 1 ≤ x
      first_cost x y h = omega arith

  turn_is : (y : StageOutput) → next_output c m r g ≡ y → next_turn d c m r ≡ turned_by d r g y
  turn_is y output = ap (λ (z : RunAt). told_at d (count_changes c.book) r z (query_reply (asks_at r z) c.now m)) at ∙ ap (turned_by d r g) output

  pub ends : (k : Option Mark) (o : Option Outcome) → next_output c m r g ≡ StageOutput.Ends k o → Turn (turned_by d r g (StageOutput.Ends k o))
  ends k o output = is_over k o (ap (λ (t : Turned). t.next) (turn_is (StageOutput.Ends k o) output)) (output_lower (StageOutput.Ends k o) output)

  -- the effect is answered
  pub answered : (v : Answer) (k : Option Mark) → next_output c m r g ≡ StageOutput.Answers v k → Turn (turned_by d r g (StageOutput.Answers v k))
  answered v k output = by_stage (local_steps d r.id (takes d g.machine g.tx v)) k (first_stage r.id g.caller (local_steps d r.id (takes d g.machine g.tx v)).1 (local_steps d r.id (takes d g.machine g.tx v)).0.steps (local_steps d r.id (takes d g.machine g.tx v)).0.effect) refl
      (ap (λ (t : Turned). t.next) (turn_is (StageOutput.Answers v k) output)) (output_lower (StageOutput.Answers v k) output) (steps_rise d c m i r g v sound live at (subst (λ y. TellsAnswer y v) (sym output) refl))
    where
      by_stage : (z : Machine × Option RunTx) (k : Option Mark) (w : Option Stage) → first_stage r.id g.caller z.1 z.0.steps z.0.effect ≡ w → (next_turn d c m r).next ≡ (goes_from r z g.caller k w).next → 1 ≤ Left m g.stage → g.machine.steps < z.0.steps → Turn (goes_from r z g.caller k w)
      by_stage z k None is next_is some more sb = is_over k None next_is some sb
      by_stage z k (Some w) is next_is some more sb =
          let h : Begun = record { machine = z.0; caller = g.caller; tx = z.1; stage = w } in
          let b = (turn_next (counted c) i r (goes_from r z g.caller k (Some w))).0 in
          answers b None keys (record r { at = RunAt.Begins h }) h refl refl ledger.since refl refl refl sb (none_new b) some refl more is

  -- ---- it waits
  pub no_async : (w : Wait) → next_output c m r g ≡ StageOutput.Waits w → (h : Begun) (z : AsyncAt) → r.at ≡ RunAt.Begins h → h.stage ≡ Stage.Async z → ⊥
  no_async w output h z at2 stage = async_goes c m r g z w (ap (λ (x : Begun). x.stage) (same (sym at ∙ at2)) ∙ stage) output
    where
      same : {x y : Begun} → RunAt.Begins x ≡ RunAt.Begins y → x ≡ y
      same h = cc

  pub stands_still : (w : Wait) (x : EventReply) → next_output c m r g ≡ StageOutput.Waits w → let t = turned_by d r g (StageOutput.Waits w) in Pays d room e asked first most i runs keys 0 f (turned_core (counted c) i r.id t) N
  stands_still w x output = waits d room e asked first most past i c m r a runs keys sound ledger next live has mine (turned_core (counted c) i r.id (turned_by d r g (StageOutput.Waits w))) N f
      (λ j. ap (λ z. map.get z j) (put_same c.runs i r live)) refl refl rows full (λ h z later at2 stage. absurd (no_async w output h z at2 stage))

  -- ---- a run that it starts
  pub one_most : 1 ≤ most
  one_most = by_cases (nat_lt first i) (λ t. mine.some (ltb-true first i t)) (λ old. let worth = mine.worth (inl (not_past old)) in let cost = its_cost d room e asked first most its.0 in some (Cost d room e asked first most (seat r)) (cost_from d e r.id its.0.body [] (asked r.id)) cost worth)
    where
      not_past : nat_lt first i ≡ false → i ≤ first
      not_past t = grind (arith, nat_tests)

      some : (x y : ℕ) → x ≡ 1 + y → x ≤ most → 1 ≤ most
      some x y h k = omega arith

  -- it has none yet
  pub not_started : (s : Run) → s.id ≡ r.id → (j : IntentId) → has_run (put_run c.runs i (Some s)) j ≡ false → (k : RowKey) → k.kind ≡ Kind.Intent j → IsStarted first c k → ⊥
  not_started s same j none k kind st = by_cases (st.number == i)
      (λ t. let is : st.number ≡ i = eqb-true st.number i t in clash (run_there (put_run c.runs i (Some s)) i s j (put_self c.runs i (Some s)) (same ∙ ap (λ (z : Run). z.id) (same_some (sym live ∙ sym (ap (map.get c.runs) is) ∙ st.live)) ∙ ids)))
      (λ t. clash (run_there (put_run c.runs i (Some s)) st.number st.run j (put_apart c.runs i (Some s) st.number (λ is. not_so st.number i is t) ∙ st.live) ids))
    where
      id_is : {x y : IntentId} → Kind.Intent x ≡ Kind.Intent y → x ≡ y
      id_is h = cc

      ids : st.run.id ≡ j
      ids = id_is (ap (λ (z : RowKey). z.kind) st.own ∙ kind)

      not_so : (p q : ℕ) → p ≡ q → (p == q) ≡ false → ⊥
      not_so p q is f = let clash : true ≡ false = sym (eq-eqb p q is) ∙ f in cc

      clash : has_run (put_run c.runs i (Some s)) j ≡ true → ⊥
      clash h = let both : true ≡ false = sym h ∙ none in cc

  -- it is paid, and covered
  pub new_paid : (b : Core) (q : Run) (turns : ℕ) (kept : List RowKey) (x : ℕ) → Funds d room e asked first most keys (seat q) turns kept x → map.get b.runs (c.last_run + 1) ≡ Some q
      → Covered d room e asked first most past b N kept (c.last_run + 1) q x → Pays_new b (Some (q, x)) kept
  new_paid b q turns kept x fund started covered = record {
    keep = λ k there. kept_one k (fund.keep k there);
    within = fund.within;
    new = λ z is. subst (λ (y : Run × ℕ). Covered d room e asked first most past b N kept (c.last_run + 1) y.0 y.1) (pair_is is) covered;
    fund = let less = fund.less in omega (arith, less);
  }
    where
      pair_is : {y z : Run × ℕ} → Some y ≡ Some z → y ≡ z
      pair_is h = cc

      kept_one : (k : RowKey) → (k ≡ seat q) ⊎ IsIn k kept → Paid d room e asked first most b kept k
      kept_one k (inl is) = let since = ledger.since in inr (record { number = c.last_run + 1; run = q; since = omega (arith, since); live = started; own = sym is })
      kept_one k (inr there) = inl there

  pub new_covered : (b : Core) (q : Run) (kept : List RowKey) (x : ℕ) → b.now ≡ c.now → q.deadline ≡ r.deadline → Covers d room e asked first most past b N kept (c.last_run + 1) q x q.at
      → (has_ended (map.get N (seat q)) ≡ false → Cost d room e asked first most (seat q) ≤ most) → (q.at ≡ RunAt.Looks → HasBody d room e asked first most N q) → Covered d room e asked first most past b N kept (c.last_run + 1) q x
  new_covered b q kept x now_so deadline_so covers worth looks = record {
    covers = covers;
    late = λ late. absurd (alive (subst (λ z. r.deadline < z) now_so (subst (λ z. z < b.now) deadline_so late)));
    worth = by_worth;
    some = λ new. one_most;
    looks = λ new at2. looks at2;
  }
    where
      by_worth : (c.last_run + 1 ≤ first) ⊎ (has_ended (map.get N (seat q)) ≡ false) → Cost d room e asked first most (seat q) ≤ most
      by_worth (inl old) = let since = ledger.since in absurd (omega (arith, since, old))
      by_worth (inr open_still) = worth open_still

  -- ---- the run of what it calls
  pub record IsCallee (q : Run) : Type 0 where
    pub is : callee_of r ≡ Some q
    pub deadline : q.deadline ≡ r.deadline
    pub kind : (seat q).kind ≡ Kind.Intent q.id

  -- one that registers its body: by its key, or by nothing where it costs nothing
  module _ (q : Run) (callee : IsCallee q) (w : Body) (registers : q.at ≡ RunAt.Registers w) where
    called : (b : Core) (turns : ℕ) (kept : List RowKey) (x : ℕ) → b.now ≡ c.now → map.get b.runs (c.last_run + 1) ≡ Some q → Funds d room e asked first most keys (seat q) turns kept x → Cost d room e asked first most (seat q) ≤ most → Pays_new b (Some (q, x)) kept
    called b turns kept x now_so started fund worth = new_paid b q turns kept x fund started (new_covered b q kept x now_so callee.deadline (subst (Covers d room e asked first most past b N kept (c.last_run + 1) q x) (sym registers) fund.enough) (λ h. worth) (λ is. looks_not (sym registers ∙ is)))
      where
        looks_not : {P : Type 0} → RunAt.Registers w ≡ RunAt.Looks → P
        looks_not h = cc

    -- its key, where it is paid and has no run
    pub its_key : Paid d room e asked first most c keys (seat q) → (s : Run) → s.id ≡ r.id → has_run (put_run c.runs i (Some s)) q.id ≡ false → IsIn (seat q) keys
    its_key (inl there) s same none = there
    its_key (inr st) s same none = absurd (not_started s same q.id none (seat q) callee.kind st)

  -- what is known of the callee of a call that has no result
  pub record CallsIt (q : Run) : Type 0 where
    pub body : Body
    pub registers : q.at ≡ RunAt.Registers body
    pub deadline : q.deadline ≡ r.deadline
    pub open_still : has_ended (map.get m (seat q)) ≡ false

  -- the call is opened, and a run of the callee may be started
  module _ (k : Option Mark) (output : next_output c m r g ≡ StageOutput.Opens k) (calls : (q : Run) → callee_of r ≡ Some q → CallsIt q) where
    abbrev Opened : Run
    Opened = record r { at = RunAt.Begins (at_stage g (Stage.Call CallAt.Look)) }

    abbrev Middle : Core
    Middle = turned_core (counted c) i r.id (turned_by d r g (StageOutput.Opens k))

    less_left : suc (begun_left N (restand its.0 (Stage.Call CallAt.Look))) ≤ Left m g.stage + rest_left its.0
    less_left = more (Left N (Stage.Call CallAt.Look)) (Left m g.stage) (rest_left its.0) (output_lower (StageOutput.Opens k) output)
      where
        more : (x y z : ℕ) → suc x ≤ y → suc (x + z) ≤ y + z
        more x y z h = omega arith

    moved : (b : Core) (u : New) (kept : List RowKey) → b.runs ≡ with_new (c.last_run + 1) u (put_run c.runs i (Some Opened)) → b.now ≡ c.now → first ≤ b.last_run → Sound d b N → Pays_new b u kept → Pays d room e asked first most past runs keys 1 f b N
    moved b u kept runs_so now_so last_ok sb paid = moves b u kept Opened (at_stage g (Stage.Call CallAt.Look)) runs_so now_so last_ok refl refl refl sb paid (restand its.0 (Stage.Call CallAt.Look)) less_left (λ z is. no_call is)
      where
        no_call : {P : Type 0} {z : AsyncAt} → Stage.Call CallAt.Look ≡ Stage.Async z → P
        no_call h = cc

    with_callee : (q : Run) → callee_of r ≡ Some q → has_run (put_run c.runs i (Some Opened)) q.id ≡ false → Sound d (with_run Middle q) N → Pays d room e asked first most past runs keys 1 f (with_run Middle q) N
    with_callee q is none sb = by_cost (Cost d room e asked first most (seat q)) refl
      where
        callee : IsCallee q
        callee = record { is = is; deadline = (calls q is).deadline; kind = refl }

        last_ok : first ≤ c.last_run + 1
        last_ok = let since = ledger.since in omega (arith, since)

        by_cost : (x : ℕ) → Cost d room e asked first most (seat q) ≡ x → Pays d room e asked first most past runs keys 1 f (with_run Middle q) N
        by_cost zero free = moved (with_run Middle q) (Some (q, 0)) keys refl refl last_ok sb
            (called q callee (calls q is).body (calls q is).registers (with_run Middle q) 0 keys 0 refl (put_self (put_run c.runs i (Some Opened)) (c.last_run + 1) (Some q)) (by_none d room e asked first most keys (seat q) free) (omega (arith, free)))
        by_cost (suc x) cost =
            let there = its_key q callee (calls q is).body (calls q is).registers (ledger.open_covered (seat q) (omega (arith, cost)) (calls q is).open_still) Opened refl none in
            moved (with_run Middle q) (Some (q, Due d room e asked first most (seat q))) (without (seat q) keys) refl refl last_ok sb
            (called q callee (calls q is).body (calls q is).registers (with_run Middle q) 0 (without (seat q) keys) (Due d room e asked first most (seat q)) refl (put_self (put_run c.runs i (Some Opened)) (c.last_run + 1) (Some q))
            (fewer d room e asked first most (by_key d room e asked first most keys (seat q) there)) (ledger.keys_worth (seat q) there))

    by_callee : (o : Option Run) → callee_of r ≡ o → let y = made r.id (output_of (turned_by d r g (StageOutput.Opens k))) (may_start Middle o) in Sound d y.0 N → Paying d room e asked first most past i c m r runs keys f y N
    by_callee None is sb = moved Middle None keys refl refl ledger.since sb (none_new Middle)
    by_callee (Some q) is sb = either (λ (p : Core × Option ℕ). Sound d p.0 N → Pays d room e asked first most past runs keys 1 f p.0 N) (has_run (put_run c.runs i (Some Opened)) q.id || is_crowded Middle) _ _
        (λ t sb. moved Middle None keys refl refl ledger.since sb (none_new Middle)) (λ t. with_callee q is (first_false (has_run (put_run c.runs i (Some Opened)) q.id) (is_crowded Middle) t)) sb

    pub opens : Turn (turned_by d r g (StageOutput.Opens k))
    opens = by_callee (callee_of r) refl

  -- ---- it waits: for an owner, or for a result, where a run of the callee may be started
  pub record Awaits (j : IntentId) : Type 0 where
    pub run : Run
    pub is : callee_of r ≡ Some run
    pub id : run.id ≡ j
    pub calls : CallsIt run
    pub stuck : Cost d room e asked first most (seat run) ≡ 0 → Stuck d room e asked first most (seat r) ≡ Some (seat run)

  module _ (w : Wait) (output : next_output c m r g ≡ StageOutput.Waits w) where
    abbrev Same : Core
    Same = turned_core (counted c) i r.id (turned_by d r g (StageOutput.Waits w))

    still_waits : Pays d room e asked first most i runs keys 0 f Same N
    still_waits = stands_still w (EventReply.Crowded) output

    module _ (j : IntentId) (t : Awaits j) (none : has_run (put_run c.runs i (Some r)) j ≡ false) where
      callee_it : IsCallee t.run
      callee_it = record { is = t.is; deadline = t.calls.deadline; kind = refl }

      paid_it : Paid d room e asked first most c keys (seat t.run)
      paid_it = by_cost (Cost d room e asked first most (seat t.run)) refl
        where
          by_cost : (x : ℕ) → Cost d room e asked first most (seat t.run) ≡ x → Paid d room e asked first most c keys (seat t.run)
          by_cost zero free = its.2 (seat t.run) (t.stuck free)
          by_cost (suc x) cost = ledger.open_covered (seat t.run) (omega (arith, cost)) t.calls.open_still

      in_keys : IsIn (seat t.run) keys
      in_keys = its_key t.run callee_it t.calls.body t.calls.registers paid_it r refl (subst (λ z. has_run (put_run c.runs i (Some r)) z ≡ false) (sym t.id) none)

      abbrev Kept : List RowKey
      Kept = without (seat t.run) keys

      abbrev Amount : ℕ
      Amount = Due d room e asked first most (seat t.run)

      abbrev After : Core
      After = with_run Same t.run

      new_it : Pays_new After (Some (t.run, Amount)) Kept
      new_it = called t.run callee_it t.calls.body t.calls.registers After 1 Kept Amount refl (put_self (put_run c.runs i (Some r)) (c.last_run + 1) (Some t.run)) (by_key d room e asked first most keys (seat t.run) in_keys) (ledger.keys_worth (seat t.run) in_keys)

      last_later : first ≤ c.last_run + 1
      last_later = let since = ledger.since in omega (arith, since)

      lasting : Leaves d room e asked first most c After m N keys Kept
      lasting = leaves d room e asked first most past i c m r a runs keys sound ledger next live has mine alive After N Kept (Some (t.run, Amount)) r g refl refl last_later rows full new_it.keep new_it.within refl refl

      starts_it : Pays d room e asked first most past runs keys 1 f After N
      starts_it = pays d room e asked first most past i c m r a runs keys ledger sound.upkeep.invariant.runs.numbers next live has After N Kept (Some r) (Some (t.run, Amount)) refl past a lasting
          (λ z is. subst (λ y. Covered d room e asked first most past After N Kept i y a) (run_is is) (stays_so d room e asked first most lasting past past i r a (λ h z later at2 stage. absurd (no_async w output h z at2 stage)) mine)) new_it.new 1 f
          (pay a Amount (Keys d room e asked first most Kept) (Keys d room e asked first most keys) (f * (most + 1)) (by_key d room e asked first most keys (seat t.run) in_keys).less)
        where
          run_is : {x y : Run} → Some x ≡ Some y → x ≡ y
          run_is h = cc

          pay : (a x k l f : ℕ) → 1 + (x + k) ≤ l → 1 + (a + x + k) ≤ a + l + f
          pay a x k l f h = omega arith

  abbrev Answered : Core × EventReply → Type 0
  Answered y = Paying d room e asked first most past i c m r runs keys f y N

  pub waits_so : (w : Wait) → next_output c m r g ≡ StageOutput.Waits w → ((j : IntentId) → w ≡ Wait.Result j → Awaits j) → Turn (turned_by d r g (StageOutput.Waits w))
  waits_so (Wait.Held o) output awaits sb = still_waits (Wait.Held o) output
  waits_so Wait.Worn output awaits sb = still_waits Wait.Worn output
  waits_so (Wait.Result j) output awaits sb = either Answered (has_run (put_run c.runs i (Some r)) j) _ _ (λ t. still_waits (Wait.Result j) output)
      (λ none. either Answered (is_crowded (Same (Wait.Result j) output)) _ _ (λ t. still_waits (Wait.Result j) output) (λ t. by_callee (callee_of r) (awaits j refl).is none))
    where
      by_callee : (o : Option Run) → o ≡ Some (awaits j refl).run → has_run (put_run c.runs i (Some r)) j ≡ false → Answered (made r.id (output_of (turned_by d r g (StageOutput.Waits (Wait.Result j)))) (started (Same (Wait.Result j) output) o))
      by_callee None is none = absurd (no_some is)
        where
          no_some : {x : Run} → None ≡ Some x → ⊥
          no_some h = cc
      by_callee (Some q) is none = subst (λ z. Pays d room e asked first most past runs keys 1 f (with_run (Same (Wait.Result j) output) z) N) (sym (run_is is)) (starts_it (Wait.Result j) output j (awaits j refl) none)
        where
          run_is : {x y : Run} → Some x ≡ Some y → x ≡ y
          run_is h = cc

  -- ---- a call that nobody waits for is noted, and a run of the callee may be started
  pub record NotedIt (q : Run) : Type 0 where
    pub looks : q.at ≡ RunAt.Looks
    pub deadline : q.deadline ≡ r.deadline
    pub found : HasBody d room e asked first most N q
    -- one that has ended is paid by its caller
    pub extra : has_ended (map.get m (seat q)) ≡ true → suc (begun_left m its.0) ≤ Spare d room e asked first most (seat r) + a

  module _ (v : Answer) (output : next_output c m r g ≡ StageOutput.Starts v) (not_close : is_close g.stage ≡ true → ⊥) (noted : (q : Run) → callee_of r ≡ Some q → NotedIt q) where
    abbrev Z : Machine × Option RunTx
    Z = local_steps d r.id (takes d g.machine g.tx v)

    module _ (w : Stage) (is_first : first_stage r.id g.caller Z.1 Z.0.steps Z.0.effect ≡ Some w) where
      abbrev H : Begun
      H = record { machine = Z.0; caller = g.caller; tx = Z.1; stage = w }

      abbrev Next : Run
      Next = record r { at = RunAt.Begins H }

      abbrev Mean : Core
      Mean = turned_core (counted c) i r.id (record (goes_from r Z g.caller None (Some w)) { starts = true })

      answer_to : (b : Core) (u : New) (kept : List RowKey) → b.runs ≡ with_new (c.last_run + 1) u (put_run c.runs i (Some Next)) → b.now ≡ c.now → first ≤ b.last_run → Sound d b N → Pays_new b u kept → Pays d room e asked first most past runs keys 1 f b N
      answer_to b u kept runs_so now_so last_ok sb paid = answers b u kept Next H runs_so now_so last_ok refl refl refl sb paid (output_lower (StageOutput.Starts v) output) refl (steps_rise d c m i r g v sound live at (subst (λ y. TellsAnswer y v) (sym output) refl)) is_first

      module _ (q : Run) (is : callee_of r ≡ Some q) (none : has_run (put_run c.runs i (Some Next)) q.id ≡ false) (sb : Sound d (with_run Mean q) N) where
        new_last : first ≤ c.last_run + 1
        new_last = let since = ledger.since in omega (arith, since)

        some_cost : 1 ≤ Cost d room e asked first most (seat q)
        some_cost = let h = (noted q is).found in body_costs d room e asked first most q.id (seat q) h.body refl (body_on goes (seat q) h.body h.there)

        new_at : (kept : List RowKey) (x turns : ℕ) → Funds d room e asked first most keys (seat q) turns kept x → 1 ≤ x → (has_ended (map.get N (seat q)) ≡ false → Cost d room e asked first most (seat q) ≤ most) → Pays_new (with_run Mean q) (Some (q, x)) kept
        new_at kept x turns fund some worth = new_paid (with_run Mean q) q turns kept x fund (put_self (put_run c.runs i (Some Next)) (c.last_run + 1) (Some q))
            (new_covered (with_run Mean q) q kept x refl (noted q is).deadline (subst (Covers d room e asked first most past (with_run Mean q) N kept (c.last_run + 1) q x) (sym (noted q is).looks) (some, λ open_still. fund.enough)) worth (λ looks. (noted q is).found))

        by_its_key : has_ended (map.get m (seat q)) ≡ false → Pays d room e asked first most past runs keys 1 f (with_run Mean q) N
        by_its_key open_still =
            let there = key_in_keys (ledger.open_covered (seat q) some_cost open_still) in let p = splits d room e asked first most (seat q) in
            answer_to (with_run Mean q) (Some (q, Due d room e asked first most (seat q))) (without (seat q) keys) refl refl new_last sb
            (new_at (without (seat q) keys) (Due d room e asked first most (seat q)) 1 (by_key d room e asked first most keys (seat q) there) (p.some some_cost) (λ o. ledger.keys_worth (seat q) there))
          where
            key_in_keys : Paid d room e asked first most c keys (seat q) → IsIn (seat q) keys
            key_in_keys (inl there) = there
            key_in_keys (inr st) = absurd (not_started Next refl q.id none (seat q) refl st)

        by_extra : has_ended (map.get m (seat q)) ≡ true → Pays d room e asked first most past runs keys 1 f (with_run Mean q) N
        by_extra over_it =
            let b = with_run Mean q in
            let lives = own_live d room e asked first most past i c m r a runs keys ledger sound.upkeep.invariant.runs.numbers next live has b N keys (Some Next) (Some (q, 1)) refl in
            let its1 = stands_then b Next H sb lives refl in
            let few1 = next_few d room e asked first most N r Next g H refl refl its.0 its1 (steps_rise d c m i r g v sound live at (subst (λ y. TellsAnswer y v) (sym output) refl)) is_first in
            let p = splits d room e asked first most (seat r) in
            let two = two_less (Left m g.stage) (rest_left its.0) (begun_left N its1) (Spare d room e asked first most (seat r)) a p.one (output_lower (StageOutput.Starts v) output) few1 (left_then b Next H sb lives refl its1) ((noted q is).extra over_it) in
            goes_at d room e asked first most past i c m r a runs keys sound ledger next live has mine alive b N keys (Some (q, 1)) Next H refl refl new_last rows full (λ k there. inl there) (λ k there. there) refl refl f two.0 refl its1
            (cover_stage d room e asked first most past b N i Next H (begun_left N its1) (Spare d room e asked first most (seat r) + two.0) w two.2 (λ z is later. absurd (later (firsts_open r.id g.caller Z.1 Z.0.steps Z.0.effect z (is_first ∙ ap Some is)))))
            its.2
            (λ z is. subst (λ (y : Run × ℕ). Covered d room e asked first most past b N keys (c.last_run + 1) y.0 y.1) (pair_is is)
            (new_covered b q keys 1 refl (noted q is_callee).deadline (subst (Covers d room e asked first most past b N keys (c.last_run + 1) q 1) (sym (noted q is_callee).looks) (omega arith, λ open_still. absurd (not_open open_still))) (λ open_still. absurd (not_open open_still)) (λ looks. (noted q is_callee).found)))
            (pay a two.0 (Keys d room e asked first most keys) (f * (most + 1)) two.1)
          where
            is_callee : callee_of r ≡ Some q
            is_callee = is

            pair_is : {y z : Run × ℕ} → Some y ≡ Some z → y ≡ z
            pair_is h = cc

            not_open : has_ended (map.get N (seat q)) ≡ false → ⊥
            not_open h = let clash : true ≡ false = sym (ended_stays rows (seat q) over_it) ∙ h in cc

            pay : (a x k f : ℕ) → suc (suc x) ≡ a → 1 + (x + 1 + k) ≤ a + k + f
            pay a x k f h = omega arith

            two_less : (l rest l1 s a : ℕ) → s ≤ 1 → 1 ≤ l → l1 ≤ rest → 1 ≤ l1 → suc (l + rest) ≤ s + a → (x : ℕ) × (suc (suc x) ≡ a) × (l1 ≤ s + x)
            two_less l rest l1 s zero few some less left h = absurd (omega (arith, few, some, less, left, h))
            two_less l rest l1 s (suc zero) few some less left h = absurd (omega (arith, few, some, less, left, h))
            two_less l rest l1 s (suc (suc x)) few some less left h = (x, refl, omega (arith, few, some, less, left, h))

        with_noted : Pays d room e asked first most past runs keys 1 f (with_run Mean q) N
        with_noted = by_cases (has_ended (map.get m (seat q))) by_extra by_its_key

      by_noted : (o : Option Run) → callee_of r ≡ o → let y = made r.id (output_of (record (goes_from r Z g.caller None (Some w)) { starts = true })) (may_start Mean o) in Sound d y.0 N → Paying d room e asked first most past i c m r runs keys f y N
      by_noted None is sb = answer_to Mean None keys refl refl ledger.since sb (none_new Mean)
      by_noted (Some q) is sb = either (λ (p : Core × Option ℕ). Sound d p.0 N → Pays d room e asked first most past runs keys 1 f p.0 N) (has_run (put_run c.runs i (Some Next)) q.id || is_crowded Mean) _ _
          (λ t sb. answer_to Mean None keys refl refl ledger.since sb (none_new Mean)) (λ t. with_noted q is (first_false (has_run (put_run c.runs i (Some Next)) q.id) (is_crowded Mean) t)) sb

    pub noted_so : Turn (turned_by d r g (StageOutput.Starts v))
    noted_so = by_stage (first_stage r.id g.caller Z.1 Z.0.steps Z.0.effect) refl (ap (λ (t : Turned). t.next) (turn_is (StageOutput.Starts v) output))
      where
        by_stage : (o : Option Stage) → first_stage r.id g.caller Z.1 Z.0.steps Z.0.effect ≡ o → (next_turn d c m r).next ≡ (goes_from r Z g.caller None o).next → Turn (record (goes_from r Z g.caller None o) { starts = true })
        by_stage None is none sb = absurd (not_close (no_turn_over d c m r g checked begun_it none))
        by_stage (Some w) is next_is sb = by_noted w is (callee_of r) refl sb

  -- ---- whatever it says
  pub record BegunKnows : Type 0 where
    -- a call that nobody waits for, midway
    pub mid : (w : Stage) (k : Option Mark) → next_output c m r g ≡ StageOutput.On w k → let s : Run = record r { at = RunAt.Begins (at_stage g w) } in Midway (turn_next (counted c) i r (turned_by d r g (StageOutput.On w k))).0 s (at_stage g w) (begun_left N (restand its.0 w))
    pub opened : (k : Option Mark) → next_output c m r g ≡ StageOutput.Opens k → (q : Run) → callee_of r ≡ Some q → CallsIt q
    pub no_close : (v : Answer) → next_output c m r g ≡ StageOutput.Starts v → is_close g.stage ≡ true → ⊥
    pub noted : (v : Answer) → next_output c m r g ≡ StageOutput.Starts v → (q : Run) → callee_of r ≡ Some q → NotedIt q
    pub awaits : (j : IntentId) → next_output c m r g ≡ StageOutput.Waits (Wait.Result j) → Awaits j

  pub begun_so : BegunKnows → Turn (next_turn d c m r)
  begun_so k = subst Turn (sym (turn_is (next_output c m r g) refl)) (by_output (next_output c m r g) refl)
    where
      by_output : (y : StageOutput) → next_output c m r g ≡ y → Turn (turned_by d r g y)
      by_output (StageOutput.On w u) output = on w u output (k.mid w u output)
      by_output StageOutput.Stays output = absurd (output_lower StageOutput.Stays output)
      by_output (StageOutput.Opens u) output = opens u output (k.opened u output)
      by_output (StageOutput.Starts v) output = noted_so v output (k.no_close v output) (k.noted v output)
      by_output (StageOutput.Waits w) output = waits_so w output (λ j is. k.awaits j (output ∙ ap StageOutput.Waits is))
      by_output (StageOutput.Answers v u) output = answered v u output
      by_output (StageOutput.Ends u o) output = ends u o output
