-- What the first turn of a run tells of its intent: who begins has not ended, who is over has, and what is registered has its body.
use Rattle.std.proofs.Common.{◌≡◌, ℕ, eq-eqb, ◌≤◌, true, false, List, Option, Some, None, is_some, if◌then◌else◌, refl, sym, ap, subst, ◌∙◌}
use Rattle.std.specs.FinMap as map
use Rattle.beldi_value.specs.{declared.id.IntentId.IntentId}
use Rattle.beldi_tree.specs.{Names.func_at, declared.deployment.Deployment.Deployment, declared.deployment.Func.Func}
use Rattle.beldi_lang.specs.declared.effect.Answer.{Answer}
use Rattle.beldi_book.specs.LinearOrder.{count_changes}
use Rattle.beldi_row.specs.{Act.act, Key.RowKey, Table.Rows, declared.act.Act.Act, declared.row.Body.Body, declared.row.IntentRow.IntentRow, declared.row.Row.Row}
use Rattle.beldi_query.specs.{Query.rows_after, Query.replied, Query.query_reply}
use Rattle.beldi_intent.specs.Intent.{body_in, body_told, intent_key, is_ended, open_body}
use Rattle.beldi_histories.proofs.{Cases.by_cases, RowMaps.set_here}
use Rattle.beldi_step.specs.{HostStep.Core, Run.asks_at, Run.begin_in, Run.body_found, Run.body_registered, Run.run_asks, Run.told_at, declared.run.Run.Run, declared.run.RunAt.RunAt}
use Rattle.beldi_invariant.specs.Invariant.{KnowsAt, KnowsBody, RunAt as RunKnows}
use Rattle.beldi_upkeep.specs.Checked.{Checked, NoFirstTurnIsOver, StartedRootsAreOfIt, body_at, has_begun, next_body, next_turn}
use Rattle.beldi_bound.specs.{Ends.Sound, SettleWork.has_ended, SettleWork.seat}
use Rattle.beldi_bound.proofs.{Bodies.RowHas, Bodies.callee_func, Bodies.callee_has, Bodies.ended_has, Bodies.has_body, Costs.body_costs, Facts.GoesOn, Frames.Cost, Frames.body_on}

-- ---- what a row tells a run that begins
no_run : {s : Run} → None ≡ Some s → ⊥
no_run h = cc

begins : (d : Deployment) (r : Run) (f : Option Func) (i : IntentRow) (s : Run) → (begin_in d r f (body_in r.func (open_body i))).next ≡ Some s → is_ended i ≡ false
begins d r f i s h = by_cases (is_ended i) (λ t. absurd (no_run (sym (ap (λ b. (begin_in d r f (body_in r.func (if b then None else i.body))).next) t) ∙ h))) (λ o. o)

told_open : (d : Deployment) (r : Run) (f : Option Func) (o : Row) (s : Run) → (begin_in d r f (body_told r.func (replied (act Act.Look 0 (Some o)).1))).next ≡ Some s → has_ended (Some o) ≡ false
told_open d r f (Row.Intent i) s h = begins d r f i s h
told_open d r f o s h = refl

in_it : (func : ℕ) (b : Body) → b.func ≡ func → body_in func (Some b) ≡ Some b
in_it func b is = ap (λ t. if t then Some b else None) (eq-eqb b.func func is)

-- one that finds no body there finds that it has ended
told_over : (func : ℕ) (o : Row) (b : Body) → body_at (Some o) ≡ Some b → b.func ≡ func → body_told func (replied (act Act.Look 0 (Some o)).1) ≡ None → has_ended (Some o) ≡ true
told_over func (Row.Intent i) b has same none = by_cases (is_ended i) (λ t. t) (λ open_still.
    let found : body_in func (open_body i) ≡ Some b = ap (λ t. body_in func (if t then None else i.body)) open_still ∙ ap (body_in func) has ∙ in_it func b same in
    absurd (no_body (sym none ∙ found)))
  where
    no_body : None ≡ Some b → ⊥
    no_body h = cc
told_over func o b has same none = cc

module _ (d : Deployment) (c : Core) (m : Rows) (i : ℕ) (r : Run) (sound : Sound d c m) (live : map.get c.runs i ≡ Some r) where
  abbrev N : Rows
  N = rows_after (run_asks r) c.now m

  turn_at : (x : RunAt) → r.at ≡ x → next_turn d c m r ≡ told_at d (count_changes c.book) r x (query_reply (asks_at r x) c.now m)
  turn_at x at = ap (λ (y : RunAt). told_at d (count_changes c.book) r y (query_reply (asks_at r y) c.now m)) at

  knows : (b : Body) → r.at ≡ RunAt.Registers b → KnowsBody sound.upkeep.invariant.histories r b
  knows b at = let h = sound.upkeep.invariant in subst (KnowsAt d m h.plain c.book h.histories r) at (subst (RunKnows d m h.plain c.book h.histories) live (h.runs.runs i))

  its_seat : (b : Body) → r.at ≡ RunAt.Registers b → intent_key r.id b.func ≡ seat r
  its_seat b at = ap (intent_key r.id) (knows b at).func

  -- ---- who begins has not ended
  looks_open : (o : Option Row) (s : Run) → (begin_in d r (func_at d r.func) (body_told r.func (replied (act Act.Look c.now o).1))).next ≡ Some s → has_ended o ≡ false
  looks_open None s h = refl
  looks_open (Some o) s h = told_open d r (func_at d r.func) o s h

  registers_open : (b : Body) (o : Option Row) (s : Run) → (begin_in d r (func_at d r.func) (body_registered r.func b (replied (act (Act.Register b) c.now o).1))).next ≡ Some s → has_ended o ≡ false
  registers_open b None s h = refl
  registers_open b (Some o) s h = told_open d r (func_at d r.func) o s h

  pub begins_open : has_begun r.at ≡ false → (s : Run) → (next_turn d c m r).next ≡ Some s → has_ended (map.get m (seat r)) ≡ false
  begins_open yet s next = by_at r.at refl yet
    where
      by_at : (x : RunAt) → r.at ≡ x → has_begun x ≡ false → has_ended (map.get m (seat r)) ≡ false
      by_at RunAt.Looks at not_yet = looks_open (map.get m (seat r)) s (sym (ap (λ t. t.next) (turn_at RunAt.Looks at)) ∙ next)
      by_at (RunAt.Registers b) at not_yet = subst (λ k. has_ended (map.get m k) ≡ false) (its_seat b at) (registers_open b (map.get m (intent_key r.id b.func)) s (sym (ap (λ t. t.next) (turn_at (RunAt.Registers b) at)) ∙ next))
      by_at (RunAt.Begins g) at not_yet = cc

  -- ---- the row of what is registered has its body, before the turn or after it
  abbrev Key : Body → RowKey
  Key b = intent_key r.id b.func

  home_is : (b : Body) → r.at ≡ RunAt.Registers b → (Key b).home ≡ b.func
  home_is b at = ap (λ t. if t then 0 else b.func) (knows b at).callee

  there_has : (b : Body) → r.at ≡ RunAt.Registers b → is_some (map.get m (Key b)) ≡ true → (h : RowHas (map.get m (Key b))) × (h.body.func ≡ r.func)
  there_has b at there =
      let below = (knows b at).callee in
      let h = callee_has d c m sound.upkeep.invariant (Key b).home r.id below there in
      (h, callee_func d c m sound.upkeep.invariant (Key b).home r.id below h ∙ home_is b at ∙ (knows b at).func)

  registered_body : (b : Body) → r.at ≡ RunAt.Registers b → (y : Body) × (body_at (map.get N (seat r)) ≡ Some y)
  registered_body b at = subst (λ k. (y : Body) × (body_at (map.get N k) ≡ Some y)) (its_seat b at) (by_row (map.get m (Key b)) refl)
    where
      now_is : map.get N (Key b) ≡ (act (Act.Register b) c.now (map.get m (Key b))).0
      now_is = ap (λ (x : RunAt). map.get (rows_after (asks_at r x) c.now m) (Key b)) at ∙ set_here m (Key b) (act (Act.Register b) c.now (map.get m (Key b))).0

      by_row : (o : Option Row) → map.get m (Key b) ≡ o → (y : Body) × (body_at (map.get N (Key b)) ≡ Some y)
      by_row None is = (b, ap body_at (now_is ∙ ap (λ z. (act (Act.Register b) c.now z).0) is))
      by_row (Some w) is = let h = there_has b at (ap is_some is) in (h.0.body, ap body_at (now_is ∙ ap (λ z. (act (Act.Register b) c.now z).0) is ∙ sym is) ∙ has_body h.0)

  -- ---- who is over has ended
  module _ (no_first : NoFirstTurnIsOver) (of_it : StartedRootsAreOfIt) where
    checked : Checked d c m
    checked = record { invariant = sound.upkeep.invariant; rules = sound.rules; roots = of_it d c m sound.upkeep.started sound.starts }

    none_found : has_begun r.at ≡ false → (next_turn d c m r).next ≡ None → next_body c m r ≡ None
    none_found yet none = by_body (next_body c m r) refl
      where
        by_body : (o : Option Body) → next_body c m r ≡ o → o ≡ None
        by_body None is = refl
        by_body (Some b) is = absurd (no_first d c m i r b checked live yet is none)

    found_at : (x : RunAt) → r.at ≡ x → next_body c m r ≡ body_found r.func x (query_reply (asks_at r x) c.now m)
    found_at x at = ap (λ (y : RunAt). body_found r.func y (query_reply (asks_at r y) c.now m)) at

    looks_over : (o : Option Row) (b : Body) → body_at o ≡ Some b → b.func ≡ r.func → body_found r.func RunAt.Looks (replied (act Act.Look c.now o).1) ≡ None → has_ended o ≡ true
    looks_over None b has same none = cc
    looks_over (Some o) b has same none = told_over r.func o b has same none

    registers_over : (b : Body) → b.func ≡ r.func → (o : Option Row) → (is_some o ≡ true → (y : Body) × (body_at o ≡ Some y) × (y.func ≡ r.func)) → body_found r.func (RunAt.Registers b) (replied (act (Act.Register b) c.now o).1) ≡ None → has_ended o ≡ true
    registers_over b same None has none = absurd (no_body (sym none ∙ in_it r.func b same))
      where
        no_body : None ≡ Some b → ⊥
        no_body h = cc
    registers_over b same (Some o) has none = let h = has refl in told_over r.func o h.0 h.1 h.2 none

    pub over_ended : has_begun r.at ≡ false → (next_turn d c m r).next ≡ None → (r.at ≡ RunAt.Looks → (y : Body) × (body_at (map.get m (seat r)) ≡ Some y) × (y.func ≡ r.func)) → has_ended (map.get m (seat r)) ≡ true
    over_ended yet none looks = by_at r.at refl yet
      where
        by_at : (x : RunAt) → r.at ≡ x → has_begun x ≡ false → has_ended (map.get m (seat r)) ≡ true
        by_at RunAt.Looks at not_yet = let h = looks at in looks_over (map.get m (seat r)) h.0 h.1 h.2 (sym (found_at RunAt.Looks at) ∙ none_found yet none)
        by_at (RunAt.Registers b) at not_yet = subst (λ k. has_ended (map.get m k) ≡ true) (its_seat b at) (registers_over b (knows b at).func (map.get m (Key b))
            (λ there. let h = there_has b at there in (h.0.body, has_body h.0, h.1)) (sym (found_at (RunAt.Registers b) at) ∙ none_found yet none))
        by_at (RunAt.Begins g) at not_yet = cc

  -- ---- and costs something
  module _ (room : ℕ) (e : Rows) (asked : IntentId → List Answer) (first most : ℕ) where
    pub ended_costs : GoesOn m e → has_ended (map.get m (seat r)) ≡ true → 1 ≤ Cost d room e asked first most (seat r)
    ended_costs goes ends = let h = ended_has d c m sound.upkeep.invariant (seat r).home r.id ends in body_costs d room e asked first most r.id (seat r) h.body refl (body_on goes (seat r) h.body (has_body h))

    pub registers_costs : GoesOn N e → (b : Body) → r.at ≡ RunAt.Registers b → 1 ≤ Cost d room e asked first most (seat r)
    registers_costs goes b at = let h = registered_body b at in body_costs d room e asked first most r.id (seat r) h.0 refl (body_on goes (seat r) h.0 h.1)
