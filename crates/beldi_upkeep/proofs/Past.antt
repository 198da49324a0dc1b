-- Every event keeps that calls which intents and live runs are past may be passed.
use Rattle.beldi_intent.specs.Intent.{issue_asks}
use Rattle.beldi_row.specs.declared.act.Act.{Act}
use Rattle.beldi_invariant.proofs.Names.{Begins, Begun, Body, Core, Deployment, Func, Instance, Knows, KnowsAt, Looks, Machine, None, Option, Query, Registers, Invariant, RowAct, RowKey, Rows, Run, RunAt, RunTx, Some, Value, [], after_act, ap, arith, asks_at, at_begin, begin_in, bind_asks, body_registered, body_told, count_changes, func_at, get-empty, inl, inr, intent_key, invoke_key, is_some, key_cmp, machine_begun, nat_cmp, place_of, refl, root_key, rows_after, run_asks, subst, sym, told_at, query_reply, inherited_tx, ℕ, ◌<◌, ◌∙◌, ◌≡◌, ◌⊎◌}
use Rattle.beldi_invariant.proofs.Names.map
use Rattle.beldi_invariant.proofs.Names.standing
use Rattle.beldi_invariant.proofs.{Events.keeps_invariant, StageTurns.MachineAt, StageTurns.steps_there}
use Rattle.beldi_upkeep.specs.Passed.{BeginsPast, KeepsPast, MayPass, PastCalls, RunsPast, may_pass}
use Rattle.beldi_upkeep.proofs.{PastAsks.IsQuiet, PastAsks.no_both, PastAsks.nothing, PastActs.opens_call, PastGaps.gap_pass, PastRows.may_on, PastRows.past_on, PastOutputs.IsPast, PastOutputs.PastTo, PastOutputs.goes_past, PastStages.run_kept, PastStages.turn_past, PastTurns.turn_kept, OutputOwes.no_run, Shapes.RunFrom, Shapes.Rooted, Shapes.RunsFrom, Shapes.has_begun, Shapes.shape}

-- ---- over no rows
pub past_begins : BeginsPast
past_begins now = (
  record { each = λ k i n shows f. ap may_pass (get-empty key_cmp (invoke_key f (place_of i n))) },
  record { each = λ n r g live. let clash = sym (get-empty nat_cmp n) ∙ live in cc },
)

-- ---- an event
module _ (d : Deployment) (c : Core) (m : Rows) (h : Invariant d c m) (past : PastCalls m) (runs : RunsPast c m) where
  -- each live run is past what it was past
  abbrev Still : Rows → Type 0
  Still n = (j : ℕ) (s : Run) (z : Begun) → map.get c.runs j ≡ Some s → s.at ≡ Begins z → Knows d h.histories s z → (x : ℕ) → x < z.machine.steps → MayPass n s.id x

  same : Still m
  same j s z there at knows = runs.each j s z there at

  quiet_rows : (k : RowKey) (a : RowAct) → IsQuiet a → PastCalls (after_act a c.now k m)
  quiet_rows k a q = past_on m c.now k a (λ i n does. absurd (nothing a q k.kind i n does)) (λ i n o. absurd (no_both (opens_call a) q.opens o.opens)) past

  quiet_still : (k : RowKey) (a : RowAct) → IsQuiet a → Still (after_act a c.now k m)
  quiet_still k a q j s z there at knows x less = may_on m c.now k a s.id x (λ o. no_both (opens_call a) q.opens o.opens) (runs.each j s z there at x less)

  -- ---- the live runs after it
  module _ (b : Core) (n : Rows) (h2 : Invariant d b n) (next : Option Run) (from : RunsFrom c.runs next b.runs) (still : Still n)
      (goes : (k : Run) (g : Begun) → next ≡ Some k → k.at ≡ Begins g → Knows d h2.histories k g → (x : ℕ) → x < g.machine.steps → MayPass n k.id x) where
    runs_past : RunsPast b n
    runs_past = record { each = λ i r g live at. by_from i r g live at (from i r live) }
      where
        by_from : (i : ℕ) (r : Run) (g : Begun) → map.get b.runs i ≡ Some r → r.at ≡ Begins g → RunFrom c.runs next i r → (x : ℕ) → x < g.machine.steps → MayPass n r.id x
        by_from i r g live at (inl was) = still i r g was at (subst (KnowsAt d m h.plain c.book h.histories r) at (subst (RunAt d m h.plain c.book h.histories) was (h.runs.runs i))).0
        by_from i r g live at (inr (inl new)) = let clash = sym (ap has_begun at) ∙ new in cc
        by_from i r g live at (inr (inr turned)) = goes r g turned at (subst (KnowsAt d n h2.plain b.book h2.histories r) at (subst (RunAt d n h2.plain b.book h2.histories) live (h2.runs.runs i))).0

  -- ---- a turn
  module _ (i : ℕ) (r : Run) (live : map.get c.runs i ≡ Some r) where
    abbrev GoesOn : standing.RunAt → Type 0
    GoesOn at = let n = rows_after (asks_at r at) c.now m in PastCalls n × Still n × ((b : Core) (h2 : Invariant d b n) → IsPast d b n h2 r (told_at d (count_changes c.book) r at (query_reply (asks_at r at) c.now m)).next)

    -- a run that begins is past what takes no turn
    begins_past : (b : Core) (n : Rows) (h2 : Invariant d b n) (y : Body) → PastTo d b n h2 r (machine_begun d r.func y.args (is_some y.tx), inherited_tx y.tx) y.parent
    begins_past b n h2 y stands x less =
        let q : Instance = record { func = r.func; args = y.args; answers = []; outcome = None; parent = y.parent; enclosing = y.tx } in
        let s : Machine × Option RunTx = (machine_begun d r.func y.args (is_some y.tx), inherited_tx y.tx) in
        let at : MachineAt d r.func q [] s = record { machine = at_begin d r.func y.args (is_some y.tx); open_there = refl } in
        let l = steps_there d r.func q refl [] s at in
        gap_pass d b n h2 r.id r.func q refl [] s at y.parent stands x (omega (arith, l)) less

    begin_past : (b : Core) (n : Rows) (h2 : Invariant d b n) (f : Option Func) (y : Option Body) → IsPast d b n h2 r (begin_in d r f y).next
    begin_past b n h2 None None = λ k g is at stands. absurd (no_run k is)
    begin_past b n h2 None (Some y) = λ k g is at stands. absurd (no_run k is)
    begin_past b n h2 (Some f) None = λ k g is at stands. absurd (no_run k is)
    begin_past b n h2 (Some f) (Some y) = goes_past d b n h2 r (machine_begun d r.func y.args (is_some y.tx), inherited_tx y.tx) y.parent None (begins_past b n h2 y)

    at_goes : (at : standing.RunAt) → r.at ≡ at → KnowsAt d m h.plain c.book h.histories r at → GoesOn at
    at_goes Looks is k = (
      quiet_rows (intent_key r.id r.func) Act.Look (record { read = refl; opens = refl; back = refl; ends = refl; notes = refl }),
      quiet_still (intent_key r.id r.func) Act.Look (record { read = refl; opens = refl; back = refl; ends = refl; notes = refl }),
      λ b h2. begin_past b (rows_after (asks_at r Looks) c.now m) h2 (func_at d r.func) (body_told r.func (query_reply (asks_at r Looks) c.now m)),
    )
    at_goes (Registers y) is k = (
      quiet_rows (intent_key r.id y.func) (Act.Register y) (record { read = refl; opens = refl; back = refl; ends = refl; notes = refl }),
      quiet_still (intent_key r.id y.func) (Act.Register y) (record { read = refl; opens = refl; back = refl; ends = refl; notes = refl }),
      λ b h2. begin_past b (rows_after (asks_at r (Registers y)) c.now m) h2 (func_at d r.func) (body_registered r.func y (query_reply (asks_at r (Registers y)) c.now m)),
    )
    at_goes (Begins g) is k = (
      turn_kept d c m h past runs i r live g is k.0 k.1,
      run_kept d c m h past runs i r live g is k.0 k.1,
      turn_past d c m h past runs i r live g is k.0 k.1,
    )

    turn_goes : GoesOn r.at
    turn_goes = at_goes r.at refl (subst (RunAt d m h.plain c.book h.histories) live (h.runs.runs i))

pub keeps_past : KeepsPast
keeps_past d room old new e c b m n r h past runs s =
    let h2 = keeps_invariant d room old new e c b m n r h s in
    elim (shape d room old new e c b m n r s) [
      | inl still ↦ subst (λ l. (h2 : Invariant d b l) → PastCalls l × RunsPast b l) (sym still.rows) (λ h2. (past, runs_past d c m h past runs b m h2 None still.runs (same d c m h past runs) (λ r g is. cc))) h2
      | inr (inl root) ↦ subst (λ l. (h2 : Invariant d b l) → PastCalls l × RunsPast b l) (sym root.rows) (rooted root) h2
      | inr (inr turn) ↦ subst (λ l. (h2 : Invariant d b l) → PastCalls l × RunsPast b l) (sym turn.rows) (λ h2.
          let goes = turn_goes d c m h past runs turn.number turn.run turn.live_there in
          (goes.0, runs_past d c m h past runs b (rows_after (run_asks turn.run) c.now m) h2 _ turn.runs goes.1 (goes.2 b h2))) h2
    ]
  where
    rooted : (root : Rooted d c.runs c.now (count_changes c.book) b.runs m n) → (h2 : Invariant d b (rows_after root.query c.now m)) → PastCalls (rows_after root.query c.now m) × RunsPast b (rows_after root.query c.now m)
    rooted root = by_asked root.query root.asked
      where
        set : (k : RowKey) (a : RowAct) → IsQuiet a → (h2 : Invariant d b (after_act a c.now k m)) → PastCalls (after_act a c.now k m) × RunsPast b (after_act a c.now k m)
        set k a q h2 = (quiet_rows d c m h past runs k a q, runs_past d c m h past runs b (after_act a c.now k m) h2 None root.runs (quiet_still d c m h past runs k a q) (λ r g is. cc))

        by_asked : (q : Query) → ((t : ℕ) × (q ≡ issue_asks t)) ⊎ ((t : ℕ) × ((f : ℕ) × ((a : Value) × (q ≡ bind_asks t f a)))) → (h2 : Invariant d b (rows_after q c.now m)) → PastCalls (rows_after q c.now m) × RunsPast b (rows_after q c.now m)
        by_asked q (inl is) = subst (λ q. (h2 : Invariant d b (rows_after q c.now m)) → PastCalls (rows_after q c.now m) × RunsPast b (rows_after q c.now m)) (sym is.1) (set (root_key is.0) Act.Issue (record { read = refl; opens = refl; back = refl; ends = refl; notes = refl }))
        by_asked q (inr is) = subst (λ q. (h2 : Invariant d b (rows_after q c.now m)) → PastCalls (rows_after q c.now m) × RunsPast b (rows_after q c.now m)) (sym is.1.1.1) (set (root_key is.0) (Act.Bind is.1.0 is.1.1.0) (record { read = refl; opens = refl; back = refl; ends = refl; notes = refl }))
