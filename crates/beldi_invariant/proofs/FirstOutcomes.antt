-- An outcome that a root gets by an event is told by it: its row gets the outcome by an act that only the end of its run makes.
use Rattle.std.specs.FinMap as map
use Rattle.std.proofs.Common.{◌≡◌, ℕ, Bool, true, false, List, ◌&&◌, Option, None, Some, Result, Ok, Err, ap, ap₂, cond, if◌then◌else◌, inl, inr, nat_lt, option_map, refl, [], subst, sym, ◌+◌, ◌-◌, ◌==◌, ◌^◌, ◌||◌, ◌∙◌, ◌⊎◌}
use Rattle.std.specs.Ordering.{is_eq}
use Rattle.std.proofs.lemmas.Option.{same_Some}
use Rattle.beldi_value.specs.{Id.has_callees, Id.has_no_hops, Id.root_of, declared.id.IntentId.IntentId, declared.outcome.Outcome.Outcome, declared.place.Caller.Caller, declared.place.Owner.Owner, declared.place.Place.Place, declared.place.TxId.TxId, declared.value.Value.Value}
use Rattle.beldi_tree.specs.declared.deployment.Deployment.{Deployment}
use Rattle.beldi_lang.specs.declared.effect.Effect.{Effect, TheVariants.Return}
use Rattle.beldi_book.specs.LinearOrder.{count_changes}
use Rattle.beldi_plain.specs.{Plain.outcome_of, Plain.reply_of}
use Rattle.beldi_row.specs.declared.act.Act.TheVariants.{Look, Bind, End, Stamp}
use Rattle.beldi_row.specs.Act.{removes, stays_unless, act, bind_to, did, end_with, off, on, stamp_with}
use Rattle.beldi_row.{proofs.Gets.got, proofs.Gets.key_same, specs.Key.RowKey, specs.Key.key_cmp, specs.Table.Rows, specs.declared.act.Act.Act, specs.declared.key.Kind.Kind, specs.declared.row.Body.Body, specs.declared.row.Cell.Cell, specs.declared.row.IntentRow.IntentRow, specs.declared.row.InvokeRow.InvokeRow, specs.declared.row.Row.Row, specs.declared.table.TableErr.TableErr}
use Rattle.beldi_query.{proofs.Lent.refused_stand, specs.Query.CameOn, specs.Query.QueryReply, specs.Query.rows_after, specs.Query.replied, specs.Query.query_reply, specs.declared.query.Query.Query}
use Rattle.beldi_daal.specs.{Cell.cell_key, Cell.shadow_key, Cell.write_asks, declared.cell.CellOp.CellOp, declared.cell.WriteAt.WriteAt, declared.cell.WriteAt.TheVariants.Try, declared.cell.WriteAt.TheVariants.Make, declared.cell.WriteAt.TheVariants.Append, declared.cell.WriteAt.TheVariants.Link}
use Rattle.beldi_lock.specs.{Lock.asks_at as lock_asks_at, declared.lock.LockAt.LockAt}
use Rattle.beldi_intent.specs.Intent.{intent_key, root_key}
use Rattle.beldi_txn.specs.{End.first_visit, End.free_asks, End.free_place, End.shadow_asks, End.visit_asks, End.visited_by, Tx.aside_asks, Tx.asks_of, Tx.item_asks, Tx.item_of, Tx.op_of, CallPath.Member, declared.end.EndAt.EndAt, declared.end.EndState.EndState, declared.tx.TxAt.TxAt, declared.call_path.Called.Called}
use Rattle.beldi_call.specs.{Async.async_asks, declared.async_call.AsyncAt.AsyncAt, declared.call.CallAt.CallAt}
use Rattle.beldi_step.specs.HostStep.{Core, EventBy, Followed, Plan, asks, immediate, counted, crash_plan, on_reply, is_crowded, last_moment, plan, plan_of, reads_all, run_next, run_plan, turn_next}
use Rattle.beldi_step.specs.Run.{OnCell, asks_at, async_here_asks, back_to_asks, call_here_asks, callee_body, cell_op, close_asks, end_by_asks, end_here_asks, own_tx, place_of, put_asks, reply_if, run_asks, run_told, stage_asks, stage_output, notify_asks, told_at, turned_by, tx_here_asks, tx_of, walk_asks}
use Rattle.beldi_step.specs.declared.run.{Begun.Begun, Run.Run, RunAt.RunAt, RunAt.TheVariants.Begins, RunTx.RunTx, Stage.Stage}
use Rattle.beldi_step.specs.declared.event.Event.TheVariants.{Crash, Halt, Ic, Lost, Request, Restart, Tick, Ticket, Turn}
use Rattle.beldi_step.specs.{EventContent.is_dropped, EventContent.is_lost, EventContent.reply_outcome, declared.event.Event.Event, declared.event.EventReply.EventReply}
use Rattle.beldi_histories.specs.RowMatching.{BodyMatches, RootMatches}
use Rattle.beldi_step.proofs.StepRuns.{of_plan}
use Rattle.beldi_invariant.specs.{InvariantLaws.FirstOutcomesAreTold, Invariant.Invariant}
use Rattle.beldi_invariant.proofs.{Events.keeps_invariant, Moves.if_plan, Outside.outcome_recorded, Standing.same_run}

-- ---- the outcome of a root in the plain state is that of its row
abbrev outcome_in : Option Row → Option Outcome
outcome_in (Some (Row.Intent i)) = i.outcome
outcome_in r = None

module _ (d : Deployment) (c : Core) (m : Rows) (h : Invariant d c m) (t : ℕ) where
  by_body : (b : Option Body) (o : Option Outcome) → (b ≡ None → o ≡ None) → BodyMatches b o (map.get h.histories (root_of t)) → outcome_of (map.get h.histories (root_of t)) ≡ o
  by_body None o bare root = ap outcome_of root ∙ sym (bare refl)
  by_body (Some b) o bare root = ap outcome_of root.0.made ∙ root.1

  by_row : (r : Option Row) → RootMatches true r (map.get h.histories (root_of t)) → outcome_of (map.get h.histories (root_of t)) ≡ outcome_in r
  by_row None root = ap outcome_of root
  by_row (Some (Row.Intent i)) root = by_body i.body i.outcome root.bare root.body
  by_row (Some r) root = absurd root

  reply_in : reply_of h.plain t ≡ outcome_in (map.get m (root_key t))
  reply_in = sym (outcome_recorded d h.plain h.histories h.extends (root_of t) (λ k is. (h.well_formed.roots t k is).1)) ∙ by_row (map.get m (root_key t)) (h.rows.keys (root_key t))

-- ---- an act that gives a row its outcome
abbrev EndsBy : Act → ℕ → Option Row → Outcome → Type 0
EndsBy a now r o = (s : Bool) × (a ≡ End o s) × ((act a now r).1 ≡ did)

body_same : (f : ℕ) (v : Value) (i : IntentRow) (b : Option Body) → (bind_to f v i b).0.outcome ≡ i.outcome
body_same f v i None = refl
body_same f v i (Some b) = refl

stamp_same : (now : ℕ) (i : IntentRow) (f : Option ℕ) → (stamp_with now i f).0.outcome ≡ i.outcome
stamp_same now i None = refl
stamp_same now i (Some f) = refl

ended_by : (p : Outcome) (s : Bool) (now : ℕ) (i : IntentRow) (o : Outcome) (u : Option Outcome) → u ≡ None → i.outcome ≡ u → (end_with p s now i u).0.outcome ≡ Some o → (p ≡ o) × ((end_with p s now i u).1 ≡ did)
ended_by p s now i o None none is e = (same_outcome p o e, refl)
  where
    same_outcome : (x y : Outcome) → Some x ≡ Some y → x ≡ y
    same_outcome x y e = cc
ended_by p s now i o (Some q) none is e = cc

module _ (now : ℕ) (o : Outcome) where
  on_root : (a : Act) (i : IntentRow) → i.outcome ≡ None → outcome_in (Some (on a now (Row.Intent i)).0) ≡ Some o → EndsBy a now (Some (Row.Intent i)) o
  on_root (Bind f v) i none is = absurd (let clash = sym none ∙ sym (body_same f v i i.body) ∙ is in cc)
  on_root (End p s) i none is = let e = ended_by p s now i o i.outcome none refl is in (s, ap (λ z. End z s) e.0, e.1)
  on_root Stamp i none is = absurd (let clash = sym none ∙ sym (stamp_same now i i.finish) ∙ is in cc)
  on_root a i none is = absurd (let clash = sym none ∙ is in cc)

  -- rows of other kinds have none
  log_none : (a : Act) (v : Value) → outcome_in (Some (on a now (Row.ReadLog v)).0) ≡ None
  log_none Look v = refl
  log_none a v = refl

  call_none : (a : Act) (v : InvokeRow) → outcome_in (Some (on a now (Row.Invoke v)).0) ≡ None
  call_none Look v = refl
  call_none a v = refl

  cell_none : (a : Act) (c : Cell) → outcome_in (Some (on a now (Row.Cell c)).0) ≡ None
  cell_none Look c = refl
  cell_none a c = refl

  lockset_none : (a : Act) → outcome_in (Some (on a now Row.Lockset).0) ≡ None
  lockset_none Look = refl
  lockset_none a = refl

  on_other : (a : Act) (r : Row) → outcome_in (Some r) ≡ None → outcome_in (Some (on a now r).0) ≡ Some o → EndsBy a now (Some r) o
  on_other a (Row.Intent i) none is = on_root a i none is
  on_other a (Row.ReadLog v) none is = absurd (let clash = sym (log_none a v) ∙ is in cc)
  on_other a (Row.Invoke v) none is = absurd (let clash = sym (call_none a v) ∙ is in cc)
  on_other a (Row.Cell c) none is = absurd (let clash = sym (cell_none a c) ∙ is in cc)
  on_other a Row.Lockset none is = absurd (let clash = sym (lockset_none a) ∙ is in cc)

  off_none : (a : Act) → outcome_in (off a now).0 ≡ None
  off_none Look = refl
  off_none a = refl

  ends_row : (a : Act) (r : Option Row) → outcome_in r ≡ None → outcome_in (act a now r).0 ≡ Some o → EndsBy a now r o
  ends_row a None none is = absurd (let clash = sym (off_none a) ∙ is in cc)
  ends_row a (Some r) none is = by_stay (removes a now r) refl is
    where
      by_stay : (b : Bool) → removes a now r ≡ b → outcome_in (stays_unless b (on a now r)).0 ≡ Some o → EndsBy a now (Some r) o
      by_stay true goes is = cc
      by_stay false goes is = on_other a r none is

-- .. and a query
EndsAt : Query → ℕ → Rows → ℕ → Outcome → Type 0
EndsAt q now m t o = (s : Bool) × (q ≡ Query.Act (root_key t) (End o s)) × (query_reply q now m ≡ replied did)

ends_query : (q : Query) (now : ℕ) (m : Rows) (t : ℕ) (o : Outcome) → outcome_in (map.get m (root_key t)) ≡ None → outcome_in (map.get (rows_after q now m) (root_key t)) ≡ Some o → EndsAt q now m t o
unfolding EndsAt
ends_query (Query.After k) now m t o none is = absurd (let clash = sym none ∙ is in cc)
ends_query (Query.Act k a) now m t o none is = by (is_eq (key_cmp (root_key t) k)) refl (sym (ap outcome_in (got m k (root_key t) (act a now (map.get m k)).0)) ∙ is)
  where
    at_root : (r : RowKey) → root_key t ≡ r → outcome_in (act a now (map.get m r)).0 ≡ Some o → EndsAt (Query.Act r a) now m t o
    at_root r same = subst (λ z. outcome_in (act a now (map.get m z)).0 ≡ Some o → EndsAt (Query.Act z a) now m t o) same
        (λ e. let h = ends_row now o a (map.get m (root_key t)) none e in (h.0, ap (λ z. Query.Act (root_key t) z) h.1, ap replied h.2))

    by : (b : Bool) → is_eq (key_cmp (root_key t) k) ≡ b → outcome_in (cond b (act a now (map.get m k)).0 (map.get m (root_key t))) ≡ Some o → EndsAt (Query.Act k a) now m t o
    by true same e = at_root k (key_same (root_key t) k same) e
    by false apart e = absurd (let clash = sym none ∙ e in cc)

-- ---- only a run at its end asks for it
abbrev ends : Query → Bool
ends (Query.Act k (End o s)) = true
ends q = false

write_silent : (k : RowKey) (p : Place) (who : Owner) (op : CellOp) (w : WriteAt) → ends (write_asks k p who op w) ≡ false
write_silent k p who (CellOp.Write v) (Try r) = refl
write_silent k p who (CellOp.Cond t u v) (Try r) = refl
write_silent k p who CellOp.Lock (Try r) = refl
write_silent k p who (CellOp.Free v) (Try r) = refl
write_silent k p who op Make = refl
write_silent k p who op (Append n t) = refl
write_silent k p who op (Link n) = refl

lock_silent : (home t : ℕ) (k : List ℕ) (p : Place) (who : Owner) (a : LockAt) → ends (lock_asks_at home t k p who a) ≡ false
lock_silent home t k p who (LockAt.Lockset b) = refl
lock_silent home t k p who (LockAt.Item w) = write_silent (cell_key home t k) p who CellOp.Lock w

walk_silent : (id : IntentId) (func row : ℕ) (e : Effect) → ends (walk_asks id func row e) ≡ false
walk_silent id func row (Effect.Read t k) = refl
walk_silent id func row e = refl

put_silent : (id : IntentId) (func step : ℕ) (w : WriteAt) (o : Option OnCell) → ends (put_asks id func step w o) ≡ false
put_silent id func step w None = refl
put_silent id func step w (Some o) = write_silent (cell_key func o.table o.key) (place_of id step) (Owner.Intent id) o.op w

aside_silent : (home : ℕ) (p : Place) (x : TxId) (k : RowKey) (w : WriteAt) (o : Option CellOp) → ends (aside_asks home p x k w o) ≡ false
aside_silent home p x k w None = refl
aside_silent home p x k w (Some o) = write_silent k p (Owner.Tx x) o w

item_silent : (home : ℕ) (p : Place) (x : TxId) (e : Effect) (t : ℕ) (k : List ℕ) (a : TxAt) → ends (item_asks home p x e t k a) ≡ false
item_silent home p x e t k TxAt.Log = refl
item_silent home p x e t k (TxAt.Lock l) = lock_silent home t k p (Owner.Tx x) l
item_silent home p x e t k TxAt.Seek = refl
item_silent home p x e t k (TxAt.Shadow r) = refl
item_silent home p x e t k (TxAt.Item r) = refl
item_silent home p x e t k (TxAt.Keep v) = refl
item_silent home p x e t k (TxAt.Head v) = refl
item_silent home p x e t k (TxAt.Write w) = aside_silent home p x (shadow_key home x t k) w (op_of e)

operation_silent : (home : ℕ) (p : Place) (x : TxId) (e : Effect) (a : TxAt) (i : Option (ℕ × List ℕ)) → ends (asks_of home p x e a i) ≡ false
operation_silent home p x e a None = refl
operation_silent home p x e a (Some i) = item_silent home p x e i.0 i.1 a

tx_silent : (id : IntentId) (func step : ℕ) (e : Effect) (a : TxAt) (o : Option RunTx) → ends (tx_here_asks id func step e a o) ≡ false
tx_silent id func step e a None = refl
tx_silent id func step e a (Some o) = operation_silent func (place_of id step) (tx_of id func o) e a (item_of e)

shadow_silent : (x : TxId) (p : Member) (r : ℕ) (i : Option (ℕ × List ℕ)) → ends (shadow_asks x p r i) ≡ false
shadow_silent x p r None = refl
shadow_silent x p r (Some i) = refl

free_silent : (x : TxId) (p : Member) (at : Place) (v : Option Value) (w : WriteAt) (i : Option (ℕ × List ℕ)) → ends (free_asks x p at v w i) ≡ false
free_silent x p at v w None = refl
free_silent x p at v w (Some i) = write_silent (cell_key p.1 i.0 i.1) at (Owner.Tx x) (CellOp.Free v) w

visit_silent : (x : TxId) (end : ℕ) (commit : Bool) (cs : List Called) (after : Option ℕ) (i : Option (ℕ × List ℕ)) (v : Option Value) (a : EndAt) → ends (visit_asks x end commit cs after i v a) ≡ false
visit_silent x end commit cs after i v EndAt.Decide = refl
visit_silent x end commit cs after i v EndAt.Callees = refl
visit_silent x end commit cs after i v EndAt.Next = refl
visit_silent x end commit cs after i v (EndAt.Shadow r) = shadow_silent x (visited_by x cs) r i
visit_silent x end commit cs after i v (EndAt.Free w) = free_silent x (visited_by x cs) (free_place x end cs) v w i
visit_silent x end commit cs after i v EndAt.Stamp = refl

end_by_silent : (id : IntentId) (func step : ℕ) (commit : Bool) (v : EndState) (o : Option RunTx) → ends (end_by_asks id func step commit v o) ≡ false
end_by_silent id func step commit v None = refl
end_by_silent id func step commit v (Some (RunTx.Inherited x)) = refl
end_by_silent id func step commit v (Some (RunTx.Own o)) = visit_silent (own_tx id func o) step commit v.path v.after v.item v.value v.at

end_silent : (id : IntentId) (func step : ℕ) (e : Effect) (v : EndState) (o : Option RunTx) → ends (end_here_asks id func step e v o) ≡ false
end_silent id func step (Effect.End commit) v o = end_by_silent id func step commit v o
end_silent id func step e v o = refl

call_silent : (id : IntentId) (func step : ℕ) (e : Effect) (a : CallAt) → ends (call_here_asks id func step e a) ≡ false
call_silent id func step (Effect.Call f v) CallAt.Open = refl
call_silent id func step (Effect.Call f v) CallAt.Look = refl
call_silent id func step e a = refl

opens_silent : (home : ℕ) (p : Place) (b : Body) (a : AsyncAt) → ends (async_asks home p b a) ≡ false
opens_silent home p b AsyncAt.Open = refl
opens_silent home p b AsyncAt.Register = refl
opens_silent home p b AsyncAt.Note = refl

if_silent : (b : Bool) (q u : Query) → ends q ≡ false → ends u ≡ false → ends (if b then q else u) ≡ false
if_silent true q u h k = h
if_silent false q u h k = k

async_silent : (id : IntentId) (func step : ℕ) (e : Effect) (a : AsyncAt) → ends (async_here_asks id func step e a) ≡ false
async_silent id func step (Effect.Async f v) a = if_silent (has_callees id) _ _ (opens_silent func (place_of id step) (callee_body id func step f v None false) a) refl
async_silent id func step e a = refl

back_silent : (id : IntentId) (func : ℕ) (c : Option Caller) (e : Effect) → ends (back_to_asks id func c e) ≡ false
back_silent id func (Some c) (Effect.Return o) = refl
back_silent id func c e = refl

tell_silent : (id : IntentId) (func : ℕ) (c : Option Caller) → ends (notify_asks id func c) ≡ false
tell_silent id func None = refl
tell_silent id func (Some c) = refl

-- a run that asks for an end of a root stands at the end of that root's body, which returns the outcome
record AtEnd (r : Run) (t : ℕ) (o : Outcome) : Type 0 where
  begun : Begun
  begins : r.at ≡ Begins begun
  stage : begun.stage ≡ Stage.Close
  effect : begun.machine.effect ≡ Return o
  root : r.id ≡ root_of t

ends_not : {X : Type 0} (q : Query) (k : RowKey) (o : Outcome) (s : Bool) → ends q ≡ false → q ≡ Query.Act k (End o s) → X
ends_not q k o s silent is = absurd (let clash = sym silent ∙ ap ends is in cc)

abbrev key_of : Query → RowKey
key_of (Query.Act k a) = k
key_of (Query.After k) = k

abbrev intent_of : Kind → IntentId
intent_of (Kind.Intent i) = i
intent_of k = record { ticket = 0; hops = [] }

abbrev outcome_asked : Query → Option Outcome
outcome_asked (Query.Act k (End o s)) = Some o
outcome_asked q = None

-- at the end, by the effect
closes : (id : IntentId) (func : ℕ) (x : Option RunTx) (e : Effect) (t : ℕ) (o : Outcome) (s : Bool) → close_asks id func x e ≡ Query.Act (root_key t) (End o s) → (e ≡ Return o) × (id ≡ root_of t)
closes id func x (Effect.Return p) t o s is = (ap Effect.Return (same_Some p o (ap outcome_asked is)), ap (λ q. intent_of (key_of q).kind) is)
closes id func x e t o s is = ends_not (Query.Act (intent_key id func) Look) (root_key t) o s refl is

module _ (id : IntentId) (func : ℕ) (c : Option Caller) (x : Option RunTx) (step : ℕ) (e : Effect) (t : ℕ) (o : Outcome) (s : Bool) where
  abbrev Closes : Stage → Type 0
  Closes w = (w ≡ Stage.Close) × (e ≡ Return o) × (id ≡ root_of t)

  by_stage : (w : Stage) → stage_asks id func c x step e w ≡ Query.Act (root_key t) (End o s) → Closes w
  by_stage Stage.Ask is = ends_not (stage_asks id func c x step e Stage.Ask) (root_key t) o s refl is
  by_stage (Stage.Walk row) is = ends_not (walk_asks id func row e) (root_key t) o s (walk_silent id func row e) is
  by_stage (Stage.Keep v version) is = ends_not (stage_asks id func c x step e (Stage.Keep v version)) (root_key t) o s refl is
  by_stage (Stage.Write w) is = ends_not (put_asks id func step w (cell_op e)) (root_key t) o s (put_silent id func step w (cell_op e)) is
  by_stage (Stage.Tx a) is = ends_not (tx_here_asks id func step e a x) (root_key t) o s (tx_silent id func step e a x) is
  by_stage (Stage.Decide m) is = ends_not (end_here_asks id func step e first_visit x) (root_key t) o s (end_silent id func step e first_visit x) is
  by_stage (Stage.End v) is = ends_not (end_here_asks id func step e v x) (root_key t) o s (end_silent id func step e v x) is
  by_stage (Stage.Call a) is = ends_not (call_here_asks id func step e a) (root_key t) o s (call_silent id func step e a) is
  by_stage (Stage.Async a) is = ends_not (async_here_asks id func step e a) (root_key t) o s (async_silent id func step e a) is
  by_stage Stage.Back is = ends_not (back_to_asks id func c e) (root_key t) o s (back_silent id func c e) is
  by_stage Stage.Notify is = ends_not (notify_asks id func c) (root_key t) o s (tell_silent id func c) is
  by_stage Stage.Close is = let h = closes id func x e t o s is in (refl, h.0, h.1)

run_ends : (r : Run) (a : RunAt) (t : ℕ) (o : Outcome) (s : Bool) → r.at ≡ a → asks_at r a ≡ Query.Act (root_key t) (End o s) → AtEnd r t o
run_ends r RunAt.Looks t o s at is = ends_not (asks_at r RunAt.Looks) (root_key t) o s refl is
run_ends r (RunAt.Registers b) t o s at is = ends_not (asks_at r (RunAt.Registers b)) (root_key t) o s refl is
run_ends r (Begins g) t o s at is =
    let h = by_stage r.id r.func g.caller g.tx g.machine.steps g.machine.effect t o s g.stage is in
    record { begun = g; begins = at; stage = h.0; effect = h.1; root = h.2 }

-- ---- the turn that was told so tells the outcome
turn_tells : (d : Deployment) (c : Core) (i : ℕ) (r : Run) (k t : ℕ) (o : Outcome) → AtEnd r t o → reply_outcome (turn_next c i r (run_told d k r (replied did))).1 ≡ Some (t, o)
turn_tells d c i r k t o h =
    ap (λ a. reply_outcome (turn_next c i r (told_at d k r a (replied did))).1) h.begins
    ∙ ap₂ (λ e w. reply_outcome (turn_next c i r (turned_by d r h.begun (stage_output r.id r.func h.begun.caller h.begun.tx k h.begun.machine.steps e w (replied did)))).1) h.effect h.stage
    ∙ ap (λ (id : IntentId). option_map (λ (v : Outcome). (id.ticket, v)) (reply_if (has_no_hops id.hops) o)) h.root

-- ---- which event asks so
abbrev EndsRun : Event → Core → ℕ → Outcome → Type 0
EndsRun e c t o = (i : ℕ) × (r : Run) × (map.get c.runs i ≡ Some r) × AtEnd r t o × ((e ≡ Turn i) ⊎ (e ≡ Lost i))

module _ (d : Deployment) (c : Core) (t : ℕ) (o : Outcome) (s : Bool) where
  abbrev asked : Query
  asked = Query.Act (root_key t) (End o s)

  abbrev Asks : Event → Plan → Type 0
  Asks e p = p ≡ asks asked → EndsRun e c t o

  same_asked : (u v : Query) → asks u ≡ asks v → u ≡ v
  same_asked u v e = cc

  by_run : (e : Event) (i : ℕ) (u : Option Run) → map.get c.runs i ≡ u → ((e ≡ Turn i) ⊎ (e ≡ Lost i)) → Asks e (run_plan c i u)
  by_run e i None live one = λ is. cc
  by_run e i (Some r) live one = if_plan (Asks e) (nat_lt r.deadline c.now) _ _ (λ late is. cc) (λ time is. (i, r, live, run_ends r r.at t o s refl (same_asked (run_asks r) asked is), one))

  by_crash : (e : Event) (i : ℕ) (u : Option Run) → Asks e (crash_plan c i u)
  by_crash e i None = λ is. cc
  by_crash e i (Some r) = if_plan (Asks e) (nat_lt r.deadline c.now) _ _ (λ late is. cc) (λ time is. cc)

  by_event : (e : Event) → Asks e (plan_of d e c)
  by_event Ticket = if_plan (Asks Ticket) (c.newest == 2 ^ 32 - 1) _ _ (λ t is. cc) (λ t is. cc)
  by_event (Request u f a) = if_plan (Asks (Request u f a)) ((u == 0) || nat_lt c.newest u) _ _ (λ t is. cc) (λ t. if_plan (Asks (Request u f a)) (is_crowded c) _ _ (λ t is. cc) (λ t is. cc))
  by_event (Turn i) = by_run (Turn i) i (map.get c.runs i) refl (inl refl)
  by_event (Lost i) = by_run (Lost i) i (map.get c.runs i) refl (inr refl)
  by_event (Crash i) = by_crash (Crash i) i (map.get c.runs i)
  by_event (Restart id f) = if_plan (Asks (Restart id f)) (is_crowded c) _ _ (λ t is. cc) (λ t is. cc)
  by_event (Tick n) = if_plan (Asks (Tick n)) (nat_lt last_moment (c.now + n)) _ _ (λ t is. cc) (λ t is. cc)
  by_event Ic = λ is. cc
  by_event Halt = λ is. cc

-- .. and its answer tells the outcome, unless it was lost
heard_so : (d : Deployment) (e : Event) (c b : Core) (x : EventReply) (t : ℕ) (o : Outcome) → EndsRun e c t o → (b, x) ≡ on_reply d e c (replied did) → (is_lost e && is_dropped x) ≡ false → reply_outcome x ≡ Some (t, o)
heard_so d e c b x t o h is kept = by h.4
  where
    so : (f : Event) → e ≡ f → reply_outcome x ≡ reply_outcome (on_reply d f c (replied did)).1
    so f same = ap (λ (z : Core × EventReply). reply_outcome z.1) is ∙ ap (λ g. reply_outcome (on_reply d g c (replied did)).1) same

    by : (e ≡ Turn h.0) ⊎ (e ≡ Lost h.0) → reply_outcome x ≡ Some (t, o)
    by (inl same) = so (Turn h.0) same ∙ ap (λ u. reply_outcome (run_next d c h.0 (replied did) u).1) h.2 ∙ turn_tells d c h.0 h.1 (count_changes c.book) t o h.3
    by (inr same) =
        let dropped : x ≡ EventReply.Dropped = ap (λ (z : Core × EventReply). z.1) is ∙ ap (λ g. (on_reply d g c (replied did)).1) same in
        absurd (let clash = sym kept ∙ ap₂ (λ g y. is_lost g && is_dropped y) same dropped in cc)

-- ---- every event
module _ (d : Deployment) (room old new : ℕ) (e : Event) (c b : Core) (m n : Rows) (x : EventReply) (kept : (is_lost e && is_dropped x) ≡ false) (t : ℕ) (o : Outcome) (before : outcome_in (map.get m (root_key t)) ≡ None) (now : outcome_in (map.get n (root_key t)) ≡ Some o) where
  rows_changed : {X : Type 0} → n ≡ m → X
  rows_changed same = absurd (let clash = sym before ∙ ap (λ l. outcome_in (map.get l (root_key t))) (sym same) ∙ now in cc)

  by_came : (q : Query) (w : Result QueryReply TableErr) → plan d e c ≡ asks q → Followed d e (counted c) w b (Ok x) → CameOn q (counted c).now room w m n → reply_outcome x ≡ Some (t, o)
  unfolding EndsAt
  by_came q (Ok u) is heard_of came =
      let h = ends_query q c.now m t o before (ap (λ l. outcome_in (map.get l (root_key t))) (sym came.0) ∙ now) in
      let run = of_plan d e c (Asks d (counted c) t o h.0 e) (λ few. by_event d (counted c) t o h.0 e) (λ shut at. cc) (λ at. cc) (is ∙ ap asks h.1) in
      heard_so d e (counted c) b x t o run (heard_of ∙ ap (on_reply d e (counted c)) (came.1 ∙ h.2)) kept
  by_came q (Err v) is heard_of came = rows_changed (refused_stand q c.now room v m n came)

  by_plan : (p : Plan) → plan d e c ≡ p → EventBy d room old new e (counted c) p m b n (Ok x) → reply_outcome x ≡ Some (t, o)
  by_plan (immediate k y) is s = rows_changed s.1
  by_plan (asks q) is s = by_came q s.0 is s.1 s.2
  by_plan reads_all is s = rows_changed s.2.0

pub first_outcomes_are_told : FirstOutcomesAreTold
first_outcomes_are_told d room old new e c b m n x h s kept t o none has =
    let after = keeps_invariant d room old new e c b m n (Ok x) h s in
    by_plan d room old new e c b m n x kept t o (sym (reply_in d c m h t) ∙ none h.plain h.legal)
    (sym (reply_in d b n after t) ∙ ap (λ p. reply_of p t) (same_run d b n has.run after has.legal) ∙ has.reply) (plan d e c) refl s
