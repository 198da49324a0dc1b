-- Whom live runs work for, what is so of these, and whose rows a run asks for.
use Rattle.std.specs.Prelude.{◌≡◌, ◌⊎◌, ℕ, Bool, true, false, Option, Some, None, is_some, Result}
use Rattle.std.specs.declared.alloc.AllocError.{AllocError}
use Rattle.std.specs.FinMap as map
use Rattle.beldi_value.specs.{Id.child_of, declared.id.IntentId.IntentId, declared.place.Caller.Caller, declared.place.TxId.TxId}
use Rattle.beldi_tree.specs.declared.deployment.Deployment.{Deployment}
use Rattle.beldi_lang.specs.declared.effect.Effect.{Effect}
use Rattle.beldi_row.specs.{Key.RowKey, Table.Rows, declared.act.Act.Act, declared.row.IntentRow.IntentRow, declared.row.Row.Row}
use Rattle.beldi_query.specs.declared.query.Query.{Query}
use Rattle.beldi_invokelog.specs.InvokeLog.{call_at, invoke_key, result_in}
use Rattle.beldi_intent.specs.Intent.{intent_key}
use Rattle.beldi_txn.specs.{End.visited_by, declared.end.EndAt.EndAt, declared.end.EndState.EndState}
use Rattle.beldi_call.specs.declared.async_call.AsyncAt.{AsyncAt}
use Rattle.beldi_step.specs.{HostStep.Core, HostStep.EventOn, Run.own_tx, Run.run_asks, declared.event.Event.Event, declared.event.EventReply.EventReply, declared.run.Begun.Begun, declared.run.Run.Run, declared.run.RunAt.TheVariants.Looks, declared.run.RunAt.TheVariants.Registers, declared.run.RunAt.TheVariants.Begins, declared.run.RunTx.RunTx, declared.run.RunTx.TheVariants.Inherited, declared.run.RunTx.TheVariants.Own, declared.run.Stage.Stage}
use Rattle.beldi_step.specs.declared.run.RunAt as standing
use Rattle.beldi_histories.specs.Stands.{key_in}
use Rattle.beldi_invariant.specs.{FoundInside.has_finish, Invariant.Invariant}
use Rattle.beldi_upkeep.specs.{Callees.Seats, Callees.belongs_to, Checked.is_visit}

-- ---- whom a run works for: its own intent, the owner of the transaction that it was called in, and the callee that it is to register
abbrev pub IsOwner : Option TxId → IntentId → Type 0
IsOwner None i = ⊥
IsOwner (Some t) i = i ≡ t.intent

abbrev pub called_in : Option RunTx → Option TxId
called_in (Some (Inherited t)) = Some t
called_in o = None

abbrev pub IsRegistered : Run → ℕ → Effect → Stage → IntentId → Type 0
IsRegistered r step (Effect.Async g a) (Stage.Async AsyncAt.Register) i = i ≡ child_of r.id step
IsRegistered r step e s i = ⊥

abbrev pub WorksFor : Run → standing.RunAt → IntentId → Type 0
WorksFor r Looks i = ⊥
WorksFor r (Registers b) i = (i ≡ r.id) ⊎ IsOwner b.tx i
WorksFor r (Begins g) i = (i ≡ r.id) ⊎ (IsOwner (called_in g.tx) i ⊎ IsRegistered r g.machine.steps g.machine.effect g.stage i)

-- ---- nobody begins to work for who is finished
abbrev pub finish_in : Option Row → Option ℕ
finish_in (Some (Row.Intent i)) = i.finish
finish_in r = None

-- no row of an intent has a finish, in whatever home
abbrev pub IsUnfinished : Rows → IntentId → Type 0
IsUnfinished m i = (home : ℕ) → finish_in (map.get m (key_in home i)) ≡ None

-- a live run of this deadline works for it
pub record IsWorkedFor (c : Core) (deadline : ℕ) (i : IntentId) : Type 0 where
  pub number : ℕ
  pub run : Run
  pub live : map.get c.runs number ≡ Some run
  pub works : WorksFor run run.at i
  pub due : run.deadline ≡ deadline

-- after an event each live run works for who was worked for before, by a run of its deadline, or was unfinished
abbrev pub NewWorkIsUnfinished : Type 0
NewWorkIsUnfinished = (d : Deployment) (room old new : ℕ) (e : Event) (c b : Core) (m n : Rows) (x : Result EventReply AllocError) → Invariant d c m → Seats m → EventOn d room old new e c m b n x
    → (k : ℕ) (r : Run) (i : IntentId) → map.get b.runs k ≡ Some r → WorksFor r r.at i → IsWorkedFor c r.deadline i ⊎ IsUnfinished m i

-- ---- whom a live run works for, and who called it, has a body, where it has its row
abbrev pub IsCaller : Option Caller → IntentId → Type 0
IsCaller None i = ⊥
IsCaller (Some z) i = i ≡ z.place.intent

abbrev pub CalledBy : standing.RunAt → IntentId → Type 0
CalledBy (Begins g) i = IsCaller g.caller i
CalledBy at i = ⊥

abbrev pub WorkIsBound : Type 0
WorkIsBound = (d : Deployment) (c : Core) (m : Rows) → Invariant d c m → (k : ℕ) (r : Run) (i : IntentId) → map.get c.runs k ≡ Some r → WorksFor r r.at i ⊎ CalledBy r.at i
    → (home : ℕ) (w : IntentRow) → map.get m (key_in home i) ≡ Some (Row.Intent w) → is_some w.body ≡ true

-- ---- a run that is to give its outcome to a caller that is finished finds it given
abbrev pub IsGivenToFinished : Type 0
IsGivenToFinished = (d : Deployment) (c : Core) (m : Rows) → Invariant d c m → (k : ℕ) (r : Run) (g : Begun) (z : Caller) → map.get c.runs k ≡ Some r → r.at ≡ Begins g → g.stage ≡ Stage.Back → g.caller ≡ Some z
    → (home : ℕ) → has_finish (map.get m (key_in home z.place.intent)) ≡ true → is_some (result_in (call_at m (invoke_key z.func z.place))) ≡ true

-- ---- whose rows a run asks for
-- the row of the call that a run was started by
abbrev pub IsCallOf : Option Caller → RowKey → Type 0
IsCallOf None k = ⊥
IsCallOf (Some c) k = k ≡ invoke_key c.func c.place

-- .. of who is visited, as the visit is over
abbrev pub IsVisited : Run → Option RunTx → EndState → RowKey → Type 0
IsVisited r (Some (Own o)) v k = let p = visited_by (own_tx r.id r.func o) v.path in (v.at ≡ EndAt.Stamp) × (k ≡ intent_key p.0 p.1)
IsVisited r o v k = ⊥

-- the rows that a run asks for and that are of others: its caller's call, and who is visited at an end
abbrev pub IsOfOther : Run → Option Caller → Option RunTx → Stage → RowKey → Type 0
IsOfOther r c o Stage.Back k = IsCallOf c k
IsOfOther r c o Stage.Notify k = IsCallOf c k
IsOfOther r c o (Stage.End v) k = IsVisited r o v k
IsOfOther r c o s k = ⊥

-- .. and its own one before it has begun, as it is not known yet whether that is there
abbrev pub IsApart : Run → standing.RunAt → RowKey → Act → Type 0
IsApart r Looks k a = (k ≡ intent_key r.id r.func) × (a ≡ Act.Look)
IsApart r (Registers b) k a = ⊥
IsApart r (Begins g) k a = IsOfOther r g.caller g.tx g.stage k

abbrev pub is_visiting : standing.RunAt → Bool
is_visiting (Begins g) = is_visit g.stage
is_visiting at = false

-- a row that it asks for is an item's, or of whom it works for, or is one of these; the next row of others it asks for at an end alone
abbrev pub AsksSo : Run → standing.RunAt → Query → Type 0
AsksSo r at (Query.Act k a) = (i : IntentId) → belongs_to k.kind ≡ Some i → WorksFor r at i ⊎ IsApart r at k a
AsksSo r at (Query.After k) = is_visiting at ≡ true

abbrev pub RunsAskForWork : Type 0
RunsAskForWork = (r : Run) → AsksSo r r.at (run_asks r)
