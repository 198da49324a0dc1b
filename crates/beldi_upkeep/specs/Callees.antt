-- What the rows keep of who was called: whose a row is, that a callee is registered before it ends, and that an owner ends last.
use Rattle.std.specs.Prelude.{◌≡◌, ◌<◌, ℕ, Bool, true, false, Option, Some, None, is_some, Result}
use Rattle.std.specs.declared.alloc.AllocError.{AllocError}
use Rattle.std.specs.FinMap as map
use Rattle.beldi_value.specs.{Id.child_of, declared.id.IntentId.IntentId, declared.outcome.Outcome.Outcome, declared.place.Caller.Caller, declared.place.Owner.Owner, declared.place.Owner.TheVariants.Intent as ByIntent, declared.place.Owner.TheVariants.Tx as ByTx, declared.place.Place.Place, declared.place.TxId.TxId}
use Rattle.beldi_tree.specs.declared.deployment.Deployment.{Deployment}
use Rattle.beldi_lang.specs.declared.effect.Effect.{Effect}
use Rattle.beldi_plain.specs.Item.{Item}
use Rattle.beldi_row.specs.{Key.RowKey, Log.note_at, Table.Rows, declared.row.Body.Body, declared.row.IntentRow.IntentRow, declared.row.InvokeRow.InvokeRow, declared.row.Row.Row}
use Rattle.beldi_invokelog.specs.InvokeLog.{invoke_key, call_at, registered_in, result_in}
use Rattle.beldi_intent.specs.Intent.{intent_key}
use Rattle.beldi_call.specs.declared.async_call.AsyncAt.{AsyncAt}
pub use Rattle.beldi_prune.specs.Seat.{belongs_to, seat_of}
use Rattle.beldi_step.specs.{HostStep.Core, HostStep.EventOn, HostStep.first_core, Run.is_waited, Run.place_of, declared.event.Event.Event, declared.event.EventReply.EventReply, declared.run.Run.Run, declared.run.RunAt.TheVariants.Begins, declared.run.RunTx.RunTx, declared.run.RunTx.TheVariants.Inherited, declared.run.RunTx.TheVariants.Own, declared.run.Begun.Begun, declared.run.Stage.Stage}
use Rattle.beldi_histories.specs.{Contents.content_of, Stands.key_in}
use Rattle.beldi_invariant.specs.{FoundInside.has_finish, Invariant.Invariant}

-- the row of the owner of a transaction: a root's stands in the host's home
abbrev pub owner_key : TxId → RowKey
owner_key t = intent_key t.intent t.func

-- an intent's row there, with its body
pub record HasBody (m : Rows) (home : ℕ) (id : IntentId) (r : IntentRow) (b : Body) : Type 0 where
  pub there : map.get m (key_in home id) ≡ Some (Row.Intent r)
  pub body : r.body ≡ Some b

-- the row of an owner's intent: a transaction's is its owner's
abbrev pub HasIntentRow : Rows → Owner → Type 0
HasIntentRow m (ByTx t) = is_some (map.get m (owner_key t)) ≡ true
HasIntentRow m (ByIntent i) = (home : ℕ) × (is_some (map.get m (key_in home i)) ≡ true)

-- an item has the note of a place
abbrev pub IsNoted : Rows → Item → Place → Type 0
IsNoted m x p = is_some (note_at (content_of m x).notes p) ≡ true

pub record Seats (m : Rows) : Type 0 where
  -- each row belongs to an intent that has its row
  pub has_seat : (k : RowKey) (i : IntentId) → belongs_to k.kind ≡ Some i → is_some (map.get m k) ≡ true → is_some (map.get m (seat_of k i)) ≡ true
  -- the owner of a transaction has its finish only where all who took part have theirs ..
  pub ends_last : (t : TxId) (home : ℕ) (i : IntentId) (r : IntentRow) (b : Body) → has_finish (map.get m (owner_key t)) ≡ true → HasBody m home i r b → b.tx ≡ Some t → is_some r.finish ≡ true
  -- .. and owns nothing then
  pub owns_none : (t : TxId) (x : Item) → has_finish (map.get m (owner_key t)) ≡ true → (content_of m x).owner ≡ Some (ByTx t) → ⊥
  -- the owner of an item has its intent's row
  pub owner_has_row : (o : Owner) (x : Item) → (content_of m x).owner ≡ Some o → HasIntentRow m o
  -- a place that has its note is of an intent that has its row
  pub noted_has_row : (x : Item) (p : Place) → IsNoted m x p → is_some (map.get m (intent_key p.intent x.func)) ≡ true
  -- who nobody waits for has its outcome only once its call says that it is registered
  pub registered : (f : ℕ) (i : IntentId) (n : ℕ) (c : InvokeRow) (home : ℕ) (r : IntentRow) (b : Body) → map.get m (invoke_key f (place_of i n)) ≡ Some (Row.Invoke c) → c.registered ≡ false
      → HasBody m home (child_of i n) r b → is_waited b.parent ≡ false → r.outcome ≡ None
  -- .. and a call that says so has its callee's row
  pub enrolled : (f : ℕ) (i : IntentId) (n : ℕ) (c : InvokeRow) → map.get m (invoke_key f (place_of i n)) ≡ Some (Row.Invoke c) → c.registered ≡ true → is_some (map.get m (key_in c.func (child_of i n))) ≡ true

-- ---- what live runs have done for it
-- a run that is to end, whose caller does not wait, has told its caller that it is registered
abbrev pub HasTold : Stage → Option Caller → Rows → Type 0
HasTold Stage.Close (Some b) m = b.waits ≡ false → registered_in (call_at m (invoke_key b.func b.place)) ≡ true
HasTold s b m = Unit {0}

-- a run that is to mark a call as registered has put its callee's row
abbrev pub HasPut : Stage → Effect → IntentId → Rows → Type 0
HasPut (Stage.Async AsyncAt.Note) (Effect.Async f a) callee m = is_some (map.get m (key_in f callee)) ≡ true
HasPut s e callee m = Unit {0}

-- the Begin of a run's own transaction, where one is open
abbrev pub open_begin : Option RunTx → Option ℕ
open_begin None = None
open_begin (Some (Own o)) = Some o.begin
open_begin (Some (Inherited t)) = None

-- a transaction of a run's own that it is past: it was begun, and is not open
pub record IsPassed (id : IntentId) (steps : ℕ) (o : Option RunTx) (t : TxId) : Type 0 where
  pub own : t.intent ≡ id
  pub begun : t.begin < steps
  pub ended : open_begin o ≡ Some t.begin → ⊥

-- who took part in a transaction has its finish, by its row
abbrev pub AllFinished : Rows → TxId → Type 0
AllFinished m t = (home : ℕ) (i : IntentId) (r : IntentRow) (b : Body) → HasBody m home i r b → b.tx ≡ Some t → is_some r.finish ≡ true

-- what a run of an intent owes the rows
pub record RunOwes (m : Rows) (id : IntentId) (g : Begun) : Type 0 where
  pub told : HasTold g.stage g.caller m
  pub put : HasPut g.stage g.machine.effect (child_of id g.machine.steps) m
  -- all who took part in a transaction that it is past have their finish
  pub closed : (t : TxId) → IsPassed id g.machine.steps g.tx t → AllFinished m t

-- .. and all that live
pub record RunsOwe (c : Core) (m : Rows) : Type 0 where
  pub each : (n : ℕ) (r : Run) (g : Begun) → map.get c.runs n ≡ Some r → r.at ≡ Begins g → RunOwes m r.id g

-- ---- the laws
-- over no rows they hold, with no run
abbrev pub BeginsSeated : Type 0
BeginsSeated = (now : ℕ) → Seats map.empty × RunsOwe (first_core 0 now) map.empty

-- an event keeps them, whatever it came to
abbrev pub KeepsSeats : Type 0
KeepsSeats = (d : Deployment) (room old new : ℕ) (e : Event) (c b : Core) (m n : Rows) (r : Result EventReply AllocError) → Invariant d c m → Seats m → RunsOwe c m → EventOn d room old new e c m b n r → Seats n × RunsOwe b n

-- the row of the callee of a call, with its body, which says who called it
pub record HasCallee (m : Rows) (f : ℕ) (i : IntentId) (n : ℕ) (c : InvokeRow) : Type 0 where
  pub row : IntentRow
  pub body : Body
  pub has : HasBody m c.func (child_of i n) row body
  pub caller : Caller
  pub parent : body.parent ≡ Some caller
  pub place : caller.place ≡ place_of i n
  pub func : caller.func ≡ f

-- a call that says that it is registered has its callee's row, in the home of the function called
abbrev pub RegisteredHaveCallees : Type 0
RegisteredHaveCallees = (d : Deployment) (c : Core) (m : Rows) → Invariant d c m → Seats m → (f : ℕ) (i : IntentId) (n : ℕ) (x : InvokeRow) → map.get m (invoke_key f (place_of i n)) ≡ Some (Row.Invoke x) → x.registered ≡ true → HasCallee m f i n x

-- who has its outcome has told its caller: that it is registered, or, where the caller waits, the outcome
abbrev pub HasToldCaller : Rows → Caller → Bool → Outcome → Type 0
HasToldCaller m z false o = registered_in (call_at m (invoke_key z.func z.place)) ≡ true
HasToldCaller m z true o = result_in (call_at m (invoke_key z.func z.place)) ≡ Some o

abbrev pub EndedHaveTold : Type 0
EndedHaveTold = (d : Deployment) (c : Core) (m : Rows) → Invariant d c m → Seats m → (home : ℕ) (i : IntentId) (r : IntentRow) (b : Body) (z : Caller) (o : Outcome) → HasBody m home i r b → b.parent ≡ Some z → r.outcome ≡ Some o → HasToldCaller m z z.waits o

-- where a transaction owns an item, its owner's row, if it is there, has neither outcome nor finish
abbrev pub OwnersAreOpen : Type 0
OwnersAreOpen = (d : Deployment) (c : Core) (m : Rows) → Invariant d c m → Seats m → (t : TxId) (x : Item) (r : IntentRow) → (content_of m x).owner ≡ Some (ByTx t) → map.get m (owner_key t) ≡ Some (Row.Intent r) → (r.outcome ≡ None) × (r.finish ≡ None)
