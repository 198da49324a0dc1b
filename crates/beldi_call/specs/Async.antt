-- A call that nobody waits for, as a machine that asks one thing a turn.
use Rattle.std.specs.Prelude.{◌≡◌, ℕ, ◌&&◌, Bool, true, false, is_some, is_none, Option, Ok}
use Rattle.std.specs.FinMap as map
use Rattle.beldi_value.specs.{Id.child_of, declared.id.IntentId.IntentId, declared.place.Place.Place}
use Rattle.beldi_row.specs.{Key.RowKey, declared.row.Body.Body, declared.row.Row.Row, Table.Rows, Table.TableState, Table.Tells}
use Rattle.beldi_query.specs.{declared.query.Query.Query, Query.QueryReply, Query.may_remove, Query.rows_after, Walk.Turned}
use Rattle.beldi_invokelog.specs.InvokeLog.{invoke_key, call_at, registered_in, open_asks, registered_asks, invoked_of, back_of}
use Rattle.beldi_invokelog.specs.declared.invoke_log.Back.{Back, TheVariants.Set, TheVariants.AlreadySet, TheVariants.Absent}
use Rattle.beldi_intent.specs.Intent.{intent_key, register_asks}
use Rattle.beldi_call.specs.declared.async_call.{AsyncAt.AsyncAt, AsyncAt.TheVariants.Open, AsyncAt.TheVariants.Register, AsyncAt.TheVariants.Note, AsyncOutput.AsyncOutput, AsyncOutput.TheVariants.Going, AsyncOutput.TheVariants.Opened, AsyncOutput.TheVariants.Done, AsyncWalk.AsyncWalk}

-- what is called at a place
abbrev pub callee_of : Place → IntentId
callee_of p = child_of p.intent p.step

-- ---- what is asked, and what follows from what is told
-- the call is opened; then the row of the callee is put; then the call is marked as registered
abbrev pub async_asks : ℕ → Place → Body → AsyncAt → Query
async_asks home p b Open = open_asks home p b.func
async_asks home p b Register = register_asks (callee_of p) b
async_asks home p b Note = registered_asks home p

-- what is said of a call that is there, by whether it is registered
abbrev pub open_output : Bool → Bool → AsyncOutput
open_output first false = Opened first
open_output first true = Done

abbrev pub note_output : Back → AsyncOutput
note_output Set = Done
note_output AlreadySet = Done
note_output Absent = Going

abbrev pub async_output : ℕ → AsyncAt → QueryReply → AsyncOutput
async_output func Open t = open_output (invoked_of func t).added (invoked_of func t).registered
async_output func Register t = Going
async_output func Note t = note_output (back_of t)

-- where the call stands after it said so
abbrev pub opened_next : AsyncOutput → AsyncAt
opened_next (Opened first) = Register
opened_next s = Open

abbrev pub async_next : AsyncAt → AsyncOutput → AsyncAt
async_next Open s = opened_next s
async_next Register s = Note
async_next Note s = Note

-- ---- as a walk
abbrev pub first_async : ℕ → Place → Body → AsyncWalk
first_async home p b = record { home = home; place = p; body = b; at = Open }

abbrev pub walk_asks : AsyncWalk → Query
walk_asks w = async_asks w.home w.place w.body w.at

abbrev pub walk_output : AsyncWalk → QueryReply → AsyncOutput
walk_output w t = async_output w.body.func w.at t

abbrev pub walk_next : AsyncWalk → QueryReply → AsyncWalk
walk_next w t = record w { at = async_next w.at (walk_output w t) }

-- ---- what a turn promises
abbrev pub async_key : AsyncWalk → RowKey
async_key w = invoke_key w.home w.place

abbrev pub callee_key : AsyncWalk → RowKey
callee_key w = intent_key (callee_of w.place) w.body.func

abbrev pub is_done : AsyncOutput → Bool
is_done Done = true
is_done s = false

-- whether a turn is told if the call is registered
abbrev pub tells_registered : AsyncAt → Bool
tells_registered Open = true
tells_registered Register = false
tells_registered Note = true

-- where a walk stands at the note, the row of the callee is there
abbrev pub EnrolledAt : AsyncAt → Option Row → Type 0
EnrolledAt Open r = Unit {0}
EnrolledAt Register r = Unit {0}
EnrolledAt Note r = is_some r ≡ true

abbrev pub IsEnrolled : AsyncWalk → Rows → Type 0
IsEnrolled w m = EnrolledAt w.at (map.get m (callee_key w))

-- `Opened` comes at the turn that opens the call, and says whether this turn put it
abbrev pub OpenedAt : AsyncAt → AsyncOutput → Option Row → Option Row → Type 0
OpenedAt at (Opened first) r s = (at ≡ Open) × (first ≡ is_none r) × (is_some s ≡ true)
OpenedAt at output r s = Unit {0}

pub record AsyncTurn (w x : AsyncWalk) (m n : Rows) (s : AsyncOutput) : Type 0 where
  -- it is done exactly where the call is then registered, but for the turn of the callee's row
  pub done : is_done s ≡ (tells_registered w.at && registered_in (call_at n (async_key w)))
  pub opened : OpenedAt w.at s (map.get m (async_key w)) (map.get n (async_key w))
  -- it goes to the note only once the row of the callee is there
  pub enrolled : IsEnrolled w m → IsEnrolled x n
  -- and only then marks the call
  pub marks : IsEnrolled w m → registered_in (call_at m (async_key w)) ≡ false → registered_in (call_at n (async_key w)) ≡ true → is_some (map.get n (callee_key w)) ≡ true

-- so it is of each turn that says something, over every table that tells its rows
abbrev pub CalleesAreEnrolled : Type 0
CalleesAreEnrolled = (w x : AsyncWalk) (now : ℕ) (old new : TableState) (s : AsyncOutput) → Turned (walk_asks w) now (walk_next w) (walk_output w) w x old new (Ok s)
    → Tells old.rows new.rows (λ m n. AsyncTurn w x m n s)

-- and a callee's row that is there stays, whatever is asked of a table meanwhile
abbrev pub EnrolledStays : Type 0
EnrolledStays = (w : AsyncWalk) (q : Query) → may_remove q ≡ false → (now : ℕ) (m : Rows) → IsEnrolled w m → IsEnrolled w (rows_after q now m)

-- what is called at two places is two callees
abbrev pub CalleesHaveOnePlace : Type 0
CalleesHaveOnePlace = (p q : Place) → callee_of p ≡ callee_of q → p ≡ q
