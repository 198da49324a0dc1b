-- A call that waits for its result, as a machine that asks one thing a turn.
use Rattle.std.specs.Prelude.{◌≡◌, ℕ, Bool, true, is_some, is_none, Option, Some, None, Ok}
use Rattle.std.specs.FinMap as map
use Rattle.beldi_value.specs.declared.{outcome.Outcome.Outcome, place.Place.Place}
use Rattle.beldi_row.specs.{Key.RowKey, declared.row.Row.Row, Table.Rows, Table.TableState, Table.Tells}
use Rattle.beldi_query.specs.{declared.query.Query.Query, Query.QueryReply, Walk.Turned}
use Rattle.beldi_invokelog.specs.InvokeLog.{invoke_key, call_at, result_in, open_asks, result_asks, invoked_of, result_of}
use Rattle.beldi_call.specs.declared.call.{CallAt.CallAt, CallAt.TheVariants.Open, CallAt.TheVariants.Look, CallOutput.CallOutput, CallOutput.TheVariants.Opened, CallOutput.TheVariants.NotYet, CallOutput.TheVariants.Done, CallWalk.CallWalk}

-- ---- what is asked, and what follows from what is told
-- the call is opened in the first turn, and looked at from then on
abbrev pub call_asks : ℕ → Place → ℕ → CallAt → Query
call_asks home p func Open = open_asks home p func
call_asks home p func Look = result_asks home p

-- what is said of a call that is there, by its result
abbrev pub open_output : Bool → Option Outcome → CallOutput
open_output first None = Opened first
open_output first (Some o) = Done o

abbrev pub look_output : Option Outcome → CallOutput
look_output None = NotYet
look_output (Some o) = Done o

abbrev pub call_output : ℕ → CallAt → QueryReply → CallOutput
call_output func Open t = open_output (invoked_of func t).added (invoked_of func t).result
call_output func Look t = look_output (result_of t)

-- where the call stands after it said so
abbrev pub call_next : CallAt → CallOutput → CallAt
call_next at (Opened first) = Look
call_next at NotYet = at
call_next at (Done o) = at

-- ---- as a walk
abbrev pub first_call : ℕ → Place → ℕ → CallWalk
first_call home p func = record { home = home; place = p; func = func; at = Open }

abbrev pub call_key : CallWalk → RowKey
call_key w = invoke_key w.home w.place

abbrev pub walk_asks : CallWalk → Query
walk_asks w = call_asks w.home w.place w.func w.at

abbrev pub walk_output : CallWalk → QueryReply → CallOutput
walk_output w t = call_output w.func w.at t

abbrev pub walk_next : CallWalk → QueryReply → CallWalk
walk_next w t = record w { at = call_next w.at (walk_output w t) }

-- ---- what a turn promises
-- the result that it tells
abbrev pub result_output : CallOutput → Option Outcome
result_output (Opened first) = None
result_output NotYet = None
result_output (Done o) = Some o

-- by the row of the call before the turn and after it. `Opened` comes at the turn that opens the call, and says whether this
-- turn put it; `NotYet` comes at the turns that look
abbrev pub IsOutputAt : CallAt → CallOutput → Option Row → Option Row → Type 0
IsOutputAt at (Opened first) r s = (at ≡ Open) × (first ≡ is_none r) × (is_some s ≡ true)
IsOutputAt at NotYet r s = (at ≡ Look) × (s ≡ r)
IsOutputAt at (Done o) r s = s ≡ r

pub record CallTurn (w : CallWalk) (m n : Rows) (s : CallOutput) : Type 0 where
  -- it is done exactly where a result is kept, and tells that one
  pub done : result_output s ≡ result_in (call_at n (call_key w))
  pub said : IsOutputAt w.at s (map.get m (call_key w)) (map.get n (call_key w))

-- so it is of each turn that says something, over every table that tells its rows
abbrev pub CallsTellTheirResult : Type 0
CallsTellTheirResult = (w x : CallWalk) (now : ℕ) (old new : TableState) (s : CallOutput) → Turned (walk_asks w) now (walk_next w) (walk_output w) w x old new (Ok s)
    → Tells old.rows new.rows (λ m n. CallTurn w m n s)
