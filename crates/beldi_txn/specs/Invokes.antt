-- The rows of the calls of an intent, one after another.
use Rattle.std.specs.Prelude.{◌≡◌, ℕ, ◌≤◌, ◌<◌, ◌==◌, ◌&&◌, Option, Some, None, if◌then◌else◌}
use Rattle.std.specs.Option.{option_map}
use Rattle.std.specs.FinMap as map
use Rattle.beldi_value.specs.declared.id.IntentId.{IntentId}
use Rattle.beldi_row.specs.{Key.RowKey, declared.key.Kind.Kind, declared.row.InvokeRow.InvokeRow, declared.row.Row.Row, Log.id_eq, Table.Rows}
use Rattle.beldi_query.specs.{declared.query.Query.Query, declared.query.Query.TheVariants.After, Query.QueryReply, Query.found, Walk.Promises}
use Rattle.beldi_lock.specs.Lockset.{most, id_before, AreHops, AreFit}
use Rattle.beldi_invokelog.specs.InvokeLog.{invoke_key, call_in}
use Rattle.beldi_txn.specs.declared.call_path.Called.{Called}

-- the row of the call that an intent makes at a step
abbrev pub call_key : ℕ → IntentId → ℕ → RowKey
call_key home id step = invoke_key home (record { intent = id; step = step })

-- after a step, or below the first one: at the last step of the intent before
abbrev pub invokes_after : ℕ → IntentId → Option ℕ → RowKey
invokes_after home id (Some step) = call_key home id step
invokes_after home id None = call_key home (id_before id) most

abbrev pub invokes_asks : ℕ → IntentId → Option ℕ → Query
invokes_asks home id after = After (invokes_after home id after)

-- the function called; a row of another kind, which no session writes there, reads as a call of function 0
abbrev pub func_in : Option InvokeRow → ℕ
func_in None = 0
func_in (Some i) = i.func

abbrev pub func_called : Row → ℕ
func_called r = func_in (call_in (Some r))

-- the call of a row, where it is one that the intent made
abbrev pub call_of : ℕ → IntentId → RowKey → Kind → Row → Option Called
call_of home id k (Kind.Invoke p) r = if id_eq p.intent id && (k.home == home) then Some (record { step = p.step; func = func_called r }) else None
call_of home id k kind r = None

abbrev pub call_after : ℕ → IntentId → Option (RowKey × Row) → Option Called
call_after home id None = None
call_after home id (Some e) = call_of home id e.0 e.0.kind e.1

abbrev pub invokes_found : ℕ → IntentId → QueryReply → Option Called
invokes_found home id (found e) = call_after home id e
invokes_found home id t = None

-- ---- which call is found
-- past the step that it comes after, if there is one
abbrev pub IsAfter : Option ℕ → ℕ → Type 0
IsAfter None n = Unit {0}
IsAfter (Some s) n = s < n

-- the intent's call at the least step past it; none, where it made no call past it
abbrev pub IsNextCall : ℕ → IntentId → Option ℕ → Rows → Option Called → Type 0
IsNextCall home id after m None = (n : ℕ) → IsAfter after n → map.get m (call_key home id n) ≡ None
IsNextCall home id after m (Some c) = IsAfter after c.step × ((option_map func_called (map.get m (call_key home id c.step)) ≡ Some c.func)
    × ((n : ℕ) → IsAfter after n → n < c.step → map.get m (call_key home id n) ≡ None))

abbrev pub FindsCall : ℕ → IntentId → Option ℕ → Rows → Rows → Option Called → Type 0
FindsCall home id after m n r = (n ≡ m) × (AreFit m → IsNextCall home id after m r)

abbrev pub CallsFollow : Type 0
CallsFollow = (home : ℕ) (id : IntentId) (after : Option ℕ) → 1 ≤ id.ticket → AreHops 63 id.hops → Promises (invokes_asks home id after) 0 (invokes_found home id) (FindsCall home id after)
