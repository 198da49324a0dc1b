-- The rows of a table over an ordered map.
use Rattle.std.specs.Prelude.{◌≡◌, ℕ, ◌<◌, Option, Some, None, Result, Ok, Err, IsTrue}
use Rattle.std.specs.FinMap as map
use Rattle.beldi_row.specs.{Act.change_reply, Table.Rows, Table.TableState, Table.after_act, Table.act_reply, Table.adds, Table.IsFull, Key.RowKey, declared.row.Row.Row, declared.act.Act.Act, declared.act.Change.Change, declared.table.TableErr.TableErr, declared.table.TableErr.TheVariants.OutOfMemory, declared.table.TableErr.TheVariants.Failed, declared.table.TableErr.TheVariants.Full}
use Rattle.beldi_table.specs.declared.map_table.{MapTable.MapTable, Tried.Tried, Tried.TheVariants.Done, Tried.TheVariants.Absent}

abbrev pub rows_of : MapTable → Rows
rows_of t = map.from_entries t.rows.entries

-- it never fails, and counts no calls
abbrev pub map_state : MapTable → TableState
map_state t = record { rows = Some (rows_of t); faults = 0; room = t.room; calls = None }

-- what a change leaves of the rows, and what is said of it, where the row is then this one
abbrev pub ChangedOn : Act → ℕ → RowKey → ℕ → Rows → Rows → Option Row → Result Change TableErr → Type 0
ChangedOn a now k room m n r (Ok c) = (n ≡ after_act a now k m) × (change_reply c r ≡ act_reply a now k m) × (IsTrue (adds a now k m) → map.len m < room)
ChangedOn a now k room m n r (Err OutOfMemory) = n ≡ m
ChangedOn a now k room m n r (Err Failed) = ⊥
ChangedOn a now k room m n r (Err (Full live most)) = (n ≡ m) × IsFull a now k room m live most

-- an act on the row with a key: it was done so; or there is no row, and the act is given back; or the rows are as before
abbrev pub Tries : Act → ℕ → RowKey → MapTable → MapTable → Result Tried TableErr → Type 0
Tries a now k s t (Ok (Done c)) = ChangedOn a now k s.room (rows_of s) (rows_of t) (map.get (rows_of t) k) (Ok c)
Tries a now k s t (Ok (Absent b)) = (b ≡ a) × (rows_of t ≡ rows_of s) × (map.get (rows_of s) k ≡ None)
Tries a now k s t (Err e) = (rows_of t ≡ rows_of s) × (e ≡ OutOfMemory)

-- a row is added; out of memory, the rows are as before
abbrev pub Put : RowKey → Row → Rows → Rows → Result Unit TableErr → Type 0
Put k r m n (Ok u) = n ≡ map.insert m k r
Put k r m n (Err e) = (n ≡ m) × (e ≡ OutOfMemory)
