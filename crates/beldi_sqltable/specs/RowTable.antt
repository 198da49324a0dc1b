-- A table over a store, as contracts see it.
use Rattle.std.specs.Prelude.{◌≡◌, ℕ, ◌<◌, Option, None, Result, Ok, Err, IsTrue}
use Rattle.std.specs.Option.{option_map}
use Rattle.std.specs.FinMap as map
use Rattle.beldi_row.specs.{Act.change_reply, Key.RowKey, Table.Rows, Table.TableState, Table.Tells, Table.Refused, Table.after_act, Table.act_reply, Table.adds, declared.row.Row.Row, declared.act.Act.Act, declared.act.Change.Change, declared.table.TableErr.TableErr}
use Rattle.beldi_sqltable.specs.{StoreCounts.Blames, declared.store.RowStore.Ghosts, declared.row_table.RowTable.RowTable}

-- its rows are those of its store. It counts no calls
abbrev pub table_state : {R : Type 0} {G : Ghosts R} → RowTable R G → TableState
table_state {G = G} t = record { rows = G.rows t.store; faults = t.faults; room = t.room; calls = None }

-- the row of what was found last
abbrev pub row_in : Option (RowKey × Row) → Option Row
row_in found = option_map (λ e. e.1) found

-- what a change leaves of the rows, and what is said of it, where the row is then this one
abbrev pub ChangedOn : Act → ℕ → RowKey → ℕ → Option Row → Result Change TableErr → Rows → Rows → Type 0
ChangedOn a now k room r (Ok c) m n = (n ≡ after_act a now k m) × (change_reply c r ≡ act_reply a now k m) × (IsTrue (adds a now k m) → map.len m < room)
ChangedOn a now k room r (Err e) m n = Refused a now k room m n e

-- an act was carried out, and its row was found
pub record Carried (a : Act) (now : ℕ) (k : RowKey) (old new : TableState) (found : Option (RowKey × Row)) (result : Result Change TableErr) : Type 0 where
  pub rows : Tells old.rows new.rows (ChangedOn a now k old.room (row_in found) result)
  pub blames : Blames old.faults new.faults result
  pub room : new.room ≡ old.room
