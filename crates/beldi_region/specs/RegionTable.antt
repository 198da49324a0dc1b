-- The rows of a table over a region.
use Rattle.std.specs.Prelude.{◌≡◌, ℕ, Some, None, Result, Ok, Err, IsErrOf}
use Rattle.beldi_row.specs.{Key.RowKey, Act.ActReply, Act.act_reply_of, Table.Rows, Table.TableState, Table.Acted, declared.act.Act.Act, declared.act.ActReplyRef.ActReplyRef, declared.table.TableErr.TableErr, declared.table.TableErr.TheVariants.OutOfMemory}
use Rattle.beldi_region.specs.{SlotOrder.rows_in, Ids.ids_of, declared.region_table.RegionTable.RegionTable}

abbrev pub rows_of : RegionTable → Rows
rows_of t = rows_in t.region (ids_of t.index)

-- it never fails, and counts no calls
abbrev pub region_state : RegionTable → TableState
region_state t = record { rows = Some (rows_of t); faults = 0; room = t.room; calls = None }

-- an answer, without where what it tells lies in memory
abbrev pub answer_of : Result ActReplyRef TableErr → Result ActReply TableErr
answer_of (Ok s) = Ok (act_reply_of s)
answer_of (Err e) = Err e

-- a table that had an act, and its answer, which is never out of memory
pub record Answered (a : Act) (now : ℕ) (k : RowKey) (old new : RegionTable) (x : Result ActReplyRef TableErr) : Type 0 where
  pub acts : Acted a now k (region_state old) (region_state new) x
  pub never : IsErrOf x OutOfMemory → ⊥

abbrev pub ActsAlike : Type 0
ActsAlike = (a : Act) (now : ℕ) (k : RowKey) (s t u v : RegionTable) (x y : Result ActReplyRef TableErr) → rows_of s ≡ rows_of t → s.room ≡ t.room → Answered a now k s u x → Answered a now k t v y → (answer_of x ≡ answer_of y) × (rows_of u ≡ rows_of v)
