-- A row of an item: what is to be done with it, and how the rows before it come to lead past it.
use Rattle.std.specs.Prelude.{ℕ, ◌==◌, nat_lt, Bool, true, false, is_some, Option, Some, None, if◌then◌else◌}
use Rattle.beldi_row.specs.Act.{did, here, marked, is_past}
use Rattle.beldi_row.specs.{Key.RowKey, Key.row_of, declared.row.Cell.Cell, declared.row.Row.Row}
use Rattle.beldi_query.specs.Query.{QueryReply, replied}
use Rattle.beldi_prune.specs.CellEntries.{intents_of}
use Rattle.beldi_prune.specs.declared.found.Todo.{Todo, TheVariants.Pass, TheVariants.DropAdrift, TheVariants.LeadPast, TheVariants.Prove}
use Rattle.beldi_prune.specs.declared.collector.CollectorAt.{CollectorAt, TheVariants.ToLead, TheVariants.ToSkip, TheVariants.ToDangle}

-- ---- what is to be done with a row of an item that is not its first
-- one that is adrift goes once it is so for more than a life
abbrev pub adrift_todo : Bool → Todo
adrift_todo true = DropAdrift
adrift_todo false = Pass

-- one that is not: where it is marked its chain is led past it; else the intents of its entries are looked at
abbrev pub linked_todo : ℕ → Cell → Bool → Todo
linked_todo to c true = LeadPast to
linked_todo to c false = Prove (intents_of c.log)

abbrev pub next_todo : ℕ → ℕ → ℕ → Cell → Bool → Todo
next_todo to life now c true = adrift_todo (is_past life now c.dangled)
next_todo to life now c false = linked_todo to c c.marked

-- the last row stays
abbrev pub cell_todo : ℕ → ℕ → Cell → Option ℕ → Todo
cell_todo life now c None = Pass
cell_todo life now c (Some to) = next_todo to life now c (is_some c.dangled)

abbrev pub item_todo : ℕ → ℕ → Row → Todo
item_todo life now (Row.Cell c) = cell_todo life now c c.next
item_todo life now r = Pass

-- .. and so does the first
abbrev pub row_todo : ℕ → ℕ → ℕ → Row → Todo
row_todo number life now r = if nat_lt 0 number then item_todo life now r else Pass

-- ---- what an act tells
abbrev pub is_did : QueryReply → Bool
is_did (replied did) = true
is_did t = false

-- the row after one that is marked
abbrev pub told_marked : QueryReply → Option ℕ
told_marked (replied (marked to)) = Some to
told_marked t = None

-- the row after a cell that was looked at, if that is there
abbrev pub told_next : QueryReply → Option (Option ℕ)
told_next (replied (here (Row.Cell c))) = Some c.next
told_next t = None

-- ---- a row at which it looks, on the way to the row of this key
-- by whether it leads there, and whether it leads to one below: it is to lead past that row, or else the row it leads to is looked at;
-- where it leads to one above, or is the last, nothing leads to the row of this key
abbrev pub step_to : RowKey → ℕ → ℕ → ℕ → Bool → Bool → CollectorAt
step_to k to at next true below = ToSkip k to at
step_to k to at next false true = ToLead k to next
step_to k to at next false false = ToDangle k

abbrev pub lead_to : RowKey → ℕ → ℕ → Option ℕ → CollectorAt
lead_to k to at None = ToDangle k
lead_to k to at (Some next) = step_to k to at next (next == row_of k.kind) (nat_lt next (row_of k.kind))
