-- What a turn of a log collector may have changed of the rows of an item.
use Rattle.std.specs.Prelude.{◌≡◌, ℕ, ◌<◌, true, false, Some, None}
use Rattle.std.specs.FinMap as map
use Rattle.beldi_row.specs.{Key.RowKey, Key.at_row, Key.row_of, Table.Rows, Table.set_row, declared.row.Cell.Cell, declared.row.Row.Row}
use Rattle.beldi_prune.specs.declared.collector.CollectorAt.{CollectorAt, TheVariants.ToMark, TheVariants.ToSkip, TheVariants.ToDangle}

-- a cell that has a next is marked
pub record HasMarked (a : CollectorAt) (m n : Rows) : Type 0 where
  pub key : RowKey
  pub cell : Cell
  pub to : ℕ
  pub begun : a ≡ ToMark key
  pub there : map.get m key ≡ Some (Row.Cell cell)
  pub next : cell.next ≡ Some to
  pub done : n ≡ set_row m key (Some (Row.Cell (record cell { marked = true })))

-- a cell that is not marked leads past the row of this key to a greater one, where it led to that
pub record HasSkipped (a : CollectorAt) (m n : Rows) : Type 0 where
  pub key : RowKey
  pub to : ℕ
  pub at : ℕ
  pub cell : Cell
  pub begun : a ≡ ToSkip key to at
  pub there : map.get m (at_row key at) ≡ Some (Row.Cell cell)
  pub unmarked : cell.marked ≡ false
  pub next : cell.next ≡ Some (row_of key.kind)
  pub rises : row_of key.kind < to
  pub done : n ≡ set_row m (at_row key at) (Some (Row.Cell (record cell { next = Some to })))

-- a marked cell has this moment, and had none
pub record HasDangled (now : ℕ) (a : CollectorAt) (m n : Rows) : Type 0 where
  pub key : RowKey
  pub cell : Cell
  pub begun : a ≡ ToDangle key
  pub there : map.get m key ≡ Some (Row.Cell cell)
  pub marked : cell.marked ≡ true
  pub fresh : cell.dangled ≡ None
  pub done : n ≡ set_row m key (Some (Row.Cell (record cell { dangled = Some now })))
