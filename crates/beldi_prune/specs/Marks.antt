-- Which rows of items are to be marked, led past, and left adrift.
use Rattle.std.specs.Prelude.{◌≡◌, ◌⊎◌, ℕ, ◌<◌, true, false, is_some, List, [], ◌∷◌, Option, Some, None}
use Rattle.std.specs.FinMap as map
use Rattle.beldi_value.specs.declared.{id.IntentId.IntentId, place.Place.Place}
use Rattle.beldi_row.specs.{Key.RowKey, Key.at_row, Key.row_of, Table.Rows, Table.next_row, declared.notes.Note.Note, declared.row.Cell.Cell, declared.row.Row.Row}
use Rattle.beldi_intent.specs.Intent.{intent_key}
use Rattle.beldi_prune.specs.{Changed.HasMarked, Changed.HasSkipped, CellEntries.HasEntryOf, CellEntries.IsOf, CellEntries.intents_of, PruneLaws.IsOldAt, PruneLaws.is_behind, PruneLaws.rows_turned, PruneLaws.turned}
use Rattle.beldi_prune.specs.declared.collector.LogCollector.{LogCollector}
use Rattle.beldi_prune.specs.declared.collector.CollectorAt.{CollectorAt, TheVariants.Before, TheVariants.ToProve, TheVariants.ToMark, TheVariants.ToLead, TheVariants.ToSkip, TheVariants.ToDangle}

-- ---- which are to be marked
-- the row that it is to mark, and the intents of its entries that it has still to look at
abbrev pub left_to_prove : CollectorAt → Option (RowKey × List IntentId)
left_to_prove (ToProve k i is) = Some (k, i ∷ is)
left_to_prove (ToMark k) = Some (k, [])
left_to_prove a = None

-- it finds the row in this turn, a cell that has a next and is not marked, and these are the intents of its entries
pub record FindsUnmarked (w : LogCollector) (m : Rows) (k : RowKey) (is : List IntentId) : Type 0 where
  pub cell : Cell
  pub before : w.at ≡ Before
  pub found : next_row m w.cursor ≡ Some (k, Row.Cell cell)
  pub behind : is_behind k.kind ≡ true
  pub next : is_some cell.next ≡ true
  pub unmarked : cell.marked ≡ false
  pub fresh : cell.dangled ≡ None
  pub intents : intents_of cell.log ≡ is

-- it looks at the intent before these in this turn, and that is gone, or finished more than a life ago
pub record FindsOld (life now : ℕ) (w : LogCollector) (m : Rows) (k : RowKey) (is : List IntentId) : Type 0 where
  pub intent : IntentId
  pub left : left_to_prove w.at ≡ Some (k, intent ∷ is)
  pub old : IsOldAt life now (map.get m (intent_key intent k.home))

-- so a row is to be marked only once each of its intents was found so; and these are the intents of all its entries
abbrev pub OnlyProvedRowsAreToBeMarked : Type 0
OnlyProvedRowsAreToBeMarked = ((newest life now : ℕ) (w : LogCollector) (m : Rows) (k : RowKey) (is : List IntentId) → left_to_prove (turned newest life now w m).at ≡ Some (k, is) → FindsUnmarked w m k is ⊎ FindsOld life now w m k is)
    × ((es : List (Place × Note)) (i : IntentId) → HasEntryOf es i → IsOf (intents_of es) i)

-- ---- which are to be led past
-- it finds the row in this turn, a marked cell, and this one comes after it
pub record FindsMarked (w : LogCollector) (m : Rows) (k : RowKey) (to : ℕ) : Type 0 where
  pub cell : Cell
  pub before : w.at ≡ Before
  pub found : next_row m w.cursor ≡ Some (k, Row.Cell cell)
  pub behind : is_behind k.kind ≡ true
  pub next : cell.next ≡ Some to
  pub marked : cell.marked ≡ true
  pub fresh : cell.dangled ≡ None

-- it marks the row in this turn, and is told so
pub record Marks (a : CollectorAt) (m n : Rows) (k : RowKey) (to : ℕ) : Type 0 where
  pub change : HasMarked a m n
  pub key : change.key ≡ k
  pub next : change.to ≡ to

-- it looks at another row of the item in this turn, and that leads on to this one, which is below the row of the key
pub record LeadsOn (w : LogCollector) (m : Rows) (k : RowKey) (to at : ℕ) : Type 0 where
  pub from : ℕ
  pub cell : Cell
  pub begun : w.at ≡ ToLead k to from
  pub there : map.get m (at_row k from) ≡ Some (Row.Cell cell)
  pub next : cell.next ≡ Some at
  pub below : at < row_of k.kind

-- it looks at this row in this turn, and that leads to the row of the key
pub record LeadsThere (w : LogCollector) (m : Rows) (k : RowKey) (to at : ℕ) : Type 0 where
  pub cell : Cell
  pub begun : w.at ≡ ToLead k to at
  pub there : map.get m (at_row k at) ≡ Some (Row.Cell cell)
  pub next : cell.next ≡ Some (row_of k.kind)

-- a row that is marked is looked for from the first row of its item on, from row to row, and is to be led past where one leads to it
abbrev pub OnlyMarkedRowsAreLedPast : Type 0
OnlyMarkedRowsAreLedPast = ((newest life now : ℕ) (w : LogCollector) (m : Rows) (k : RowKey) (to at : ℕ) → (turned newest life now w m).at ≡ ToLead k to at
    → ((at ≡ 0) × (FindsMarked w m k to ⊎ Marks w.at m (rows_turned life now w m) k to)) ⊎ LeadsOn w m k to at)
    × ((newest life now : ℕ) (w : LogCollector) (m : Rows) (k : RowKey) (to at : ℕ) → (turned newest life now w m).at ≡ ToSkip k to at → LeadsThere w m k to at)

-- ---- which are to be left adrift
-- it is the last, or leads to a row above this one
abbrev pub IsPastRow : ℕ → Option ℕ → Type 0
IsPastRow number None = Unit {0}
IsPastRow number (Some next) = number < next

-- it looks at a row below in this turn, and that leads past the row
pub record SeesPast (w : LogCollector) (m : Rows) (k : RowKey) : Type 0 where
  pub to : ℕ
  pub at : ℕ
  pub cell : Cell
  pub begun : w.at ≡ ToLead k to at
  pub there : map.get m (at_row k at) ≡ Some (Row.Cell cell)
  pub past : IsPastRow (row_of k.kind) cell.next

-- it leads the row below past it in this turn
pub record Skips (a : CollectorAt) (m n : Rows) (k : RowKey) : Type 0 where
  pub change : HasSkipped a m n
  pub key : change.key ≡ k

abbrev pub OnlyPassedRowsAreToDangle : Type 0
OnlyPassedRowsAreToDangle = (newest life now : ℕ) (w : LogCollector) (m : Rows) (k : RowKey) → (turned newest life now w m).at ≡ ToDangle k → SeesPast w m k ⊎ Skips w.at m (rows_turned life now w m) k
