-- How many turns a round of a log collector takes at most, whatever the rows are.
use Rattle.std.specs.Prelude.{◌≡◌, ℕ, ◌+◌, ◌<◌, ◌≤◌, List, length, Option, Some, None}
use Rattle.std.specs.FinMap as map
use Rattle.std.specs.List.{count_by, sum_by}
use Rattle.beldi_value.specs.declared.id.IntentId.{IntentId}
use Rattle.beldi_row.specs.{Key.RowKey, Key.at_row, Log.most_entries, Table.Rows, declared.key.Kind.Kind, declared.row.Cell.Cell, declared.row.Row.Row}
use Rattle.beldi_chain.specs.Chain.{is_row_of}
use Rattle.beldi_prune.specs.{PruneLaws.HasCollectorInvariant, PruneLaws.begun, PruneLaws.rows_turned, Marks.left_to_prove}
use Rattle.beldi_prune.specs.declared.collector.{LogCollector.LogCollector, CollectorAt.CollectorAt}
use Rattle.beldi_sweep.specs.{SweptRows.AreSound, Sweep.EndsAt, Sweep.Sweep}

-- ---- ordered rows
-- a row of an item leads to a later one, and has no more entries than a cell may have
pub record IsOrdered (n : ℕ) (c : Cell) : Type 0 where
  pub rises : (to : ℕ) → c.next ≡ Some to → n < to
  pub short : length c.log ≤ most_entries

abbrev pub AreOrdered : Rows → Type 0
AreOrdered m = (k : RowKey) (t n : ℕ) (q : List ℕ) (c : Cell) → k.kind ≡ Kind.Data t q n → map.get m k ≡ Some (Row.Cell c) → IsOrdered n c

-- sound rows are, and whatever turn a collector takes leaves them so
abbrev pub SoundAreOrdered : Type 0
SoundAreOrdered = (m : Rows) → AreSound m → AreOrdered m

abbrev pub OrderedStayOrdered : Type 0
OrderedStayOrdered = (life now : ℕ) (w : LogCollector) (m : Rows) → AreOrdered m → AreOrdered (rows_turned life now w m)

-- ---- turns
-- how many rows has the item that a row is of; so it is of a transaction's copy of an item, and any other row is counted alone
abbrev pub rows_beside : Rows → RowKey → ℕ
rows_beside m k = count_by (is_row_of (at_row k 0)) (map.keys m)

-- for a row: one that finds it, a look at the intent of each of its entries, of which there are eight, one that marks it, a look at each row
-- of the item before it, and two that lead past it and leave it adrift; so eleven, and one for each row of the item
abbrev pub turns_past : Rows → RowKey → ℕ
turns_past m k = 11 + rows_beside m k

abbrev pub turns_of : Rows → ℕ
turns_of m = sum_by (turns_past m) (map.keys m)

-- for one that it has begun: the intents that are left to be looked at, two, and one for each row of the item
abbrev pub left_to_look : Option (RowKey × List IntentId) → ℕ
left_to_look None = 0
left_to_look (Some x) = length x.1

abbrev pub turns_left : Rows → ℕ → Option RowKey → ℕ
turns_left m looks None = 0
turns_left m looks (Some k) = looks + 2 + rows_beside m k

abbrev pub begun_turns : Rows → CollectorAt → ℕ
begun_turns m a = turns_left m (left_to_look (left_to_prove a)) (begun a)

-- ---- a round ends
-- after so many turns at most, and one
pub record EndsInTime (newest life now : ℕ) (w : LogCollector) (m : Rows) : Type 0 where
  pub turns : ℕ
  pub few : turns ≤ begun_turns m w.at + turns_of m
  pub left : Sweep
  pub ends : EndsAt newest life now turns (record { collector = w; rows = m }) left

-- .. of a collector that stands anywhere, over any ordered rows, whether or not all work is past
abbrev pub RoundsEnd : Type 0
RoundsEnd = (newest life now : ℕ) (w : LogCollector) (m : Rows) → HasCollectorInvariant newest w → AreOrdered m → EndsInTime newest life now w m
