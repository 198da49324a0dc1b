-- The row that follows one of an item.
use Rattle.std.specs.Prelude.{◌≡◌, ℕ, Option, Some}
use Rattle.beldi_value.specs.declared.place.Place.{Place}
use Rattle.beldi_row.specs.{Table.Lacks, declared.row.Row.Row, declared.row.Cell.Cell}

-- it is one of an item, has no entry of the place, if one is given, and the row of this number follows it
pub record Follows (r : Row) (p : Option Place) (next : ℕ) : Type 0 where
  pub cell : Cell
  pub is : r ≡ Row.Cell cell
  pub followed : cell.next ≡ Some next
  pub lacks : Lacks p cell.log
