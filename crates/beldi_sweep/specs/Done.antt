-- A row that a sweep is done with.
use Rattle.std.specs.Prelude.{◌≡◌, ◌⊎◌, ℕ, suc, Some, None}
use Rattle.std.specs.FinMap as map
use Rattle.std.specs.declared.cmp.Ordering.TheVariants.{Less}
use Rattle.beldi_row.specs.{Key.RowKey, Key.key_cmp, Table.Rows, declared.row.Cell.Cell, declared.row.Row.Row}
use Rattle.beldi_prune.specs.Prune.{past}
use Rattle.beldi_sweep.specs.{SweptRows.AllIsOld, SweptRows.AreLongAdrift, SweptRows.AreSound, SweptRows.AreTrimmed, SweptRows.AreTrimmedTo, Sweep.GoesTo}

-- up to this key no row is adrift
abbrev pub AreMooredTo : RowKey → Rows → Type 0
AreMooredTo cursor m = (k : RowKey) (c : Cell) → map.get m k ≡ Some (Row.Cell c) → (key_cmp cursor k ≡ Less) ⊎ (c.dangled ≡ None)

-- what is so where a sweep stands past a row
pub record IsReady (newest life now : ℕ) (cursor : RowKey) (m : Rows) : Type 0 where
  pub old : AllIsOld newest life now m
  pub sound : AreSound m
  pub trimmed : AreTrimmedTo newest cursor m

-- .. and of rows that were trimmed before it
pub record IsTidying (newest life now : ℕ) (cursor : RowKey) (m : Rows) : Type 0 where
  pub trimmed : AreTrimmed newest m
  pub long : AreLongAdrift life now m
  pub moored : AreMooredTo cursor m

-- it goes on from one row to past the next
pub record IsDone (newest life now : ℕ) (cursor k : RowKey) (m : Rows) : Type 0 where
  pub turns : ℕ
  pub rows : Rows
  pub goes : GoesTo newest life now (suc turns) (record { collector = past cursor; rows = m }) (record { collector = past k; rows = rows })
  pub ready : IsReady newest life now k rows
  pub tidying : IsTidying newest life now cursor m → IsTidying newest life now k rows
