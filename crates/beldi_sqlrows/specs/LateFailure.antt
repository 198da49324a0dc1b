-- The rows of a store that is opened late.
use Rattle.std.specs.Prelude.{Option, Some, None}
use Rattle.std.specs.FinMap as map
use Rattle.beldi_row.specs.Table.{Rows}

-- before it is opened it has none
abbrev pub late_rows : {S : Type 0} → (S → Option Rows) → Option S → Option Rows
late_rows rows None = Some map.empty
late_rows rows (Some s) = rows s
