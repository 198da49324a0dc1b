-- What a sweep that begins before all rows leaves.
use Rattle.std.specs.Prelude.{ℕ, ◌≤◌}
use Rattle.beldi_row.specs.{Table.Rows}
use Rattle.beldi_prune.specs.{PruneLaws.rows_turned, Prune.first_collector}
use Rattle.beldi_prune.specs.declared.collector.LogCollector.{LogCollector}
use Rattle.beldi_sweep.specs.{SweptRows.AllIsOld, SweptRows.AreLongAdrift, SweptRows.AreSound, SweptRows.AreTidy, SweptRows.AreTrimmed, Sweep.EndsAt, Sweep.Sweep}

abbrev pub begin : Rows → Sweep
begin m = record { collector = first_collector; rows = m }

-- a sweep leaves trimmed rows
abbrev pub SweepsTrim : Type 0
SweepsTrim = (newest life now turns : ℕ) (m : Rows) (t : Sweep) → AllIsOld newest life now m → AreSound m → EndsAt newest life now turns (begin m) t → AreTrimmed newest t.rows

-- .. and, of trimmed rows of which none is adrift for a life or less, tidy ones
abbrev pub SweepsTidy : Type 0
SweepsTidy = (newest life now turns : ℕ) (m : Rows) (t : Sweep) → AllIsOld newest life now m → AreSound m → AreTrimmed newest m → AreLongAdrift life now m → EndsAt newest life now turns (begin m) t → AreTidy newest t.rows

-- what is old stays old, whatever turn a collector takes, and as the moment rises
abbrev pub OldStaysOld : Type 0
OldStaysOld = (newest life now : ℕ) (w : LogCollector) (m : Rows) → AllIsOld newest life now m → AllIsOld newest life now (rows_turned life now w m)

abbrev pub OldIsOldLater : Type 0
OldIsOldLater = (newest life now later : ℕ) (m : Rows) → now ≤ later → AllIsOld newest life now m → AllIsOld newest life later m
