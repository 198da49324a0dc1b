-- Errors of readings.
use Rattle.beldi_row.specs.declared.table.TableErr.{TableErr}
use Rattle.beldi_host.specs.declared.survey.OpenErr.{OpenErr, TheVariants.OutOfMemory, TheVariants.Failed}

abbrev pub open_err : TableErr → OpenErr
open_err TableErr.OutOfMemory = OutOfMemory
open_err TableErr.Failed = Failed
open_err (TableErr.Full live room) = OutOfMemory
