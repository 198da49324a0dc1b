use Rattle.beldi_tidy.proofs.Old.{idle_are_old}
use Rattle.beldi_tidy.proofs.laws.idle_rows_are_old.Goals as goal

pub returns : goal.returns
returns c = idle_are_old
