use Rattle.beldi_wanted.proofs.Finished.{none_spare}
use Rattle.beldi_wanted.proofs.laws.finished_rows_have_no_spare.Goals as goal

pub returns : goal.returns
returns c = none_spare
