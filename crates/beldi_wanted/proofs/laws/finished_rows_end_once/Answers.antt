use Rattle.beldi_wanted.proofs.Finished.{end_once}
use Rattle.beldi_wanted.proofs.laws.finished_rows_end_once.Goals as goal

pub returns : goal.returns
returns c = end_once
