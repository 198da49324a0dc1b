use Rattle.beldi_wanted.proofs.Finished.{end_at_last}
use Rattle.beldi_wanted.proofs.laws.finished_rows_end_at_the_last.Goals as goal

pub returns : goal.returns
returns c = end_at_last
