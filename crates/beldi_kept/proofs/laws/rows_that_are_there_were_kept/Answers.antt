use Rattle.beldi_kept.proofs.Begins.{all_are_kept}
use Rattle.beldi_kept.proofs.laws.rows_that_are_there_were_kept.Goals as goal

pub returns : goal.returns
returns c = all_are_kept
