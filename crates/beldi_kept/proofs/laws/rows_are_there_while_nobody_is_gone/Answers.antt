use Rattle.beldi_kept.proofs.Begins.{nobody_gone}
use Rattle.beldi_kept.proofs.laws.rows_are_there_while_nobody_is_gone.Goals as goal

pub returns : goal.returns
returns c = nobody_gone
