use Rattle.beldi_step.proofs.Prunes.{over_rows}
use Rattle.beldi_step.proofs.laws.a_pruning_over_rows.Goals as goal

pub returns : goal.returns
returns c = over_rows
