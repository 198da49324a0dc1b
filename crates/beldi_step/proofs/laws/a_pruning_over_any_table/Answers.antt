use Rattle.beldi_step.proofs.Prunes.{over_any_table}
use Rattle.beldi_step.proofs.laws.a_pruning_over_any_table.Goals as goal

pub returns : goal.returns
returns c = over_any_table
