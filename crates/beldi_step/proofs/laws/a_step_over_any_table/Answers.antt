use Rattle.beldi_step.proofs.AnyStep.{over_any_table}
use Rattle.beldi_step.proofs.laws.a_step_over_any_table.Goals as goal

pub returns : goal.returns
returns c = over_any_table
