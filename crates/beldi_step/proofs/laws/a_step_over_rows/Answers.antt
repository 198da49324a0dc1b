use Rattle.beldi_step.proofs.AnyStep.{over_rows}
use Rattle.beldi_step.proofs.laws.a_step_over_rows.Goals as goal

pub returns : goal.returns
returns c = over_rows
