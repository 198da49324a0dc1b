use Rattle.beldi_step.proofs.Given.{given}
use Rattle.beldi_step.proofs.laws.a_called_run_has_its_callers_deadline.Goals as goal

pub returns : goal.returns
returns c = given
