use Rattle.beldi_step.proofs.Given.{kept}
use Rattle.beldi_step.proofs.laws.a_run_keeps_its_deadline.Goals as goal

pub returns : goal.returns
returns c = kept
