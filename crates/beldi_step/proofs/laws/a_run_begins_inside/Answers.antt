use Rattle.beldi_step.proofs.CalledInside.{begins_inside}
use Rattle.beldi_step.proofs.laws.a_run_begins_inside.Goals as goal

pub returns : goal.returns
returns c = begins_inside
