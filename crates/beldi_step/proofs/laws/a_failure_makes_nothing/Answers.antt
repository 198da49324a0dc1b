use Rattle.beldi_step.proofs.Failures.{make_nothing}
use Rattle.beldi_step.proofs.laws.a_failure_makes_nothing.Goals as goal

pub returns : goal.returns
returns c = make_nothing
