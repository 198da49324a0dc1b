use Rattle.beldi_step.proofs.Shut.{answers_shut}
use Rattle.beldi_step.proofs.laws.a_shut_host_answers_shut.Goals as goal

pub returns : goal.returns
returns c = answers_shut
