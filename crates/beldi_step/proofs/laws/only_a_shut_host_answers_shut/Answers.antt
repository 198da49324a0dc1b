use Rattle.beldi_step.proofs.Shut.{only_shut}
use Rattle.beldi_step.proofs.laws.only_a_shut_host_answers_shut.Goals as goal

pub returns : goal.returns
returns c = only_shut
