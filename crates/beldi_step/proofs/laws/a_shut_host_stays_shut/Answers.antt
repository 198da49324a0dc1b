use Rattle.beldi_step.proofs.Shut.{stays_shut}
use Rattle.beldi_step.proofs.laws.a_shut_host_stays_shut.Goals as goal

pub returns : goal.returns
returns c = stays_shut
