use Rattle.beldi_step.proofs.Shut.{no_runs}
use Rattle.beldi_step.proofs.laws.a_shut_host_has_no_runs.Goals as goal

pub returns : goal.returns
returns c = no_runs
