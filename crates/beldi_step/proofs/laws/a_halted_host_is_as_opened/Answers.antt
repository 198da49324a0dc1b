use Rattle.beldi_step.proofs.Shut.{as_opened}
use Rattle.beldi_step.proofs.laws.a_halted_host_is_as_opened.Goals as goal

pub returns : goal.returns
returns c = as_opened
