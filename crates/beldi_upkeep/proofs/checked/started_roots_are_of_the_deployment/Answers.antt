use Rattle.beldi_upkeep.proofs.Started.{started_of_it}
use Rattle.beldi_upkeep.proofs.checked.started_roots_are_of_the_deployment.Goals as goal

pub returns : goal.returns
returns c = started_of_it
