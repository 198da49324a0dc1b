use Rattle.beldi_upkeep.proofs.Functions.{instances_of_it}
use Rattle.beldi_upkeep.proofs.checked.instances_are_of_the_deployment.Goals as goal

pub returns : goal.returns
returns c = instances_of_it
