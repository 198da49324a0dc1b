use Rattle.beldi_upkeep.proofs.Roots.{roots_stay}
use Rattle.beldi_upkeep.proofs.checked.roots_are_of_the_deployment.Goals as goal

pub returns : goal.returns
returns c = roots_stay
