use Rattle.beldi_upkeep.proofs.Firsts.{found_bodies}
use Rattle.beldi_upkeep.proofs.checked.found_bodies_are_recorded.Goals as goal

pub returns : goal.returns
returns c = found_bodies
