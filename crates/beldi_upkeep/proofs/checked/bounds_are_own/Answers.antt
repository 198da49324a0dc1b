use Rattle.beldi_upkeep.proofs.Carried.{bounds_own}
use Rattle.beldi_upkeep.proofs.checked.bounds_are_own.Goals as goal

pub returns : goal.returns
returns c = bounds_own
