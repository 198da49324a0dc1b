use Rattle.beldi_upkeep.proofs.Carried.{none_inside}
use Rattle.beldi_upkeep.proofs.checked.nothing_is_locked_inside.Goals as goal

pub returns : goal.returns
returns c = none_inside
