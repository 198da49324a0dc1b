use Rattle.beldi_upkeep.proofs.Carried.{carried_out}
use Rattle.beldi_upkeep.proofs.checked.effects_are_carried_out.Goals as goal

pub returns : goal.returns
returns c = carried_out
