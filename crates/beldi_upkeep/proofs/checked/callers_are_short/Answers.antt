use Rattle.beldi_upkeep.proofs.Carried.{callers_short}
use Rattle.beldi_upkeep.proofs.checked.callers_are_short.Goals as goal

pub returns : goal.returns
returns c = callers_short
