use Rattle.beldi_upkeep.proofs.Together.{begins_upkept}
use Rattle.beldi_upkeep.proofs.upkeep.begins_upkept.Goals as goal

pub returns : goal.returns
returns c = begins_upkept
