use Rattle.beldi_upkeep.proofs.Nearness.{begins_near}
use Rattle.beldi_upkeep.proofs.deadlines.begins_near.Goals as goal

pub returns : goal.returns
returns c = begins_near
