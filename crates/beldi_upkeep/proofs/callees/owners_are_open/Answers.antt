use Rattle.beldi_upkeep.proofs.CallLaws.{owners_open}
use Rattle.beldi_upkeep.proofs.callees.owners_are_open.Goals as goal

pub returns : goal.returns
returns c = owners_open
