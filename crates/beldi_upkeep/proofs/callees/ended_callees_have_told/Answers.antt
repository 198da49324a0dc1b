use Rattle.beldi_upkeep.proofs.CallLaws.{have_told}
use Rattle.beldi_upkeep.proofs.callees.ended_callees_have_told.Goals as goal

pub returns : goal.returns
returns c = have_told
