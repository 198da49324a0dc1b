use Rattle.beldi_upkeep.proofs.CallLaws.{have_callees}
use Rattle.beldi_upkeep.proofs.callees.registered_calls_have_their_callee.Goals as goal

pub returns : goal.returns
returns c = have_callees
