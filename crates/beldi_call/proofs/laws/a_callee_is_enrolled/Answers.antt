use Rattle.beldi_call.proofs.CallTurns.{callees_enrolled}
use Rattle.beldi_call.proofs.laws.a_callee_is_enrolled.Goals as goal

pub returns : goal.returns
returns c = callees_enrolled
