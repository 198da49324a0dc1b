use Rattle.beldi_call.proofs.CallTurns.{enrolled_callees_stay}
use Rattle.beldi_call.proofs.laws.an_enrolled_callee_stays.Goals as goal

pub returns : goal.returns
returns c = enrolled_callees_stay
