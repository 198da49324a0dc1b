use Rattle.beldi_call.proofs.Callees.{one_place}
use Rattle.beldi_call.proofs.laws.a_callee_has_one_place.Goals as goal

pub returns : goal.returns
returns c = one_place
