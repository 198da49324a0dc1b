use Rattle.beldi_call.proofs.CallTurns.{calls_tell}
use Rattle.beldi_call.proofs.laws.a_call_tells_its_result.Goals as goal

pub returns : goal.returns
returns c = calls_tell
