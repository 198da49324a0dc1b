use Rattle.beldi_invokelog.proofs.InvokedCalls.{calls_stay}
use Rattle.beldi_invokelog.proofs.laws.a_call_stays.Goals as goal

pub returns : goal.returns
returns c = calls_stay
