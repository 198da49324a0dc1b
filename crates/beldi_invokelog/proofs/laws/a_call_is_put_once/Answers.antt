use Rattle.beldi_invokelog.proofs.InvokedCalls.{put_once}
use Rattle.beldi_invokelog.proofs.laws.a_call_is_put_once.Goals as goal

pub returns : goal.returns
returns c = put_once
