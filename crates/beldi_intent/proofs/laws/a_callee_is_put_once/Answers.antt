use Rattle.beldi_intent.proofs.Intents.{callees_put}
use Rattle.beldi_intent.proofs.laws.a_callee_is_put_once.Goals as goal

pub returns : goal.returns
returns c = callees_put
