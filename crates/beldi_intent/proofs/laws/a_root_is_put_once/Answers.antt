use Rattle.beldi_intent.proofs.Intents.{roots_put}
use Rattle.beldi_intent.proofs.laws.a_root_is_put_once.Goals as goal

pub returns : goal.returns
returns c = roots_put
