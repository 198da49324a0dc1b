use Rattle.beldi_intent.proofs.Intents.{bodies_set}
use Rattle.beldi_intent.proofs.laws.a_body_is_set_once.Goals as goal

pub returns : goal.returns
returns c = bodies_set
