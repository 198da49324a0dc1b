use Rattle.beldi_intent.proofs.Intents.{intents_told}
use Rattle.beldi_intent.proofs.laws.an_intent_is_told.Goals as goal

pub returns : goal.returns
returns c = intents_told
