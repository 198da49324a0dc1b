use Rattle.beldi_intent.proofs.Intents.{intents_stay}
use Rattle.beldi_intent.proofs.laws.an_intent_stays.Goals as goal

pub returns : goal.returns
returns c = intents_stay
