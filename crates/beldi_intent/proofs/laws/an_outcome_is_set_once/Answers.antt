use Rattle.beldi_intent.proofs.Intents.{outcomes_set}
use Rattle.beldi_intent.proofs.laws.an_outcome_is_set_once.Goals as goal

pub returns : goal.returns
returns c = outcomes_set
