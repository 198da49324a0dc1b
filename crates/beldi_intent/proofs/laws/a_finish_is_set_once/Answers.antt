use Rattle.beldi_intent.proofs.Intents.{finishes_set}
use Rattle.beldi_intent.proofs.laws.a_finish_is_set_once.Goals as goal

pub returns : goal.returns
returns c = finishes_set
