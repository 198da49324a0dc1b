use Rattle.beldi_bound.proofs.HistoryAsked.{intents_asked}
use Rattle.beldi_bound.proofs.laws.intents_are_asked.Goals as goal

pub returns : goal.returns
returns c = intents_asked
