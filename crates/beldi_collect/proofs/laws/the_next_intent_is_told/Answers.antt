use Rattle.beldi_collect.proofs.CollectTurns.{next_is_told}
use Rattle.beldi_collect.proofs.laws.the_next_intent_is_told.Goals as goal

pub returns : goal.returns
returns c = next_is_told
