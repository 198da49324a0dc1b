use Rattle.beldi_collect.proofs.Jumps.{none_jumped}
use Rattle.beldi_collect.proofs.laws.no_intent_is_jumped.Goals as goal

pub returns : goal.returns
returns c = none_jumped
