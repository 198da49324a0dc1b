use Rattle.beldi_kept.proofs.Drops.{intent_drops_keep}
use Rattle.beldi_kept.proofs.laws.an_intent_may_be_dropped.Goals as goal

pub returns : goal.returns
returns c = intent_drops_keep
