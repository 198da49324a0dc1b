use Rattle.beldi_upkeep.proofs.Together.{keeps_upkeep}
use Rattle.beldi_upkeep.proofs.upkeep.an_event_keeps_upkeep.Goals as goal

pub returns : goal.returns
returns c = keeps_upkeep
