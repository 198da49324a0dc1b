use Rattle.beldi_upkeep.proofs.Past.{keeps_past}
use Rattle.beldi_upkeep.proofs.callees.an_event_keeps_past_calls.Goals as goal

pub returns : goal.returns
returns c = keeps_past
