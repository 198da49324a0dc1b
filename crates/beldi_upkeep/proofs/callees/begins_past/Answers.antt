use Rattle.beldi_upkeep.proofs.Past.{past_begins}
use Rattle.beldi_upkeep.proofs.callees.begins_past.Goals as goal

pub returns : goal.returns
returns c = past_begins
