use Rattle.beldi_upkeep.proofs.PastLaws.{recorded_registered}
use Rattle.beldi_upkeep.proofs.callees.recorded_asynchronous_calls_are_registered.Goals as goal

pub returns : goal.returns
returns c = recorded_registered
