use Rattle.beldi_upkeep.proofs.PastLaws.{asyncs_registered}
use Rattle.beldi_upkeep.proofs.callees.asynchronous_calls_are_registered.Goals as goal

pub returns : goal.returns
returns c = asyncs_registered
