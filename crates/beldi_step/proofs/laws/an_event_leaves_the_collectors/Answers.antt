use Rattle.beldi_step.proofs.Shut.{collectors_stay}
use Rattle.beldi_step.proofs.laws.an_event_leaves_the_collectors.Goals as goal

pub returns : goal.returns
returns c = collectors_stay
