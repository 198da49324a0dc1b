use Rattle.beldi_upkeep.proofs.Started.{roots_stay_started}
use Rattle.beldi_upkeep.proofs.checked.roots_are_started.Goals as goal

pub returns : goal.returns
returns c = roots_stay_started
