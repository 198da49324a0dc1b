use Rattle.beldi_upkeep.proofs.Still.{no_turn_stays}
use Rattle.beldi_upkeep.proofs.checked.no_turn_stays.Goals as goal

pub returns : goal.returns
returns c = no_turn_stays
