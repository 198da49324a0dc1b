use Rattle.beldi_upkeep.proofs.Overs.{no_turn_over}
use Rattle.beldi_upkeep.proofs.checked.no_turn_is_over.Goals as goal

pub returns : goal.returns
returns c = no_turn_over
