use Rattle.beldi_upkeep.proofs.Firsts.{no_first_turn_over}
use Rattle.beldi_upkeep.proofs.checked.no_first_turn_is_over.Goals as goal

pub returns : goal.returns
returns c = no_first_turn_over
