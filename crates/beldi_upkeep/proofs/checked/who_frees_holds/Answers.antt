use Rattle.beldi_upkeep.proofs.Frees.{frees_what_it_holds}
use Rattle.beldi_upkeep.proofs.checked.who_frees_holds.Goals as goal

pub returns : goal.returns
returns c = frees_what_it_holds
