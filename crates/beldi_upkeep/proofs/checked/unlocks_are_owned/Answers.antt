use Rattle.beldi_upkeep.proofs.Notes.{unlocks_are_owned}
use Rattle.beldi_upkeep.proofs.checked.unlocks_are_owned.Goals as goal

pub returns : goal.returns
returns c = unlocks_are_owned
