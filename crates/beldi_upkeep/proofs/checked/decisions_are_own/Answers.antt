use Rattle.beldi_upkeep.proofs.Notes.{decisions_are_own}
use Rattle.beldi_upkeep.proofs.checked.decisions_are_own.Goals as goal

pub returns : goal.returns
returns c = decisions_are_own
