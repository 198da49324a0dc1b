use Rattle.beldi_upkeep.proofs.Notes.{notes_are_own}
use Rattle.beldi_upkeep.proofs.checked.notes_are_own.Goals as goal

pub returns : goal.returns
returns c = notes_are_own
