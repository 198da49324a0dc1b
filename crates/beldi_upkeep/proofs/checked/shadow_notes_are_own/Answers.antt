use Rattle.beldi_upkeep.proofs.Notes.{shadow_notes_are_own}
use Rattle.beldi_upkeep.proofs.checked.shadow_notes_are_own.Goals as goal

pub returns : goal.returns
returns c = shadow_notes_are_own
