use Rattle.beldi_upkeep.proofs.Notes.{shadows_are_free}
use Rattle.beldi_upkeep.proofs.checked.shadows_have_no_owner.Goals as goal

pub returns : goal.returns
returns c = shadows_are_free
