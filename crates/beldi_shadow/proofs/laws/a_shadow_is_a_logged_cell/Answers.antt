use Rattle.beldi_shadow.proofs.Shadowed.{shadows_are_logged}
use Rattle.beldi_shadow.proofs.laws.a_shadow_is_a_logged_cell.Goals as goal

pub returns : goal.returns
returns c = shadows_are_logged
