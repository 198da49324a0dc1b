use Rattle.beldi_kept.proofs.KeptKeeps.{cursor_is_free}
use Rattle.beldi_kept.proofs.laws.the_cursor_is_free.Goals as goal

pub returns : goal.returns
returns c = cursor_is_free
