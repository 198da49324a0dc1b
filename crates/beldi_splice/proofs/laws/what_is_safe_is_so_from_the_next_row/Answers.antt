use Rattle.beldi_splice.proofs.Leading.{next_is_safe}
use Rattle.beldi_splice.proofs.laws.what_is_safe_is_so_from_the_next_row.Goals as goal

pub returns : goal.returns
returns c = next_is_safe
