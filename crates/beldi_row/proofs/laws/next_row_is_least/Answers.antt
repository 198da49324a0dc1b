use Rattle.beldi_row.proofs.Least.{next_row_least}
use Rattle.beldi_row.proofs.laws.next_row_is_least.Goals as goal

pub returns : goal.returns
returns c = next_row_least
