use Rattle.beldi_prune.proofs.Order.{in_order}
use Rattle.beldi_prune.proofs.laws.rows_are_passed_in_order.Goals as goal

pub returns : goal.returns
returns c = in_order
