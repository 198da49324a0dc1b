use Rattle.beldi_plain_laws.proofs.InOrder.{in_order}
use Rattle.beldi_plain_laws.proofs.laws.linear_is_in_order.Goals as goal

pub returns : goal.returns
returns c = in_order
