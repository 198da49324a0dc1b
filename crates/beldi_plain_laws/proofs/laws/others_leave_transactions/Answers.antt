use Rattle.beldi_plain_laws.proofs.Foreign.{others_leave}
use Rattle.beldi_plain_laws.proofs.laws.others_leave_transactions.Goals as goal

pub returns : goal.returns
returns c = others_leave
