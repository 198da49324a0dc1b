use Rattle.beldi_txn.proofs.Visited.{visits_begin}
use Rattle.beldi_txn.proofs.laws.a_visit_begins.Goals as goal

pub returns : goal.returns
returns c = visits_begin
