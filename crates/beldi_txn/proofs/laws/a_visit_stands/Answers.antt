use Rattle.beldi_txn.proofs.Visited.{visits_stand}
use Rattle.beldi_txn.proofs.laws.a_visit_stands.Goals as goal

pub returns : goal.returns
returns c = visits_stand
