use Rattle.beldi_txn.proofs.Visited.{ends_are_visits}
use Rattle.beldi_txn.proofs.laws.an_end_is_a_visit.Goals as goal

pub returns : goal.returns
returns c = ends_are_visits
