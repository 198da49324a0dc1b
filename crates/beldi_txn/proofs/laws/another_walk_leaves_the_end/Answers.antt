use Rattle.beldi_txn.proofs.BesideRows.{other_walks_leave}
use Rattle.beldi_txn.proofs.laws.another_walk_leaves_the_end.Goals as goal

pub returns : goal.returns
returns c = other_walks_leave
