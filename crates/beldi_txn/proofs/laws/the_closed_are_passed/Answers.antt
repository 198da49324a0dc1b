use Rattle.beldi_txn.proofs.Closed.{closed_are_passed}
use Rattle.beldi_txn.proofs.laws.the_closed_are_passed.Goals as goal

pub returns : goal.returns
returns c = closed_are_passed
