use Rattle.beldi_txn.proofs.TxTurn.{operations_are_so}
use Rattle.beldi_txn.proofs.laws.an_operation_is_so.Goals as goal

pub returns : goal.returns
returns c = operations_are_so
