use Rattle.beldi_txn.proofs.TxTurn.{operations_begin}
use Rattle.beldi_txn.proofs.laws.an_operation_begins.Goals as goal

pub returns : goal.returns
returns c = operations_begin
