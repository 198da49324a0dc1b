use Rattle.beldi_txn.proofs.Freeing.{frees_stand_further}
use Rattle.beldi_txn.proofs.laws.a_free_stands_further.Goals as goal

pub returns : goal.returns
returns c = frees_stand_further
