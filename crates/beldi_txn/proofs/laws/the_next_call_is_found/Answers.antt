use Rattle.beldi_txn.proofs.InvokedInside.{calls_follow}
use Rattle.beldi_txn.proofs.laws.the_next_call_is_found.Goals as goal

pub returns : goal.returns
returns c = calls_follow
