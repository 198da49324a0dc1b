use Rattle.beldi_plain_laws.proofs.Transactions.{transactions_are_moves}
use Rattle.beldi_plain_laws.proofs.laws.transactions_are_moves.Goals as goal

pub returns : goal.returns
returns c = transactions_are_moves
