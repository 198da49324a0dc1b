use Rattle.beldi_query.proofs.Lent.{only_transactions_die}
use Rattle.beldi_query.proofs.laws.only_transactions_die.Goals as goal

pub returns : goal.returns
returns c = only_transactions_die
