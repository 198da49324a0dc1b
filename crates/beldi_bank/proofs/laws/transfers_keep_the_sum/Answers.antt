use Rattle.beldi_bank.proofs.BankRuns.{transfers_keep}
use Rattle.beldi_bank.proofs.laws.transfers_keep_the_sum.Goals as goal

pub returns : goal.returns
returns c = transfers_keep
