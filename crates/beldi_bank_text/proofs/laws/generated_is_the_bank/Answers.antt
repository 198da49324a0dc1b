use Rattle.beldi_bank_text.proofs.Actions.{generated_is_the_bank}
use Rattle.beldi_bank_text.proofs.laws.generated_is_the_bank.Goals as goal

pub returns : goal.returns
returns c = generated_is_the_bank
