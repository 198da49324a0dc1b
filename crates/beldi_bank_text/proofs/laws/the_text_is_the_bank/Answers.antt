use Rattle.beldi_bank_text.proofs.Read.{text_is_the_bank}
use Rattle.beldi_bank_text.proofs.laws.the_text_is_the_bank.Goals as goal

pub returns : goal.returns
returns c = text_is_the_bank
