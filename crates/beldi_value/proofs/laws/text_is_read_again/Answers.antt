use Rattle.beldi_value.proofs.ReadAgain.{read_again}
use Rattle.beldi_value.proofs.laws.text_is_read_again.Goals as goal

pub returns : goal.returns
returns c = read_again
