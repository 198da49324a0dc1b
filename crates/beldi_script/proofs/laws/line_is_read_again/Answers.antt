use Rattle.beldi_script.proofs.ReadAgain.{line_read}
use Rattle.beldi_script.proofs.laws.line_is_read_again.Goals as goal

pub returns : goal.returns
returns c = line_read
