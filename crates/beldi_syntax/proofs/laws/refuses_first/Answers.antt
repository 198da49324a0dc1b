use Rattle.beldi_syntax.proofs.Texts.{refuses_first}
use Rattle.beldi_syntax.proofs.laws.refuses_first.Goals as goal

pub returns : goal.returns
returns c = refuses_first
