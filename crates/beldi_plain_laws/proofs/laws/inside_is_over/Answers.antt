use Rattle.beldi_plain_laws.proofs.Sound.{inside_is_over}
use Rattle.beldi_plain_laws.proofs.laws.inside_is_over.Goals as goal

pub returns : goal.returns
returns c = inside_is_over
