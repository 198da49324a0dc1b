use Rattle.beldi_plain_laws.proofs.Sound.{legal_is_well_formed}
use Rattle.beldi_plain_laws.proofs.laws.legal_is_well_formed.Goals as goal

pub returns : goal.returns
returns c = legal_is_well_formed
