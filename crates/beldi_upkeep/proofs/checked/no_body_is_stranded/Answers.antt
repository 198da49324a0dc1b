use Rattle.beldi_upkeep.proofs.Stranded.{no_body_stranded}
use Rattle.beldi_upkeep.proofs.checked.no_body_is_stranded.Goals as goal

pub returns : goal.returns
returns c = no_body_stranded
