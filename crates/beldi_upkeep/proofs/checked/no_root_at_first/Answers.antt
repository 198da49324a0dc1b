use Rattle.beldi_upkeep.proofs.Roots.{no_root}
use Rattle.beldi_upkeep.proofs.checked.no_root_at_first.Goals as goal

pub returns : goal.returns
returns c = no_root
