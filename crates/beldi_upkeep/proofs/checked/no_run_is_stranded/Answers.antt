use Rattle.beldi_upkeep.proofs.Stranded.{no_run_stranded}
use Rattle.beldi_upkeep.proofs.checked.no_run_is_stranded.Goals as goal

pub returns : goal.returns
returns c = no_run_stranded
