use Rattle.beldi_check.proofs.Paths.{reaches_by_paths}
use Rattle.beldi_check.proofs.laws.reaches_by_paths.Goals as goal

pub returns : goal.returns
returns c = reaches_by_paths
