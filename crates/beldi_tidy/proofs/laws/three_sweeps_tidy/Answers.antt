use Rattle.beldi_tidy.proofs.Sweeping.{three_sweeps_tidy}
use Rattle.beldi_tidy.proofs.laws.three_sweeps_tidy.Goals as goal

pub returns : goal.returns
returns c = three_sweeps_tidy
