use Rattle.beldi_tidy.proofs.Sweeping.{sweeps_as_promised}
use Rattle.beldi_tidy.proofs.laws.sweeps_are_as_promised.Goals as goal

pub returns : goal.returns
returns c = sweeps_as_promised
