use Rattle.beldi_step.proofs.Stride.{walks_on}
use Rattle.beldi_step.proofs.laws.a_walk_goes_on.Goals as goal

pub returns : goal.returns
returns c = walks_on
