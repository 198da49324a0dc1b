use Rattle.beldi_invariant.proofs.Starts.{starts_bound}
use Rattle.beldi_invariant.proofs.laws.starts_are_bound.Goals as goal

pub returns : goal.returns
returns c = starts_bound
