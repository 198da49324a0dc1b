use Rattle.beldi_invariant.proofs.Starts.{outcomes_stay}
use Rattle.beldi_invariant.proofs.laws.outcomes_stay.Goals as goal

pub returns : goal.returns
returns c = outcomes_stay
