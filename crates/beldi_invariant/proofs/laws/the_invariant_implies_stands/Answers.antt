use Rattle.beldi_invariant.proofs.Standing.{invariant_stands}
use Rattle.beldi_invariant.proofs.laws.the_invariant_implies_stands.Goals as goal

pub returns : goal.returns
returns c = invariant_stands
