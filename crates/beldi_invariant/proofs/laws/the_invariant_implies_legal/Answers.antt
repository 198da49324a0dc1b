use Rattle.beldi_invariant.proofs.Events.{invariant_legal}
use Rattle.beldi_invariant.proofs.laws.the_invariant_implies_legal.Goals as goal

pub returns : goal.returns
returns c = invariant_legal
