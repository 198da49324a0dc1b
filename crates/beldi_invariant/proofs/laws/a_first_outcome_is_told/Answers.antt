use Rattle.beldi_invariant.proofs.FirstOutcomes.{first_outcomes_are_told}
use Rattle.beldi_invariant.proofs.laws.a_first_outcome_is_told.Goals as goal

pub returns : goal.returns
returns c = first_outcomes_are_told
