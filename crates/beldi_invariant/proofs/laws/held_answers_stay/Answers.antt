use Rattle.beldi_invariant.proofs.OneAnswer.{answers_stay}
use Rattle.beldi_invariant.proofs.laws.held_answers_stay.Goals as goal

pub returns : goal.returns
returns c = answers_stay
