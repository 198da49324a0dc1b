use Rattle.beldi_invariant.proofs.OneEvent.{drops_have_cause}
use Rattle.beldi_invariant.proofs.laws.a_dropped_answer_has_a_cause.Goals as goal

pub returns : goal.returns
returns c = drops_have_cause
