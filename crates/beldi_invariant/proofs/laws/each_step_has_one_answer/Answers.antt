use Rattle.beldi_invariant.proofs.OneAnswer.{one_answer}
use Rattle.beldi_invariant.proofs.laws.each_step_has_one_answer.Goals as goal

pub returns : goal.returns
returns c = one_answer
