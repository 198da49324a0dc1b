use Rattle.beldi_kept.proofs.KeptKeeps.{answers_are_of_kept}
use Rattle.beldi_kept.proofs.laws.an_answer_is_of_kept_rows.Goals as goal

pub returns : goal.returns
returns c = answers_are_of_kept c.the_closed_are_passed.ensures
