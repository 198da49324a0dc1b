use Rattle.beldi_kept.proofs.Telling.{kept_first_outcomes}
use Rattle.beldi_kept.proofs.replies.first_outcomes_are_told_still.Goals as goal

pub returns : goal.returns
returns c = kept_first_outcomes c.an_answer_is_of_kept_rows.ensures
