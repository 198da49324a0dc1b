use Rattle.beldi_kept.proofs.Telling.{kept_outcomes}
use Rattle.beldi_kept.proofs.replies.outcomes_stay_still.Goals as goal

pub returns : goal.returns
returns c = kept_outcomes c.an_answer_is_of_kept_rows.ensures
