use Rattle.beldi_kept.proofs.Telling.{kept_replies}
use Rattle.beldi_kept.proofs.replies.replies_are_outcomes_still.Goals as goal

pub returns : goal.returns
returns c = kept_replies c.an_answer_is_of_kept_rows.ensures
