use Rattle.beldi_kept.proofs.Telling.{kept_instances}
use Rattle.beldi_kept.proofs.replies.instances_go_on_still.Goals as goal

pub returns : goal.returns
returns c = kept_instances c.an_answer_is_of_kept_rows.ensures
