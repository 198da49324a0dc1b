use Rattle.beldi_kept.proofs.LeftRows.{kept_answers}
use Rattle.beldi_kept.proofs.stands.fresh_intents_have_one_answer.Goals as goal

pub returns : goal.returns
returns c = kept_answers
