-- How a callee ended, as the answer to its call.
use Rattle.beldi_value.specs.declared.outcome.Outcome.{Outcome}
use Rattle.beldi_lang.specs.declared.effect.Answer.{Answer}

abbrev pub answer_of : Outcome → Answer
answer_of (Outcome.Value v) = Answer.Value v
answer_of (Outcome.Fault c) = Answer.Fault c
answer_of (Outcome.Aborted c) = Answer.Aborted c
