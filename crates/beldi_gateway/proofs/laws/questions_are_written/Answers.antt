use Rattle.beldi_gateway.proofs.Questions.{questions_are_written}
use Rattle.beldi_gateway.proofs.laws.questions_are_written.Goals as goal

pub returns : goal.returns
returns c = questions_are_written
