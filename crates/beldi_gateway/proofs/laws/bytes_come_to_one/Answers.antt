use Rattle.beldi_gateway.proofs.One.{one_question}
use Rattle.beldi_gateway.proofs.laws.bytes_come_to_one.Goals as goal

pub returns : goal.returns
returns c = one_question
