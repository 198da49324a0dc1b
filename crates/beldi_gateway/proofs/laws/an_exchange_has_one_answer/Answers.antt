use Rattle.beldi_gateway.proofs.One.{one_answer}
use Rattle.beldi_gateway.proofs.laws.an_exchange_has_one_answer.Goals as goal

pub returns : goal.returns
returns g c = one_answer g.D.Desk.funcs g.D.Desk.keeps
