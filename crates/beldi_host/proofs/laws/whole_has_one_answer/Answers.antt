use Rattle.beldi_host.proofs.{Names.rules, HostInvariant.one_answer_at}
use Rattle.beldi_host.proofs.laws.whole_has_one_answer.Goals as goal

pub returns : goal.returns
returns g c = search (rules, one_answer_at)
