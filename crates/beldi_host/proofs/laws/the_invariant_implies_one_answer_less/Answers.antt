use Rattle.beldi_host.proofs.{Names.rules, HostInvariant.one_answer_less_at}
use Rattle.beldi_host.proofs.laws.the_invariant_implies_one_answer_less.Goals as goal

pub returns : goal.returns
returns g c = search (rules, one_answer_less_at)
