use Rattle.beldi_host.proofs.{Names.rules, HostInvariant.stands_less_at}
use Rattle.beldi_host.proofs.laws.the_invariant_implies_stands_less.Goals as goal

pub returns : goal.returns
returns g c = search (rules, stands_less_at)
