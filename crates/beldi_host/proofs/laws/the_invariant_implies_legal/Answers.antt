use Rattle.beldi_host.proofs.{Names.rules, HostInvariant.legal_at}
use Rattle.beldi_host.proofs.laws.the_invariant_implies_legal.Goals as goal

pub returns : goal.returns
returns g c = search (rules, legal_at)
