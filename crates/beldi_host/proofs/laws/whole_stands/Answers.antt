use Rattle.beldi_host.proofs.{Names.rules, HostInvariant.stands_at}
use Rattle.beldi_host.proofs.laws.whole_stands.Goals as goal

pub returns : goal.returns
returns g c = search (rules, stands_at)
