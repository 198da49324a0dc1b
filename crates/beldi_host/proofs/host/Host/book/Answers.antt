use Rattle.beldi_host.proofs.{Names.rules, HostInvariant.legal_at}
use Rattle.beldi_host.proofs.host.Host.book.Goals as goal

pub returns-clause-legal : goal.returns-clause-legal
returns-clause-legal g c = search (rules, legal_at)
