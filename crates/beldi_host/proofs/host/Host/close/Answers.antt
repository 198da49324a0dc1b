use Rattle.beldi_host.proofs.{Names.core_of, Names.rules, HostInvariant.stands_at, HostInvariant.stands_less_at}
use Rattle.beldi_host.proofs.host.Host.close.Goals as goal

pub returns-clause-stands : goal.returns-clause-stands
returns-clause-stands g c = search (rules, stands_at)

pub returns-clause-stands_less : goal.returns-clause-stands_less
returns-clause-stands_less g c = let h = c.args.self in stands_less_at h.code (core_of h) (g.T.Table.state h.table).rows
