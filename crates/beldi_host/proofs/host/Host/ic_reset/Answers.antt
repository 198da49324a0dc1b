use Rattle.beldi_host.proofs.{Names.core_of, HostInvariant.moved_cursor}
use Rattle.beldi_host.proofs.host.Host.ic_reset.Goals as goal

pub returns-clause-right : goal.returns-clause-right
returns-clause-right g c = let h = c.args.self.now in moved_cursor h.code (core_of h) c.replace.new.dest (g.T.Table.state h.table).rows
