use Rattle.beldi_host.proofs.{Names.core_of, HostInvariant.listed}
use Rattle.beldi_host.proofs.host.Host.tables.Goals as goal

pub returns-clause-listing : goal.returns-clause-listing
returns-clause-listing g c =
    let t = g.T.Table in
    let h = c.args.self.now in
    listed h.code (core_of h) c.args.out.now c.list.new.out (t.state h.table) (t.state c.list.new.self.table) c.list.result c.list.ensures.reads
