use Rattle.beldi_host.proofs.{Names.core_of, HostInvariant.not_gone, HostInvariant.said}
use Rattle.beldi_host.proofs.host.Host.reply.Goals as goal

pub returns-clause-plain : goal.returns-clause-plain
returns-clause-plain g c =
    let t = g.T.Table in
    let h = c.args.self.now in
    let k = c.look.new.self in
    said h.code (core_of h) c.args.ticket (t.state h.table) (t.state k.table) c.look.result c.look.ensures.reads

pub returns-clause-there : goal.returns-clause-there
returns-clause-there g c =
    let t = g.T.Table in
    let h = c.args.self.now in
    let k = c.look.new.self in
    not_gone h.code (core_of h) c.args.ticket (t.state h.table) (t.state k.table) c.look.result c.look.ensures.reads
