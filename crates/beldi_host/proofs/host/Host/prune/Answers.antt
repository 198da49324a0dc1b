use Rattle.beldi_host.proofs.{Names.core_of, HostInvariant.pruning_keeps, HostInvariant.pruning_keeps_whole}
use Rattle.beldi_host.proofs.host.Host.prune.Goals as goal

pub returns-clause-right : goal.returns-clause-right
returns-clause-right g c =
    let t = g.T.Table in
    let h = c.args.self.now in
    let k = c.collect.new.self in
    pruning_keeps h.code c.args.number (core_of h) (core_of k) (t.state h.table) (t.state k.table) c.collect.result c.collect.ensures.prunes k.code c.collect.ensures.code

pub returns-clause-whole : goal.returns-clause-whole
returns-clause-whole g c =
    let t = g.T.Table in
    let h = c.args.self.now in
    let k = c.collect.new.self in
    pruning_keeps_whole h.code c.args.number (core_of h) (core_of k) (t.state h.table) (t.state k.table) c.collect.result c.collect.ensures.prunes k.code c.collect.ensures.code
