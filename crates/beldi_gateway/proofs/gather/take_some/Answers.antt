use Rattle.beldi_gateway.proofs.{Names.take, Moves.reads}
use Rattle.beldi_gateway.proofs.gather.take_some.Goals as goal

pub returns-in-Err-clause-takes : goal.returns-in-Err-clause-takes
returns-in-Err-clause-takes g c =
    let n = g.N.Link in
    (take c.in_ok-count.count c.read.new.buf, reads c.read.new.buf c.in_ok-count.count (n.seen c.args.link.now) (n.seen c.read.new.self) c.in_ok-count.ensures.bytes)
