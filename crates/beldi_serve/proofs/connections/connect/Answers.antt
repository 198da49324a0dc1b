use Rattle.beldi_serve.proofs.Serving.{connect_short, connected, prune_short}
use Rattle.beldi_serve.proofs.connections.connect.Goals as goal

pub returns-in-Ok-prune-clause-passes : goal.returns-in-Ok-prune-clause-passes
returns-in-Ok-prune-clause-passes g c =
    let n = g.N.Link in
    connected g.C.Clock.tells c.args.desk.now.host c.tick.new.desk c.serve_one.new.desk c.prune.new.self.host (n.seen c.args.link.now) (n.seen c.accept.new.self) (n.seen c.serve_one.new.link) (n.seen c.close.new.self) c.args.clock.now c.now.new.self c.now.result c.in-Ok-serve_one.served
    c.in-Ok.ensures.bytes c.now.ensures c.in-Ok-tick.ensures c.in-Ok-serve_one.ensures.serves c.close.ensures.bytes c.in-Ok-prune.ensures

pub returns-in-Err-prune-clause-passes : goal.returns-in-Err-prune-clause-passes
returns-in-Err-prune-clause-passes g c =
    let n = g.N.Link in
    prune_short g.C.Clock.tells c.args.desk.now.host c.tick.new.desk c.serve_one.new.desk c.prune.new.self.host (n.seen c.args.link.now) (n.seen c.accept.new.self) (n.seen c.serve_one.new.link) (n.seen c.close.new.self) c.args.clock.now c.now.new.self c.now.result c.in-Ok-serve_one.served c.in-Err-prune.field-0
    c.in-Ok-tick.ensures c.in-Ok-serve_one.ensures.serves c.in-Err-prune.ensures

pub returns-in-Err-serve_one-clause-passes : goal.returns-in-Err-serve_one-clause-passes
returns-in-Err-serve_one-clause-passes g c =
    let n = g.N.Link in
    connect_short g.C.Clock.tells c.args.desk.now.host c.tick.new.desk c.serve_one.new.desk (n.seen c.args.link.now) (n.seen c.accept.new.self) (n.seen c.serve_one.new.link) c.args.clock.now c.now.new.self c.now.result c.in-Err-serve_one.field-0 c.in-Ok-tick.ensures c.in-Err-serve_one.ensures.serves
