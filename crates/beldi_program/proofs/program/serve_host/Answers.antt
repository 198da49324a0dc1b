use Rattle.beldi_program.proofs.Names.{Ended, Err, Ok, Rose, ap, arith, subst, sym}
use Rattle.beldi_program.specs.Serves.{ServesHost}
use Rattle.beldi_program.proofs.Services.{short_for_port, not_listening, not_all, served_over, service_broke, service_listed}
use Rattle.beldi_program.proofs.program.serve_host.Goals as goal

pub returns-in-Ok-serve : goal.returns-in-Ok-serve
returns-in-Ok-serve g c =
    let k = g.K.Sink in
    let n = g.N.Link in
    let s = c.serve in
    let host = c.into_host.result in
    let seen = n.seen c.listen.new.self in
    let later = c.in-Ok-serve.ensures in
    service_listed k.held k.faults g.C.Clock.tells c.args.host c.args.requests c.args.clock.now host (n.seen c.args.link.now) seen (n.seen s.new.link) s.new.clock (Rose (n.refusals c.args.link.now) (n.refusals s.new.link))
    c.args.sink.now s.new.sink c.list_all.new.sink c.list_all.result.1 c.list_all.result.0 c.in-Ok.ensures.bytes
    (served_over k.held k.faults g.C.Clock.tells c.args.host c.args.requests c.args.clock.now c.new-desk.result.host s.new.desk.host host seen (n.seen s.new.link) s.new.clock c.args.sink.now s.new.sink (Ok c.in-Ok-serve.field-0) c.new-desk.ensures c.into_host.ensures later.serves)
    later.later c.list_all.ensures

pub returns-in-Err-serve : goal.returns-in-Err-serve
returns-in-Err-serve g c =
    let k = g.K.Sink in
    let n = g.N.Link in
    let s = c.serve in
    let host = c.into_host-in-Err-serve.result in
    let seen = n.seen c.listen.new.self in
    let later = c.in-Err-serve.ensures in
    let why = c.in-Err-serve.why in
    subst (λ (z : Ended). ServesHost k.held k.faults g.C.Clock.tells c.args.host c.args.requests (n.seen c.args.link.now) (n.seen s.new.link) c.args.clock.now (Rose (n.refusals c.args.link.now) (n.refusals s.new.link)) c.args.sink.now s.new.sink c.close.result z) (sym c.served_end.ensures)
    (service_broke k.held k.faults g.C.Clock.tells c.args.host c.args.requests c.args.clock.now host (n.seen c.args.link.now) seen (n.seen s.new.link) s.new.clock (Rose (n.refusals c.args.link.now) (n.refusals s.new.link))
    c.args.sink.now s.new.sink c.close.result why c.in-Ok.ensures.bytes c.close.ensures.table
    (served_over k.held k.faults g.C.Clock.tells c.args.host c.args.requests c.args.clock.now c.new-desk.result.host s.new.desk.host host seen (n.seen s.new.link) s.new.clock c.args.sink.now s.new.sink (Err why) c.new-desk.ensures c.into_host-in-Err-serve.ensures later.serves)
    (λ is. later.fault (ap not_all is)) (λ is. let rose = later.refused (ap not_all is) in let sooner = c.in-Ok.ensures.cause.later in omega (arith, rose, sooner)))

pub returns-then-is_short : goal.returns-then-is_short
returns-then-is_short g c =
    let k = g.K.Sink in
    let n = g.N.Link in
    short_for_port k.held k.faults g.C.Clock.tells c.args.host c.args.requests c.args.clock.now (n.seen c.args.link.now) (n.seen c.listen.new.self) (Rose (n.refusals c.args.link.now) (n.refusals c.listen.new.self)) c.args.sink.now c.close-then-is_short.result c.in-Err.ensures.bytes c.close-then-is_short.ensures.table

pub returns-else-is_short : goal.returns-else-is_short
returns-else-is_short g c =
    let k = g.K.Sink in
    let n = g.N.Link in
    not_listening k.held k.faults g.C.Clock.tells c.args.host c.args.requests c.args.clock.now (n.seen c.args.link.now) (n.seen c.listen.new.self) (Rose (n.refusals c.args.link.now) (n.refusals c.listen.new.self)) c.args.sink.now c.close-else-is_short.result c.in-Err.ensures.bytes c.close-else-is_short.ensures.table c.in-Err.ensures.cause.failed
