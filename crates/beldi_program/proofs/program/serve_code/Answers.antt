use Rattle.beldi_program.proofs.Names.{Opened, Rose, subst}
use Rattle.beldi_host.specs.HostCore.{core_of}
use Rattle.beldi_program.proofs.Services.{service_ends}
use Rattle.beldi_program.proofs.program.serve_code.Goals as goal

pub returns-in-Ok : goal.returns-in-Ok
returns-in-Ok g c =
    let k = g.K.Sink in
    let t = g.T.Table in
    let n = g.N.Link in
    let s = c.serve_host in
    let host = c.in-Ok.host in
    service_ends c.sessions_are_plain_runs.ensures k.held k.faults g.C.Clock.tells c.args.code c.args.requests c.args.table host (n.seen c.args.link.now) (n.seen s.new.link) c.args.clock.now c.now.new.self c.now.result c.now.ensures (Rose (n.refusals c.args.link.now) (n.refusals s.new.link))
    (subst (λ z. Opened c.args.code host.code z (t.state c.args.table) (t.state host.table) (core_of host)) c.moment_of.ensures c.in-Ok.ensures.ok)
    c.args.sink.now s.new.sink s.result.1 s.result.0 s.ensures
