use Rattle.beldi_program.proofs.Names.{Rose, source_at}
use Rattle.beldi_program.proofs.Ends.{unread_served}
use Rattle.beldi_program.proofs.program.serve_source.Goals as goal

pub returns-in-Err-OutOfMemory : goal.returns-in-Err-OutOfMemory
returns-in-Err-OutOfMemory g c =
    let k = g.K.Sink in
    let n = g.N.Link in
    let seen = n.seen c.args.link.now in
    unread_served k.held k.faults g.T.Table.state g.C.Clock.tells seen seen c.args.clock.now (Rose (n.refusals c.args.link.now) (n.refusals c.args.link.now)) c.args.bytes.now c.args.requests (source_at c.args.bytes.now) c.args.sink.now c.args.table
