use Rattle.std.proofs.Common.{Err, Ok}
use Rattle.beldi_step.specs.declared.event.Event.{Event}
use Rattle.beldi_serve.proofs.Coming.{call_short, call_told, event_comes}
use Rattle.beldi_serve.proofs.desk.HostDeskDesk.call.Goals as goal

pub returns-in-Ok : goal.returns-in-Ok
returns-in-Ok g c =
    let e = c.in-Ok.ensures in
    let a = c.args.self.now.host in
    let b = c.event.new.self in
    let f = c.follow.ensures in
    call_told a b c.follow.new.self.host c.args.ticket c.args.func c.args.args c.in-Ok.seen c.follow.result (event_comes a b (Event.Request c.args.ticket c.args.func c.args.args) (Ok c.in-Ok.seen) e.code e.step) f.goes f.ends

pub returns-in-Err : goal.returns-in-Err
returns-in-Err g c =
    let e = c.in-Err.ensures in
    let a = c.args.self.now.host in
    let b = c.event.new.self in
    call_short a b c.args.ticket c.args.func c.args.args c.in-Err.field-0 (event_comes a b (Event.Request c.args.ticket c.args.func c.args.args) (Err c.in-Err.field-0) e.code e.step)
