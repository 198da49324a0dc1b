use Rattle.std.proofs.Common.{Ok}
use Rattle.beldi_step.specs.declared.event.Event.{Event}
use Rattle.beldi_serve.proofs.Coming.{event_comes, ticks_told}
use Rattle.beldi_serve.proofs.desk.HostDesk.pass.Goals as goal

pub returns-in-Ok : goal.returns-in-Ok
returns-in-Ok g c = let e = c.in-Ok.ensures in ticks_told c.args.self.now.host c.event.new.self c.args.by c.in-Ok.seen (event_comes c.args.self.now.host c.event.new.self (Event.Tick c.args.by) (Ok c.in-Ok.seen) e.code e.step)
