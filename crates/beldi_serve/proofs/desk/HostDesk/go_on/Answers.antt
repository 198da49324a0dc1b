use Rattle.std.proofs.Common.{Err, None, Ok, [], ◌∷◌}
use Rattle.beldi_schedule.specs.{Settle.first_at, Settle.go_on, declared.machine.Settled.Settled}
use Rattle.beldi_session.specs.{HostResponse.patience, Script.Settle}
use Rattle.beldi_gateway.specs.declared.response.Response.TheVariants.{Call as Called}
use Rattle.beldi_serve.proofs.Coming.{go_on_short, go_on_told, settled_comes}
use Rattle.beldi_serve.proofs.desk.HostDesk.go_on.Goals as goal

pub returns-in-Ok : goal.returns-in-Ok
returns-in-Ok g c =
    let a = c.args.self.now.host in
    let b = c.settle-settled.new.host in
    let f = Settle patience (go_on patience first_at) in
    go_on_told a b c.look.new.host f c.args.ticket c.in-Ok.settled (Called c.look.result)
    (settled_comes a b (f ∷ []) c.args.self.now.told c.settle-settled.new.out (Ok c.in-Ok.settled) (c.in-Ok.ensures.does None 0)) c.look.ensures

pub returns-in-Err : goal.returns-in-Err
returns-in-Err g c =
    let a = c.args.self.now.host in
    let b = c.settle-settled.new.host in
    let f = Settle patience (go_on patience first_at) in
    go_on_short Settled a b f c.args.ticket c.in-Err.field-0 (settled_comes a b (f ∷ []) c.args.self.now.told c.settle-settled.new.out (Err c.in-Err.field-0) (c.in-Err.ensures.does None 0))
