use Rattle.std.proofs.Common.{Err, None, Ok}
use Rattle.beldi_session.specs.declared.sweeping.Swept.{Swept}
use Rattle.beldi_serve.specs.ServedConnections.{pruning}
use Rattle.beldi_serve.proofs.Coming.{settled_comes, turns_given, turns_short}
use Rattle.beldi_serve.proofs.desk.HostDesk.prune.Goals as goal

pub returns-in-Ok : goal.returns-in-Ok
returns-in-Ok g c =
    let a = c.args.self.now.host in
    let b = c.sweep-given.new.host in
    turns_given a b pruning c.in-Ok.field-0 (settled_comes a b pruning c.args.self.now.told c.sweep-given.new.out (Ok c.in-Ok.field-0) (c.in-Ok.ensures.does None 0))

pub returns-in-Err : goal.returns-in-Err
returns-in-Err g c =
    let a = c.args.self.now.host in
    let b = c.sweep-given.new.host in
    turns_short Swept a b pruning c.in-Err.field-0 (record {}) (settled_comes a b pruning c.args.self.now.told c.sweep-given.new.out (Err c.in-Err.field-0) (c.in-Err.ensures.does None 0))
