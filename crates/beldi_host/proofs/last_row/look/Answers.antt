use Rattle.beldi_host.proofs.Names.{Err, Ok, Option, OutOfMemory, Row}
use Rattle.beldi_row.specs.Key.{at_row}
use Rattle.beldi_host.proofs.Looks.{seen}
use Rattle.beldi_host.specs.LastRow.{row_step}
use Rattle.beldi_host.proofs.last_row.look.Goals as goal

pub returns-in-Ok : goal.returns-in-Ok
returns-in-Ok g c =
    let t = g.T.Table in
    seen (λ (o : Option Row). row_step c.args.row o) (at_row c.args.head.now c.args.row) c.in_ok-key.key c.args.now (t.state c.args.table.now) (t.state c.act.follows.lender-at-none) c.act.result c.in_ok-said.said c.in_ok-said.was
    c.in_ok-key.ensures c.act.follows.holds-at-none (Ok c.in-Ok.told) (λ e. cc) c.in-Ok.ensures

pub returns-in-Err : goal.returns-in-Err
returns-in-Err g c =
    let t = g.T.Table in
    seen (λ (o : Option Row). row_step c.args.row o) (at_row c.args.head.now c.args.row) c.in_ok-key.key c.args.now (t.state c.args.table.now) (t.state c.act.follows.lender-at-none) c.act.result c.in_ok-said.said c.in_ok-said.was
    c.in_ok-key.ensures c.act.follows.holds-at-none (Err OutOfMemory) (λ e. cc) tt
