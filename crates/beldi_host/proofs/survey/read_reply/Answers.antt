use Rattle.beldi_host.proofs.{Names.Err, Names.Ok, Names.OutOfMemory, Names.root_key, Names.row_status, Looks.seen}
use Rattle.beldi_host.proofs.survey.read_reply.Goals as goal

pub returns-in-Ok-clause-reads : goal.returns-in-Ok-clause-reads
returns-in-Ok-clause-reads g c =
    let t = g.T.Table in
    let old = c.args.table.now in
    let new = c.act.follows.lender-at-none in
    seen row_status (root_key c.args.ticket) c.root_key.result c.args.now (t.state old) (t.state new) c.act.result c.in_ok-said.said c.in_ok-said.was
    c.root_key.ensures c.act.follows.holds-at-none (Ok c.in-Ok.reply) (λ e. cc) c.in-Ok.ensures.reply

pub returns-in-Err-clause-reads : goal.returns-in-Err-clause-reads
returns-in-Err-clause-reads g c =
    let t = g.T.Table in
    let old = c.args.table.now in
    let new = c.act.follows.lender-at-none in
    seen row_status (root_key c.args.ticket) c.root_key.result c.args.now (t.state old) (t.state new) c.act.result c.in_ok-said.said c.in_ok-said.was
    c.root_key.ensures c.act.follows.holds-at-none (Err OutOfMemory) (λ e. cc) tt
