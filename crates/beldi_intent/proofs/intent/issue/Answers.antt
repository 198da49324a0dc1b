use Rattle.beldi_intent.proofs.Names.{Act, Err, Issue, Ok, RowKey, acted, ap, issue_asks, refl, sym}
use Rattle.beldi_intent.proofs.intent.issue.Goals as goal

pub returns-in-Ok : goal.returns-in-Ok
returns-in-Ok g c = (_, (refl, c.issue_told.ensures), acted (issue_asks c.args.ticket) c.root_key.result Issue c.args.now (g.T.Table.state c.args.table.now) (g.T.Table.state c.act.follows.lender-at-none) c.act.result (Ok c.in-Ok.said) c.in-Ok.is (ap (λ (k : RowKey). Act k Issue) (sym c.root_key.ensures)) c.act.follows.holds-at-none)

pub returns-in-Err : goal.returns-in-Err
returns-in-Err g c = (Err c.in-Err.why, (refl, refl), acted (issue_asks c.args.ticket) c.root_key.result Issue c.args.now (g.T.Table.state c.args.table.now) (g.T.Table.state c.act.follows.lender-at-none) c.act.result (Err c.in-Err.why) c.in-Err.is (ap (λ (k : RowKey). Act k Issue) (sym c.root_key.ensures)) c.act.follows.holds-at-none)
