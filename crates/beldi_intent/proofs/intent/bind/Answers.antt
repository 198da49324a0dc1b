use Rattle.beldi_intent.proofs.Names.{Act, Bind, Err, Ok, RowKey, acted, ap, bind_asks, refl, sym}
use Rattle.beldi_intent.proofs.intent.bind.Goals as goal

pub returns-in-Ok-bind_told : goal.returns-in-Ok-bind_told
returns-in-Ok-bind_told g c = (_, (refl, c.in-Ok-bind_told.ensures.ok), acted (bind_asks c.args.ticket c.args.func c.args.args) c.root_key.result (Bind c.args.func c.args.args) c.args.now (g.T.Table.state c.args.table.now) (g.T.Table.state c.act.follows.lender-at-none) c.act.result (Ok c.in-Ok.said) c.in-Ok.is (ap (λ (k : RowKey). Act k (Bind c.args.func c.args.args)) (sym c.root_key.ensures)) c.act.follows.holds-at-none)

pub returns-in-Err-bind_told : goal.returns-in-Err-bind_told
returns-in-Err-bind_told g c = (_, (refl, refl, c.in-Err-bind_told.ensures.err), acted (bind_asks c.args.ticket c.args.func c.args.args) c.root_key.result (Bind c.args.func c.args.args) c.args.now (g.T.Table.state c.args.table.now) (g.T.Table.state c.act.follows.lender-at-none) c.act.result (Ok c.in-Ok.said) c.in-Ok.is (ap (λ (k : RowKey). Act k (Bind c.args.func c.args.args)) (sym c.root_key.ensures)) c.act.follows.holds-at-none)

pub returns-in-Err : goal.returns-in-Err
returns-in-Err g c = (Err c.in-Err.why, (refl, refl), acted (bind_asks c.args.ticket c.args.func c.args.args) c.root_key.result (Bind c.args.func c.args.args) c.args.now (g.T.Table.state c.args.table.now) (g.T.Table.state c.act.follows.lender-at-none) c.act.result (Err c.in-Err.why) c.in-Err.is (ap (λ (k : RowKey). Act k (Bind c.args.func c.args.args)) (sym c.root_key.ensures)) c.act.follows.holds-at-none)
