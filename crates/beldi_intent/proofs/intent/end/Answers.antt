use Rattle.beldi_intent.proofs.Names.{Act, End, Err, Ok, RowKey, acted, ap, end_asks, refl, sym}
use Rattle.beldi_intent.proofs.intent.end.Goals as goal

pub returns-in-Ok : goal.returns-in-Ok
returns-in-Ok g c = (_, (refl, c.put_told.ensures), acted (end_asks c.args.id c.args.func c.args.outcome c.args.stamp) c.intent_key.result (End c.args.outcome c.args.stamp) c.args.now (g.T.Table.state c.args.table.now) (g.T.Table.state c.act.follows.lender-at-none) c.act.result (Ok c.in-Ok.said) c.in-Ok.is (ap (λ (k : RowKey). Act k (End c.args.outcome c.args.stamp)) (sym c.intent_key.ensures)) c.act.follows.holds-at-none)

pub returns-in-Err : goal.returns-in-Err
returns-in-Err g c = (Err c.in-Err.why, (refl, refl), acted (end_asks c.args.id c.args.func c.args.outcome c.args.stamp) c.intent_key.result (End c.args.outcome c.args.stamp) c.args.now (g.T.Table.state c.args.table.now) (g.T.Table.state c.act.follows.lender-at-none) c.act.result (Err c.in-Err.why) c.in-Err.is (ap (λ (k : RowKey). Act k (End c.args.outcome c.args.stamp)) (sym c.intent_key.ensures)) c.act.follows.holds-at-none)
