use Rattle.beldi_intent.proofs.Names.{Act, Err, Ok, RowKey, Stamp, acted, ap, refl, stamp_asks, sym}
use Rattle.beldi_intent.proofs.intent.stamp.Goals as goal

pub returns-in-Ok : goal.returns-in-Ok
returns-in-Ok g c = (_, (refl, c.put_told.ensures), acted (stamp_asks c.args.id c.args.func) c.intent_key.result Stamp c.args.now (g.T.Table.state c.args.table.now) (g.T.Table.state c.act.follows.lender-at-none) c.act.result (Ok c.in-Ok.said) c.in-Ok.is (ap (λ (k : RowKey). Act k Stamp) (sym c.intent_key.ensures)) c.act.follows.holds-at-none)

pub returns-in-Err : goal.returns-in-Err
returns-in-Err g c = (Err c.in-Err.why, (refl, refl), acted (stamp_asks c.args.id c.args.func) c.intent_key.result Stamp c.args.now (g.T.Table.state c.args.table.now) (g.T.Table.state c.act.follows.lender-at-none) c.act.result (Err c.in-Err.why) c.in-Err.is (ap (λ (k : RowKey). Act k Stamp) (sym c.intent_key.ensures)) c.act.follows.holds-at-none)
