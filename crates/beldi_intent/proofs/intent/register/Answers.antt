use Rattle.beldi_intent.proofs.Names.{Act, Err, Ok, Register, RowKey, acted, ap, refl, register_asks, sym}
use Rattle.beldi_intent.proofs.intent.register.Goals as goal

pub returns-in-Ok-intent_told : goal.returns-in-Ok-intent_told
returns-in-Ok-intent_told g c = (_, (refl, c.in-Ok-intent_told.ensures.ok), acted (register_asks c.args.id c.args.body) c.intent_key.result (Register c.args.body) c.args.now (g.T.Table.state c.args.table.now) (g.T.Table.state c.act.follows.lender-at-none) c.act.result (Ok c.in-Ok.said) c.in-Ok.is (ap (λ (k : RowKey). Act k (Register c.args.body)) (sym c.intent_key.ensures)) c.act.follows.holds-at-none)

pub returns-in-Err-intent_told : goal.returns-in-Err-intent_told
returns-in-Err-intent_told g c = (_, (refl, refl, c.in-Err-intent_told.ensures.err), acted (register_asks c.args.id c.args.body) c.intent_key.result (Register c.args.body) c.args.now (g.T.Table.state c.args.table.now) (g.T.Table.state c.act.follows.lender-at-none) c.act.result (Ok c.in-Ok.said) c.in-Ok.is (ap (λ (k : RowKey). Act k (Register c.args.body)) (sym c.intent_key.ensures)) c.act.follows.holds-at-none)

pub returns-in-Err : goal.returns-in-Err
returns-in-Err g c = (Err c.in-Err.why, (refl, refl), acted (register_asks c.args.id c.args.body) c.intent_key.result (Register c.args.body) c.args.now (g.T.Table.state c.args.table.now) (g.T.Table.state c.act.follows.lender-at-none) c.act.result (Err c.in-Err.why) c.in-Err.is (ap (λ (k : RowKey). Act k (Register c.args.body)) (sym c.intent_key.ensures)) c.act.follows.holds-at-none)
