use Rattle.std.proofs.Common.{refl, ap, sym, Ok, Err}
use Rattle.beldi_row.specs.{declared.table.TableErr.TheVariants.OutOfMemory, declared.act.Act.TheVariants.OpenInvoke, Key.RowKey}
use Rattle.beldi_query.{specs.declared.query.Query.TheVariants.Act, proofs.Queries.acted, proofs.Queries.unasked}
use Rattle.beldi_invokelog.specs.InvokeLog.{open_asks}
use Rattle.beldi_invokelog.proofs.invoke_log.open_once.Goals as goal

pub returns-in_default : goal.returns-in_default
returns-in_default g c = (Err OutOfMemory, (refl, refl), unasked (open_asks c.args.home c.args.at.now c.args.func) c.args.now (g.T.Table.state c.args.table.now))

pub returns-in-Ok-invoked_told : goal.returns-in-Ok-invoked_told
returns-in-Ok-invoked_told g c = (_, (refl, c.in-Ok-invoked_told.ensures.ok), acted (open_asks c.args.home c.args.at.now c.args.func) c.in-Ok.key (OpenInvoke c.args.func) c.args.now (g.T.Table.state c.args.table.now) (g.T.Table.state c.act.follows.lender-at-none) c.act.result (Ok c.in-Ok-act.said) c.in-Ok-act.is (ap (λ (k : RowKey). Act k (OpenInvoke c.args.func)) (sym c.in-Ok.ensures)) c.act.follows.holds-at-none)

pub returns-in-Err-invoked_told : goal.returns-in-Err-invoked_told
returns-in-Err-invoked_told g c = (_, (refl, refl, c.in-Err-invoked_told.ensures.err), acted (open_asks c.args.home c.args.at.now c.args.func) c.in-Ok.key (OpenInvoke c.args.func) c.args.now (g.T.Table.state c.args.table.now) (g.T.Table.state c.act.follows.lender-at-none) c.act.result (Ok c.in-Ok-act.said) c.in-Ok-act.is (ap (λ (k : RowKey). Act k (OpenInvoke c.args.func)) (sym c.in-Ok.ensures)) c.act.follows.holds-at-none)

pub returns-in-Err : goal.returns-in-Err
returns-in-Err g c = (Err c.in-Err.why, (refl, refl), acted (open_asks c.args.home c.args.at.now c.args.func) c.in-Ok.key (OpenInvoke c.args.func) c.args.now (g.T.Table.state c.args.table.now) (g.T.Table.state c.act.follows.lender-at-none) c.act.result (Err c.in-Err.why) c.in-Err.is (ap (λ (k : RowKey). Act k (OpenInvoke c.args.func)) (sym c.in-Ok.ensures)) c.act.follows.holds-at-none)
