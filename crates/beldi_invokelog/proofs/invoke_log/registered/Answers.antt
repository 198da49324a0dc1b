use Rattle.std.proofs.Common.{refl, ap, sym, Ok, Err}
use Rattle.beldi_row.specs.{declared.table.TableErr.TheVariants.OutOfMemory, declared.act.Act.TheVariants.NoteRegistered, Key.RowKey}
use Rattle.beldi_query.{specs.declared.query.Query.TheVariants.Act, proofs.Queries.acted, proofs.Queries.unasked}
use Rattle.beldi_invokelog.specs.InvokeLog.{registered_asks}
use Rattle.beldi_invokelog.proofs.invoke_log.registered.Goals as goal

pub returns-in_default : goal.returns-in_default
returns-in_default g c = (Err OutOfMemory, (refl, refl), unasked (registered_asks c.args.home c.args.at.now) c.args.now (g.T.Table.state c.args.table.now))

pub returns-in-Ok-act : goal.returns-in-Ok-act
returns-in-Ok-act g c = (_, (refl, c.back_told.ensures), acted (registered_asks c.args.home c.args.at.now) c.in-Ok.key NoteRegistered c.args.now (g.T.Table.state c.args.table.now) (g.T.Table.state c.act.follows.lender-at-none) c.act.result (Ok c.in-Ok-act.said) c.in-Ok-act.is (ap (λ (k : RowKey). Act k NoteRegistered) (sym c.in-Ok.ensures)) c.act.follows.holds-at-none)

pub returns-in-Err : goal.returns-in-Err
returns-in-Err g c = (Err c.in-Err.why, (refl, refl), acted (registered_asks c.args.home c.args.at.now) c.in-Ok.key NoteRegistered c.args.now (g.T.Table.state c.args.table.now) (g.T.Table.state c.act.follows.lender-at-none) c.act.result (Err c.in-Err.why) c.in-Err.is (ap (λ (k : RowKey). Act k NoteRegistered) (sym c.in-Ok.ensures)) c.act.follows.holds-at-none)
