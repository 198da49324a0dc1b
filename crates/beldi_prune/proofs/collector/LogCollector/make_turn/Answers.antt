use Rattle.std.proofs.Common.{refl, sym, ◌∙◌, Ok, Err}
use Rattle.beldi_row.specs.declared.table.TableErr.TheVariants.{OutOfMemory}
use Rattle.beldi_query.proofs.Queries.{acted, went, unasked}
use Rattle.beldi_prune.specs.Prune.{prune_asks}
use Rattle.beldi_prune.proofs.collector.LogCollector.make_turn.Goals as goal

pub returns-in-Err : goal.returns-in-Err
returns-in-Err g c = (Err OutOfMemory, (refl, refl), unasked (prune_asks c.args.life c.args.self.now) c.args.now (g.T.Table.state c.args.table.now))

pub returns-in-Ok-resume : goal.returns-in-Ok-resume
returns-in-Ok-resume g c = (_, c.in-Ok-resume.ensures.ok, acted (prune_asks c.args.life c.args.self.now) c.in-Act.key c.in-Act.act c.args.now (g.T.Table.state c.args.table.now) (g.T.Table.state c.act.follows.lender-at-none) c.act.result (Ok c.in-Ok-act.said) c.in-Ok-act.is (sym c.in-Ok.ensures ∙ sym c.into_inner.ensures ∙ c.in-Act.is) c.act.follows.holds-at-none)

pub returns-in-Err-resume : goal.returns-in-Err-resume
returns-in-Err-resume g c = (_, (c.in-Err-resume.ensures.err.0, refl, c.in-Err-resume.ensures.err.1), acted (prune_asks c.args.life c.args.self.now) c.in-Act.key c.in-Act.act c.args.now (g.T.Table.state c.args.table.now) (g.T.Table.state c.act.follows.lender-at-none) c.act.result (Ok c.in-Ok-act.said) c.in-Ok-act.is (sym c.in-Ok.ensures ∙ sym c.into_inner.ensures ∙ c.in-Act.is) c.act.follows.holds-at-none)

pub returns-in-Err-act : goal.returns-in-Err-act
returns-in-Err-act g c = (Err c.in-Err-act.why, (refl, refl), acted (prune_asks c.args.life c.args.self.now) c.in-Act.key c.in-Act.act c.args.now (g.T.Table.state c.args.table.now) (g.T.Table.state c.act.follows.lender-at-none) c.act.result (Err c.in-Err-act.why) c.in-Err-act.is (sym c.in-Ok.ensures ∙ sym c.into_inner.ensures ∙ c.in-Act.is) c.act.follows.holds-at-none)

pub returns-in-Ok-resume-2 : goal.returns-in-Ok-resume-2
returns-in-Ok-resume-2 g c = (_, c.in-Ok-resume-2.ensures.ok, went (prune_asks c.args.life c.args.self.now) c.in-After.key c.args.now (g.T.Table.state c.args.table.now) (g.T.Table.state c.next-next.follows.lender-at-none) c.next-next.result (Ok c.in-Ok-next.found) c.in-Ok-next.is (sym c.in-Ok.ensures ∙ sym c.into_inner.ensures ∙ c.in-After.is) c.next-next.follows.holds-at-none)

pub returns-in-Err-resume-2 : goal.returns-in-Err-resume-2
returns-in-Err-resume-2 g c = (_, (c.in-Err-resume-2.ensures.err.0, refl, c.in-Err-resume-2.ensures.err.1), went (prune_asks c.args.life c.args.self.now) c.in-After.key c.args.now (g.T.Table.state c.args.table.now) (g.T.Table.state c.next-next.follows.lender-at-none) c.next-next.result (Ok c.in-Ok-next.found) c.in-Ok-next.is (sym c.in-Ok.ensures ∙ sym c.into_inner.ensures ∙ c.in-After.is) c.next-next.follows.holds-at-none)

pub returns-in-Err-next : goal.returns-in-Err-next
returns-in-Err-next g c = (Err c.in-Err-next.why, (refl, refl), went (prune_asks c.args.life c.args.self.now) c.in-After.key c.args.now (g.T.Table.state c.args.table.now) (g.T.Table.state c.next-next.follows.lender-at-none) c.next-next.result (Err c.in-Err-next.why) c.in-Err-next.is (sym c.in-Ok.ensures ∙ sym c.into_inner.ensures ∙ c.in-After.is) c.next-next.follows.holds-at-none)
