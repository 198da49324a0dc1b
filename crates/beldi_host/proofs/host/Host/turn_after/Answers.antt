use Rattle.beldi_host.proofs.Names.{After, Err, Ok, Turn, query_asked, refl, went, ◌∙◌}
use Rattle.beldi_host.proofs.Names.{core_in}
use Rattle.beldi_host.proofs.host.Host.turn_after.Goals as goal

pub returns-in-Ok-clause-asked : goal.returns-in-Ok-clause-asked
returns-in-Ok-clause-asked g c = query_asked _ _ (Turn c.args.run) _ _ _ _ _ _ _ c.code.ensures.same c.turned.ensures.follows (went (After c.args.key.now) c.args.key.now c.args.self.now.core.now (g.T.Table.state c.args.self.now.table) (g.T.Table.state c.next.follows.lender-at-none) c.next.result (Ok c.in-Ok.found) c.in-Ok.is refl c.next.follows.holds-at-none)

pub returns-in-Err-clause-asked : goal.returns-in-Err-clause-asked
returns-in-Err-clause-asked g c = (Err c.in-Err.why, (λ j. (core_in c.turn_refused-answer.new.self, c.told_in.ensures.answer j)) ∙ c.turn_refused-answer.ensures, went (After c.args.key.now) c.args.key.now c.args.self.now.core.now (g.T.Table.state c.args.self.now.table) (g.T.Table.state c.next.follows.lender-at-none) c.next.result (Err c.in-Err.why) c.in-Err.is refl c.next.follows.holds-at-none)
