use Rattle.beldi_host.proofs.Names.{After, Err, Ok, event_of, query_asked, refl, went}
use Rattle.beldi_host.proofs.host.Host.look_after.Goals as goal

pub returns-in-Ok-clause-asked : goal.returns-in-Ok-clause-asked
returns-in-Ok-clause-asked g c = query_asked _ _ (event_of c.args.pending) _ _ _ _ _ _ _ c.code.ensures.same c.resume.ensures (went (After c.args.key.now) c.args.key.now c.args.self.now.core.now (g.T.Table.state c.args.self.now.table) (g.T.Table.state c.next.follows.lender-at-none) c.next.result (Ok c.in-Ok.found) c.in-Ok.is refl c.next.follows.holds-at-none)

pub returns-in-Err-clause-asked : goal.returns-in-Err-clause-asked
returns-in-Err-clause-asked g c = (Err c.in-Err.why, c.refused.ensures, went (After c.args.key.now) c.args.key.now c.args.self.now.core.now (g.T.Table.state c.args.self.now.table) (g.T.Table.state c.next.follows.lender-at-none) c.next.result (Err c.in-Err.why) c.in-Err.is refl c.next.follows.holds-at-none)
