use Rattle.beldi_lock.proofs.Names.{After, Err, Ok, refl, went}
use Rattle.beldi_lock.proofs.lockset.next_after.Goals as goal

pub returns-in-Ok-lockset_told : goal.returns-in-Ok-lockset_told
returns-in-Ok-lockset_told g c = (_, (refl, c.in-Ok-lockset_told.ensures.ok), went (After c.args.after.now) c.args.after.now 0 (g.T.Table.state c.args.table.now) (g.T.Table.state c.next.follows.lender-at-none) c.next.result (Ok c.in-Ok.found) c.in-Ok.is refl c.next.follows.holds-at-none)

pub returns-in-Err-lockset_told : goal.returns-in-Err-lockset_told
returns-in-Err-lockset_told g c = (_, (refl, refl, c.in-Err-lockset_told.ensures.err), went (After c.args.after.now) c.args.after.now 0 (g.T.Table.state c.args.table.now) (g.T.Table.state c.next.follows.lender-at-none) c.next.result (Ok c.in-Ok.found) c.in-Ok.is refl c.next.follows.holds-at-none)

pub returns-in-Err : goal.returns-in-Err
returns-in-Err g c = (Err c.in-Err.why, (refl, refl), went (After c.args.after.now) c.args.after.now 0 (g.T.Table.state c.args.table.now) (g.T.Table.state c.next.follows.lender-at-none) c.next.result (Err c.in-Err.why) c.in-Err.is refl c.next.follows.holds-at-none)
