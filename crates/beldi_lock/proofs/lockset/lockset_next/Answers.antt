use Rattle.beldi_lock.proofs.Names.{Err, OutOfMemory, item_lent, lockset_asks, refl, unasked}
use Rattle.beldi_lock.proofs.lockset.lockset_next.Goals as goal

pub returns-in-Err : goal.returns-in-Err
returns-in-Err g c = (Err OutOfMemory, (refl, refl), unasked (lockset_asks c.args.home c.args.id.now c.args.begin (item_lent c.args.after)) 0 (g.T.Table.state c.args.table.now))
