use Rattle.beldi_lock.proofs.Locked.{locks_are_by_the_row}
use Rattle.beldi_lock.proofs.laws.a_lock_is_by_the_row.Goals as goal

pub returns : goal.returns
returns c = locks_are_by_the_row
