use Rattle.beldi_lock.proofs.Locked.{locks_stand}
use Rattle.beldi_lock.proofs.laws.what_came_stands.Goals as goal

pub returns : goal.returns
returns c = locks_stand
