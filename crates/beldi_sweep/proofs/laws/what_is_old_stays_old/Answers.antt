use Rattle.beldi_sweep.proofs.Old.{old_later, old_stays}
use Rattle.beldi_sweep.proofs.laws.what_is_old_stays_old.Goals as goal

pub returns : goal.returns
returns c = (old_stays, old_later)
