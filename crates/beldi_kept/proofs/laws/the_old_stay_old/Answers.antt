use Rattle.beldi_kept.proofs.Begins.{old_stays}
use Rattle.beldi_kept.proofs.laws.the_old_stay_old.Goals as goal

pub returns : goal.returns
returns c = old_stays
