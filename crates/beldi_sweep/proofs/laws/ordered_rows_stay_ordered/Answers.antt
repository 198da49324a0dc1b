use Rattle.beldi_sweep.proofs.Ordered.{ordered_stay, sound_ordered}
use Rattle.beldi_sweep.proofs.laws.ordered_rows_stay_ordered.Goals as goal

pub returns : goal.returns
returns c = (sound_ordered, ordered_stay)
