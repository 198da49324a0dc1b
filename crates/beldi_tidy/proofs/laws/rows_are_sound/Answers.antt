use Rattle.beldi_tidy.proofs.Sound.{rows_are_sound}
use Rattle.beldi_tidy.proofs.laws.rows_are_sound.Goals as goal

pub returns : goal.returns
returns c = rows_are_sound
