use Rattle.beldi_plain_laws.proofs.Foreign.{entries_touch}
use Rattle.beldi_plain_laws.proofs.laws.entries_touch_what_they_change.Goals as goal

pub returns : goal.returns
returns c = entries_touch
