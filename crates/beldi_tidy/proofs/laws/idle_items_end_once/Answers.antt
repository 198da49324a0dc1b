use Rattle.beldi_tidy.proofs.Ending.{idle_end_once}
use Rattle.beldi_tidy.proofs.laws.idle_items_end_once.Goals as goal

pub returns : goal.returns
returns c = idle_end_once
