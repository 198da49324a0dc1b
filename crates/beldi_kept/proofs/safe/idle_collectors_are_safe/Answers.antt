use Rattle.beldi_kept.proofs.Collecting.{safe_at_first}
use Rattle.beldi_kept.proofs.safe.idle_collectors_are_safe.Goals as goal

pub returns : goal.returns
returns c = safe_at_first
