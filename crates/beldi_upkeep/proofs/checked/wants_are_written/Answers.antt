use Rattle.beldi_upkeep.proofs.Sites.{wants_written}
use Rattle.beldi_upkeep.proofs.checked.wants_are_written.Goals as goal

pub returns : goal.returns
returns c = wants_written
