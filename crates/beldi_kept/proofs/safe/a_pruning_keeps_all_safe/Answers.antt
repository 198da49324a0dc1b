use Rattle.beldi_kept.proofs.Collecting.{prunings_keep_safe}
use Rattle.beldi_kept.proofs.safe.a_pruning_keeps_all_safe.Goals as goal

pub returns : goal.returns
returns c = prunings_keep_safe
