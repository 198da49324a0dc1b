use Rattle.beldi_kept.proofs.Collecting.{prunings_keep_whole}
use Rattle.beldi_kept.proofs.safe.a_pruning_without_a_change_keeps_all_rows.Goals as goal

pub returns : goal.returns
returns c = prunings_keep_whole
