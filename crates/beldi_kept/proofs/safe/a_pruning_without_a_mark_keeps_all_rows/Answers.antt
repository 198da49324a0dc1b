use Rattle.beldi_kept.proofs.WholeTurns.{prunings_leave_whole}
use Rattle.beldi_kept.proofs.safe.a_pruning_without_a_mark_keeps_all_rows.Goals as goal

pub returns : goal.returns
returns c = prunings_leave_whole
