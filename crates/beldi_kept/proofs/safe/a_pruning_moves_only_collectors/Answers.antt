use Rattle.beldi_kept.proofs.Collecting.{prunings_move}
use Rattle.beldi_kept.proofs.safe.a_pruning_moves_only_collectors.Goals as goal

pub returns : goal.returns
returns c = prunings_move
