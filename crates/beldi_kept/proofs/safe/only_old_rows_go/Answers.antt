use Rattle.beldi_kept.proofs.Collecting.{only_old}
use Rattle.beldi_kept.proofs.safe.only_old_rows_go.Goals as goal

pub returns : goal.returns
returns c = only_old
