use Rattle.beldi_splice.proofs.Pruned.{marks_keep}
use Rattle.beldi_splice.proofs.laws.marks_keep_rows_so.Goals as goal

pub returns : goal.returns
returns c = marks_keep
