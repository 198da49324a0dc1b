use Rattle.beldi_splice.proofs.Pruned.{drops_keep}
use Rattle.beldi_splice.proofs.laws.drops_keep_rows_so.Goals as goal

pub returns : goal.returns
returns c = drops_keep
