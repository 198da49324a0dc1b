use Rattle.beldi_splice.proofs.Pruned.{dangles_keep}
use Rattle.beldi_splice.proofs.laws.dangles_keep_rows_so.Goals as goal

pub returns : goal.returns
returns c = dangles_keep
