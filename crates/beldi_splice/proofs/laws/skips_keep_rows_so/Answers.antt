use Rattle.beldi_splice.proofs.Pruned.{skips_keep}
use Rattle.beldi_splice.proofs.laws.skips_keep_rows_so.Goals as goal

pub returns : goal.returns
returns c = skips_keep
