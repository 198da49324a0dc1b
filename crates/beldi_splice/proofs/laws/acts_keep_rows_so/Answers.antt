use Rattle.beldi_splice.proofs.Both.{acts_keep_rows_so}
use Rattle.beldi_splice.proofs.laws.acts_keep_rows_so.Goals as goal

pub returns : goal.returns
returns c = acts_keep_rows_so
