use Rattle.beldi_kept.proofs.Removals.{removals_keep}
use Rattle.beldi_kept.proofs.laws.rows_of_the_old_may_go.Goals as goal

pub returns : goal.returns
returns c = removals_keep
