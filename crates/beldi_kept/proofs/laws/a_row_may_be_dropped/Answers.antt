use Rattle.beldi_kept.proofs.Drops.{row_drops_keep}
use Rattle.beldi_kept.proofs.laws.a_row_may_be_dropped.Goals as goal

pub returns : goal.returns
returns c = row_drops_keep
