use Rattle.beldi_kept.proofs.LeftRows.{stands_later}
use Rattle.beldi_kept.proofs.stands.rows_stand_by_later_moments.Goals as goal

pub returns : goal.returns
returns c = stands_later
