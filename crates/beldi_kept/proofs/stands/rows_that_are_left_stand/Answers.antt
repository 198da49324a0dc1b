use Rattle.beldi_kept.proofs.LeftRows.{kept_stand}
use Rattle.beldi_kept.proofs.stands.rows_that_are_left_stand.Goals as goal

pub returns : goal.returns
returns c = kept_stand
