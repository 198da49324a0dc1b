use Rattle.beldi_kept.proofs.LeftRows.{kept_listing}
use Rattle.beldi_kept.proofs.stands.rows_that_are_left_list_the_run.Goals as goal

pub returns : goal.returns
returns c = kept_listing
