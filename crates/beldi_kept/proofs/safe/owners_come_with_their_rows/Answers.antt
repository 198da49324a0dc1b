use Rattle.beldi_kept.proofs.Owned.{owners_come}
use Rattle.beldi_kept.proofs.safe.owners_come_with_their_rows.Goals as goal

pub returns : goal.returns
returns c = owners_come c.the_closed_are_passed.ensures
