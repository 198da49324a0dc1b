use Rattle.beldi_splice.proofs.Alike.{unfollowed_alike}
use Rattle.beldi_splice.proofs.laws.rows_that_none_follows_are_alike.Goals as goal

pub returns : goal.returns
returns c = unfollowed_alike
