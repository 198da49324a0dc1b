use Rattle.beldi_query.proofs.Lent.{stands}
use Rattle.beldi_query.proofs.laws.what_is_lent_stands.Goals as goal

pub returns : goal.returns
returns c = stands
