use Rattle.beldi_region.proofs.Alike.{acts_alike}
use Rattle.beldi_region.proofs.laws.acts_are_alike.Goals as goal

pub returns : goal.returns
returns c = acts_alike
