use Rattle.beldi_splice.proofs.Alike.{contents_are_alike}
use Rattle.beldi_splice.proofs.laws.contents_are_alike.Goals as goal

pub returns : goal.returns
returns c = contents_are_alike
