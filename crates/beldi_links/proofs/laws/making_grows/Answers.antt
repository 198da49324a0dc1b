use Rattle.beldi_links.proofs.Grows.{making_grows}
use Rattle.beldi_links.proofs.laws.making_grows.Goals as goal

pub returns : goal.returns
returns c = making_grows
