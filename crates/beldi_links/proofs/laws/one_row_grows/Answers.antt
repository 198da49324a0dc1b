use Rattle.beldi_links.proofs.Grows.{one_grows}
use Rattle.beldi_links.proofs.laws.one_row_grows.Goals as goal

pub returns : goal.returns
returns c = one_grows
