use Rattle.beldi_links.proofs.Meets.{spare_is_made}
use Rattle.beldi_links.proofs.laws.spare_is_made.Goals as goal

pub returns : goal.returns
returns c = spare_is_made
