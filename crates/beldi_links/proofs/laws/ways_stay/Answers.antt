use Rattle.beldi_links.proofs.Ways.{kept}
use Rattle.beldi_links.proofs.laws.ways_stay.Goals as goal

pub returns : goal.returns
returns c = kept
