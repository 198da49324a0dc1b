use Rattle.beldi_links.proofs.Ways.{meetings_stay}
use Rattle.beldi_links.proofs.laws.meetings_stay.Goals as goal

pub returns : goal.returns
returns c = meetings_stay
