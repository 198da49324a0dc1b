use Rattle.beldi_links.proofs.Meets.{meetings_go_on}
use Rattle.beldi_links.proofs.laws.meetings_go_on.Goals as goal

pub returns : goal.returns
returns c = meetings_go_on
