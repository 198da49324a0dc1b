use Rattle.beldi_links.proofs.Meets.{walks_end}
use Rattle.beldi_links.proofs.laws.walks_end.Goals as goal

pub returns : goal.returns
returns c = walks_end
