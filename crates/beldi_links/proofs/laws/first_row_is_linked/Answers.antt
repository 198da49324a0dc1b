use Rattle.beldi_links.proofs.LinkKeeps.{first_linked}
use Rattle.beldi_links.proofs.laws.first_row_is_linked.Goals as goal

pub returns : goal.returns
returns c = first_linked
