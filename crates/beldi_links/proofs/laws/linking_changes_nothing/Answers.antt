use Rattle.beldi_links.proofs.LinkKeeps.{linked}
use Rattle.beldi_links.proofs.laws.linking_changes_nothing.Goals as goal

pub returns : goal.returns
returns c = linked
