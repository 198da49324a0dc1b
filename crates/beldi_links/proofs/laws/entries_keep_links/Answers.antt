use Rattle.beldi_links.proofs.LinkKeeps.{entries_keep}
use Rattle.beldi_links.proofs.laws.entries_keep_links.Goals as goal

pub returns : goal.returns
returns c = entries_keep
