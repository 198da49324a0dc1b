use Rattle.beldi_links.proofs.LinkKeeps.{made}
use Rattle.beldi_links.proofs.laws.making_changes_nothing.Goals as goal

pub returns : goal.returns
returns c = made
