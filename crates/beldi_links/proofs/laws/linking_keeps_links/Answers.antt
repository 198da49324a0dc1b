use Rattle.beldi_links.proofs.LinkKeeps.{linking_keeps}
use Rattle.beldi_links.proofs.laws.linking_keeps_links.Goals as goal

pub returns : goal.returns
returns c = linking_keeps
