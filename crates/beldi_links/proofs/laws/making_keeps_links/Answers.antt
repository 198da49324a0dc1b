use Rattle.beldi_links.proofs.LinkKeeps.{making_keeps}
use Rattle.beldi_links.proofs.laws.making_keeps_links.Goals as goal

pub returns : goal.returns
returns c = making_keeps
