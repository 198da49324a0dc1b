use Rattle.beldi_links.proofs.LinkKeeps.{last_set}
use Rattle.beldi_links.proofs.laws.last_row_is_what_the_chain_holds.Goals as goal

pub returns : goal.returns
returns c = last_set
