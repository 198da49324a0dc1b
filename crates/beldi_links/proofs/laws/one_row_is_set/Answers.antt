use Rattle.beldi_links.proofs.LinkKeeps.{row_set}
use Rattle.beldi_links.proofs.laws.one_row_is_set.Goals as goal

pub returns : goal.returns
returns c = row_set
