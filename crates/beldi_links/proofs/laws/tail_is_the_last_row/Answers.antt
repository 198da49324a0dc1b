use Rattle.beldi_links.proofs.Ways.{tail_is}
use Rattle.beldi_links.proofs.laws.tail_is_the_last_row.Goals as goal

pub returns : goal.returns
returns c = tail_is
