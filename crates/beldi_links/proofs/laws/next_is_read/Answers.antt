use Rattle.beldi_links.proofs.Meets.{next_is_read}
use Rattle.beldi_links.proofs.laws.next_is_read.Goals as goal

pub returns : goal.returns
returns c = next_is_read
