use Rattle.beldi_links.proofs.Meets.{next_is_seen}
use Rattle.beldi_links.proofs.laws.next_is_seen.Goals as goal

pub returns : goal.returns
returns c = next_is_seen
