use Rattle.beldi_links.proofs.Meets.{linked_is_seen}
use Rattle.beldi_links.proofs.laws.linked_row_is_seen.Goals as goal

pub returns : goal.returns
returns c = linked_is_seen
