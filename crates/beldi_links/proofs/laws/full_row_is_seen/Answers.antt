use Rattle.beldi_links.proofs.Meets.{full_is_seen}
use Rattle.beldi_links.proofs.laws.full_row_is_seen.Goals as goal

pub returns : goal.returns
returns c = full_is_seen
