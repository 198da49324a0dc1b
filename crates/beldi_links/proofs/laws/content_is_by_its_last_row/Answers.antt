use Rattle.beldi_links.proofs.Ways.{content_is}
use Rattle.beldi_links.proofs.laws.content_is_by_its_last_row.Goals as goal

pub returns : goal.returns
returns c = content_is
