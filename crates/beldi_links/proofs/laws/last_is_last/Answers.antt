use Rattle.beldi_links.proofs.Meets.{last_is_last}
use Rattle.beldi_links.proofs.laws.last_is_last.Goals as goal

pub returns : goal.returns
returns c = last_is_last
