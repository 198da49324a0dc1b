use Rattle.beldi_links.proofs.Grows.{others_keep}
use Rattle.beldi_links.proofs.laws.others_keep_what_is_seen.Goals as goal

pub returns : goal.returns
returns c = others_keep
