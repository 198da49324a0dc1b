use Rattle.beldi_links.proofs.Grows.{readers_keep}
use Rattle.beldi_links.proofs.laws.readers_keep_what_is_seen.Goals as goal

pub returns : goal.returns
returns c = readers_keep
