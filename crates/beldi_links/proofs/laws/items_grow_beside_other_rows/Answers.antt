use Rattle.beldi_links.proofs.Grows.{others_grow}
use Rattle.beldi_links.proofs.laws.items_grow_beside_other_rows.Goals as goal

pub returns : goal.returns
returns c = others_grow
