use Rattle.beldi_links.proofs.Grows.{item_grows}
use Rattle.beldi_links.proofs.laws.items_grow_where_one_does.Goals as goal

pub returns : goal.returns
returns c = item_grows
