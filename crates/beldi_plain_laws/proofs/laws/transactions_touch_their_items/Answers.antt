use Rattle.beldi_plain_laws.proofs.Touched.{transactions_touch_their_items}
use Rattle.beldi_plain_laws.proofs.laws.transactions_touch_their_items.Goals as goal

pub returns : goal.returns
returns c = transactions_touch_their_items
