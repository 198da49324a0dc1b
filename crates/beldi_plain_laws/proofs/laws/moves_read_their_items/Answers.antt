use Rattle.beldi_plain_laws.proofs.LeadsAlike.{moves_read_their_items}
use Rattle.beldi_plain_laws.proofs.laws.moves_read_their_items.Goals as goal

pub returns : goal.returns
returns c = moves_read_their_items
