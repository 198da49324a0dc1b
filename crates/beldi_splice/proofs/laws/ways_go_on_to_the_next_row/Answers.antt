use Rattle.beldi_splice.proofs.Onward.{ways_go_on}
use Rattle.beldi_splice.proofs.laws.ways_go_on_to_the_next_row.Goals as goal

pub returns : goal.returns
returns c = ways_go_on
