use Rattle.beldi_splice.proofs.Onward.{ways_end}
use Rattle.beldi_splice.proofs.laws.ways_end_past_a_row.Goals as goal

pub returns : goal.returns
returns c = ways_end
