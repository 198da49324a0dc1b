use Rattle.beldi_splice.proofs.Onward.{ways_begin}
use Rattle.beldi_splice.proofs.laws.ways_begin_at_the_first_row.Goals as goal

pub returns : goal.returns
returns c = ways_begin
