use Rattle.beldi_value.proofs.Ints.{reads, alone}
use Rattle.beldi_value.proofs.laws.int_text_is_exact.Goals as goal

pub returns : goal.returns
returns c = record { reads = reads; alone = alone }
