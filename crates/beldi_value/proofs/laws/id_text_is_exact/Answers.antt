use Rattle.beldi_value.proofs.IdTexts.{reads, alone}
use Rattle.beldi_value.proofs.laws.id_text_is_exact.Goals as goal

pub returns : goal.returns
returns c = record { reads = reads; alone = alone }
