use Rattle.beldi_bytes.proofs.Again.{key_again}
use Rattle.beldi_bytes.proofs.laws.a_written_key_is_read_again.Goals as goal

pub returns : goal.returns
returns c = key_again
