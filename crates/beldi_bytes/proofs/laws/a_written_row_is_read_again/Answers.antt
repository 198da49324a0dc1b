use Rattle.beldi_bytes.proofs.Again.{row_again}
use Rattle.beldi_bytes.proofs.laws.a_written_row_is_read_again.Goals as goal

pub returns : goal.returns
returns c = row_again
