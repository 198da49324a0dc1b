use Rattle.beldi_bytes.proofs.Again.{row_late}
use Rattle.beldi_bytes.proofs.laws.a_late_row_is_not_read.Goals as goal

pub returns : goal.returns
returns c = row_late
