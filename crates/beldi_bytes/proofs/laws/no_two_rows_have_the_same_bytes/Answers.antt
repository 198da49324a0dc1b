use Rattle.beldi_bytes.proofs.RowExact.{rows_are_one}
use Rattle.beldi_bytes.proofs.laws.no_two_rows_have_the_same_bytes.Goals as goal

pub returns : goal.returns
returns c = rows_are_one
