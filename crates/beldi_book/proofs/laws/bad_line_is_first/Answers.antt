use Rattle.beldi_book.proofs.Again.{bad_line_one, bad_line_none}
use Rattle.beldi_book.proofs.laws.bad_line_is_first.Goals as goal

pub returns : goal.returns
returns c = record { one = bad_line_one; bad = bad_line_none }
