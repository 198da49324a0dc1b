use Rattle.beldi_book.proofs.Again.{no_other}
use Rattle.beldi_book.proofs.laws.nothing_else_is_read.Goals as goal

pub returns : goal.returns
returns c = no_other
