use Rattle.beldi_book.proofs.Again.{read_as}
use Rattle.beldi_book.proofs.laws.book_is_read_again.Goals as goal

pub returns : goal.returns
returns c = read_as
