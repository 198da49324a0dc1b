use Rattle.beldi_book.proofs.{Names.length, Books.SoFar}
use Rattle.beldi_book.proofs.book.Book.read.Given as goal

-- a front of the text has been read, and this is left
abbrev pub invariant-loop-rest : goal.invariant-loop-rest
invariant-loop-rest l = SoFar l.code l.text l.rest l.book.entries

abbrev pub decreases-loop-rest : goal.decreases-loop-rest
decreases-loop-rest l = length l.rest
