use Rattle.beldi_book.proofs.Names.{book_text, drop, ◌++◌, ◌≡◌}
use Rattle.beldi_book.proofs.book.Book.write.Given as goal

abbrev pub invariant-loop-entry : goal.invariant-loop-entry
invariant-loop-entry l = l.text ++ book_text l.code (drop l.entry-index l.entry-items) ≡ book_text l.code l.entry-items
