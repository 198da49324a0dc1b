-- What contracts see of a book.
use Rattle.std.specs.Prelude.{ℕ, List}
use Rattle.beldi_book.specs.declared.entry.Entry.{Entry}

-- its entries, and how many more it has room for
pub record Entries : Type 0 where
  pub entries : List Entry
  pub spare : ℕ
