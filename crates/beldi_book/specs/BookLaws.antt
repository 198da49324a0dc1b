-- What holds of a book's text.
use Rattle.std.specs.Prelude.{◌≡◌, ℕ, ◌<◌, ◌^◌, Bool, true, false, IsTrue, List, [], ◌∷◌, Some, None, Result, Ok, Err}
use Rattle.std.specs.{Char.is_ascii_digit, List.AllByRecursion}
use Rattle.beldi_value.specs.{ByteCut.after, Formed.IsFormed, Limits.is_within, Value.datum_of}
use Rattle.beldi_tree.specs.{declared.deployment.Deployment.Deployment, declared.deployment.Func.Func, Names.func_at}
use Rattle.beldi_book.specs.{declared.entry.Entry.Entry, declared.entry.Entry.TheVariants.Start, declared.entry.Entry.TheVariants.Read, declared.entry.Entry.TheVariants.Step, declared.entry.Entry.TheVariants.CommittedTx, declared.entry.Entry.TheVariants.AbortedTx, declared.book.BookErr.BookErr, declared.book.BookErr.TheVariants.OutOfMemory, declared.book.BookErr.TheVariants.BadEntry, Book.Entries, BookText.book_text, EntryLine.IsProper, EntryLine.IsTextOf, EntryLine.HasBadLine, EntryLine.ReadsBook}

-- a digit is first, or nothing
abbrev pub digit_first : List ℕ → Bool
digit_first [] = true
digit_first (b ∷ bs) = is_ascii_digit b

-- a byte at least, no digit first, and neither a space nor a line feed among them
pub record IsWord (w : List ℕ) : Type 0 where
  pub first : digit_first w ≡ false
  pub one : after 32 w ≡ None
  pub flat : after 10 w ≡ None

-- the names of the functions are words, and differ
pub record AreNamed (code : Deployment) : Type 0 where
  pub words : (n : ℕ) (f : Func) → func_at code n ≡ Some f → IsWord f.name
  pub differ : (m n : ℕ) (f g : Func) → func_at code m ≡ Some f → func_at code n ≡ Some g → f.name ≡ g.name → m ≡ n

-- what an entry says is what its types can hold, within the limits
abbrev pub IsWithin : Entry → Type 0
IsWithin (Start t f a) = (t < 2 ^ 32) × (f < 2 ^ 16) × IsFormed (datum_of a) × IsTrue (is_within (datum_of a))
IsWithin (Read id version) = IsProper (Read id version)
IsWithin (Step id) = IsProper (Step id)
IsWithin (CommittedTx id) = IsProper (CommittedTx id)
IsWithin (AbortedTx id p h) = IsProper (AbortedTx id p h)

-- these entries were read, if there was memory
abbrev pub IsReadAs : List Entry → Result Entries BookErr → Type 0
IsReadAs es (Ok b) = b.entries ≡ es
IsReadAs es (Err OutOfMemory) = Unit {0}
IsReadAs es (Err (BadEntry line)) = ⊥

-- a book that was written is read as it was. A function may be one that the deployment lacks.
abbrev pub BookIsReadAgain : Type 0
BookIsReadAgain = (code : Deployment) (es : List Entry) (r : Result Entries BookErr) → AreNamed code → AllByRecursion IsWithin es → ReadsBook code (book_text code es) r → IsReadAs es r

-- a text that is that of no entries is refused
abbrev pub IsRefused : Result Entries BookErr → Type 0
IsRefused (Ok b) = ⊥
IsRefused (Err e) = Unit {0}

abbrev pub NothingElseIsRead : Type 0
NothingElseIsRead = (code : Deployment) (text : List ℕ) (r : Result Entries BookErr) → ReadsBook code text r → ((es : List Entry) → IsTextOf code text es → ⊥) → IsRefused r

-- a text has one bad line, and then it is the text of no entries
pub record BadLineIsFirst : Type 0 where
  pub one : (code : Deployment) (text : List ℕ) (m n : ℕ) → HasBadLine code text m → HasBadLine code text n → m ≡ n
  pub bad : (code : Deployment) (text : List ℕ) (n : ℕ) (es : List Entry) → HasBadLine code text n → IsTextOf code text es → ⊥
