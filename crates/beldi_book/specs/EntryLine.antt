-- Which line is the text of which entry, and which text that of which entries.
use Rattle.std.specs.Prelude.{◌≡◌, ℕ, suc, ◌<◌, ◌≤◌, ◌-◌, ◌^◌, min, IsTrue, List, ◌∷◌, ◌++◌, length, Option, Some, None, Result, Ok, Err, codes, decimal}
use Rattle.std.specs.List.{AllByRecursion}
use Rattle.beldi_value.specs.{ByteCut.before, ByteCut.after, Datum.Datum, Json.text_of, Limits.is_within, ValueReading.read_of, Value.datum_of, declared.id.IntentId.IntentId, declared.value.Value.Value}
use Rattle.beldi_tree.specs.{declared.deployment.Deployment.Deployment, declared.deployment.Func.Func, Names.func_at, Names.func_text}
use Rattle.beldi_book.specs.{declared.entry.Entry.Entry, declared.entry.Entry.TheVariants.Start, declared.entry.Entry.TheVariants.Read, declared.entry.Entry.TheVariants.Step, declared.entry.Entry.TheVariants.CommittedTx, declared.entry.Entry.TheVariants.AbortedTx, declared.book.BookErr.BookErr, declared.book.BookErr.TheVariants.OutOfMemory, declared.book.BookErr.TheVariants.BadEntry, Book.Entries, BookText.entry_text, BookText.book_text}

-- an id's ticket is not 0, it and the steps have 32 bits, and there are 63 hops at most
pub record IsId (id : IntentId) : Type 0 where
  pub some : 0 < id.ticket
  pub small : id.ticket < 2 ^ 32
  pub steps : AllByRecursion (λ h. h < 2 ^ 32) id.hops
  pub few : length id.hops ≤ 63

-- a value is within the limits, and its canonical text is read as it
pub record IsValue (d : Datum) : Type 0 where
  pub within : IsTrue (is_within d)
  pub again : read_of (text_of d) ≡ Ok d

abbrev pub IsHolder : Option IntentId → Type 0
IsHolder None = Unit {0}
IsHolder (Some id) = IsId id

-- what an entry says is within the limits of its parts
abbrev pub IsProper : Entry → Type 0
IsProper (Start t f a) = (t < 2 ^ 32) × (f < 2 ^ 16) × IsValue (datum_of a)
IsProper (Read id version) = IsId id × (version < 2 ^ 64)
IsProper (Step id) = IsId id
IsProper (CommittedTx id) = IsId id
IsProper (AbortedTx id p h) = IsId id × IsId p.intent × (p.step < 2 ^ 32) × IsHolder h

-- the line is the text of the entry
pub record IsLineOf (code : Deployment) (line : List ℕ) (e : Entry) : Type 0 where
  pub text : line ≡ entry_text code e
  pub proper : IsProper e

-- what was read is the entry of the line; where nothing was, the line is that of no entry
abbrev pub IsEntryOf : Deployment → List ℕ → Option Entry → Type 0
IsEntryOf code line None = (e : Entry) → IsLineOf code line e → ⊥
IsEntryOf code line (Some e) = IsLineOf code line e

-- ---- the parts of a start
-- the value whose canonical text this is
abbrev pub IsArgs : List ℕ → Option Value → Type 0
IsArgs json None = (a : Value) → json ≡ text_of (datum_of a) → IsValue (datum_of a) → ⊥
IsArgs json (Some a) = (json ≡ text_of (datum_of a)) × IsValue (datum_of a)

-- what follows a name and a space
abbrev pub Names : List ℕ → List ℕ → Option (List ℕ) → Type 0
Names name words None = (rest : List ℕ) → words ≡ name ++ 32 ∷ rest → ⊥
Names name words (Some rest) = words ≡ name ++ 32 ∷ rest

-- the words are a name and arguments
pub record IsCalled (words name : List ℕ) (a : Value) : Type 0 where
  pub text : words ≡ name ++ 32 ∷ text_of (datum_of a)
  pub value : IsValue (datum_of a)

abbrev pub Follows : List ℕ → List ℕ → Option Value → Type 0
Follows name words None = (a : Value) → IsCalled words name a → ⊥
Follows name words (Some a) = IsCalled words name a

-- a function's text and arguments
abbrev pub IsCallOf : Deployment → List ℕ → ℕ × Value → Type 0
IsCallOf code words c = (c.0 < 2 ^ 16) × IsCalled words (func_text code c.0) c.1

-- a call of a function that the deployment has, by its name
abbrev pub IsNamed : Deployment → List ℕ → Option (ℕ × Value) → Type 0
IsNamed code words None = (n : ℕ) (g : Func) (a : Value) → n < 2 ^ 16 → func_at code n ≡ Some g → IsCalled words g.name a → ⊥
IsNamed code words (Some c) = IsCallOf code words c

-- a call of one that it lacks, by its number
abbrev pub IsNumbered : Deployment → List ℕ → Option (ℕ × Value) → Type 0
IsNumbered code words None = (n : ℕ) (a : Value) → n < 2 ^ 16 → func_at code n ≡ None → IsCalled words (decimal n) a → ⊥
IsNumbered code words (Some c) = IsCallOf code words c

abbrev pub IsCall : Deployment → List ℕ → Option (ℕ × Value) → Type 0
IsCall code words None = (c : ℕ × Value) → IsCallOf code words c → ⊥
IsCall code words (Some c) = IsCallOf code words c

-- what follows the word `start`
abbrev pub IsStart : Deployment → List ℕ → Option Entry → Type 0
IsStart code words None = (t f : ℕ) (a : Value) → IsLineOf code (codes "start " ++ words) (Start t f a) → ⊥
IsStart code words (Some e) = IsLineOf code (codes "start " ++ words) e

-- ---- texts
-- the text has a line for each entry, with a line feed at its end and no other
pub record IsTextOf (code : Deployment) (text : List ℕ) (es : List Entry) : Type 0 where
  pub all : text ≡ book_text code es
  pub lines : AllByRecursion (λ e. IsProper e × (after 10 (entry_text code e) ≡ None)) es

-- the text has lines of entries, and then more that begins with no line of an entry; the bad line is the one after them,
-- from 1. A last line without its line feed is none either. Past 32 bits the number stays.
pub record HasBadLine (code : Deployment) (text : List ℕ) (line : ℕ) : Type 0 where
  pub done : List Entry
  pub front : List ℕ
  pub rest : List ℕ
  pub all : text ≡ front ++ rest
  pub good : IsTextOf code front done
  pub number : line ≡ min (suc (length done)) (2 ^ 32 - 1)
  pub some : 0 < length rest
  pub bad : (e : Entry) (more : List ℕ) → after 10 rest ≡ Some more → IsLineOf code (before 10 rest) e → ⊥

-- a text is read as the entries whose text it is, or refused at its first bad line
abbrev pub ReadsBook : Deployment → List ℕ → Result Entries BookErr → Type 0
ReadsBook code text (Ok b) = IsTextOf code text b.entries
ReadsBook code text (Err OutOfMemory) = Unit {0}
ReadsBook code text (Err (BadEntry line)) = HasBadLine code text line
