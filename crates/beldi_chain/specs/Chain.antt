-- The rows of an item, by their numbers: a chain that begins at row 0 and goes on from each row to its next.
use Rattle.std.specs.Prelude.{◌≡◌, ℕ, zero, suc, nat_lt, ◌^◌, refl, Bool, false, List, [], ◌++◌, Option, Some, None, if◌then◌else◌}
use Rattle.std.specs.Ordering.{is_eq}
use Rattle.std.specs.FinMap as map
use Rattle.beldi_value.specs.declared.place.Place.{Place}
use Rattle.beldi_row.specs.{Key.RowKey, Key.at_row, Key.key_cmp, Key.row_of, declared.notes.Note.Note, declared.row.Row.Row, Table.Rows}
use Rattle.beldi_chain.specs.Content.{Content, held_in, log_of}

-- ---- keys
-- whether a key is that of a row of the item with this first row
abbrev pub is_row_of : RowKey → RowKey → Bool
is_row_of head l = is_eq (key_cmp (at_row l 0) head)

-- the key of a first row
pub record IsHead (k : RowKey) : Type 0 where
  pub first : at_row k 0 ≡ k
  pub numbered : (n : ℕ) → row_of (at_row k n).kind ≡ n

-- ---- what a chain holds
abbrev pub Chain : Type 0
Chain = ℕ → Option Row

-- the chain with this first row
abbrev pub chain : Rows → RowKey → Chain
chain m head = λ n. map.get m (at_row head n)

-- the row after a row: its next, where the number of that is greater
abbrev pub next_of : Option Row → Option ℕ
next_of (Some (Row.Cell c)) = c.next
next_of r = None

abbrev pub above : ℕ → Option ℕ → Option ℕ
above n None = None
above n (Some k) = if nat_lt n k then Some k else None

abbrev pub on_next : {X : Type 0} → Option ℕ → X → (ℕ → X) → X
on_next None x go = x
on_next (Some k) x go = go k

-- the last row that the row of a number leads to, in at most so many steps
abbrev pub tail_from : ℕ → Chain → ℕ → Option Row
tail_from zero f n = f n
tail_from (suc s) f n = on_next (above n (next_of (f n))) (f n) (tail_from s f)

-- the notes of the rows on the way
abbrev pub notes_from : ℕ → Chain → ℕ → List (Place × Note)
notes_from zero f n = log_of (f n)
notes_from (suc s) f n = log_of (f n) ++ on_next (above n (next_of (f n))) [] (notes_from s f)

-- numbers of rows are below this, and rise: no chain has more steps
pub most_rows : ℕ
most_rows = 2 ^ 32

pub most_rows_are : most_rows ≡ 2 ^ 32
unfolding most_rows
most_rows_are = refl

-- the last row of a chain; none without a first row, or where a next leads to no row
abbrev pub tail : Chain → Option Row
tail f = tail_from most_rows f 0

-- what it holds: value and owner of the last row, and the notes of all
abbrev pub content : Chain → Content
content f = held_in (tail f) (notes_from most_rows f 0)

-- ---- rows before and after
-- all rows are as before but those of the item with this first row
abbrev pub ChangedAlone : RowKey → Rows → Rows → Type 0
ChangedAlone head m n = (l : RowKey) → is_row_of head l ≡ false → map.get n l ≡ map.get m l
