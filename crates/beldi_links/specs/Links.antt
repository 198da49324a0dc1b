-- Rows of an item that are linked, of which each has eight entries at most: what they are, what acts leave of them, and what a walk knows.
use Rattle.std.specs.Prelude.{◌≡◌, ◌⊎◌, ℕ, ◌+◌, ◌<◌, ◌≤◌, ◌==◌, false, List, [], ◌∷◌, ◌++◌, length, Option, Some, None}
use Rattle.beldi_value.specs.declared.{place.Owner.Owner, place.Place.Place, value.Value.Value}
use Rattle.beldi_row.specs.{declared.notes.Note.Note, declared.row.Cell.Cell, declared.row.Row.Row, Key.RowKey, Log.NoneTwice, Log.most_entries, Log.note_at, Table.Rows}
use Rattle.beldi_chain.specs.{Chain.Chain, Chain.IsHead, Chain.chain, Chain.content, Chain.most_rows, Content.Content, Content.log_of}

-- ---- ways
-- from a row by these rows to another one, each the next of the one before, with a greater number
abbrev pub Steps : Chain → ℕ → List ℕ → ℕ → Type 0
Steps f r [] n = r ≡ n
Steps f r (k ∷ ks) n = (c : Cell) × (f r ≡ Some (Row.Cell c)) × (c.next ≡ Some k) × (r < k) × Steps f k ks n

abbrev pub LeadsTo : Chain → ℕ → ℕ → Type 0
LeadsTo f r n = (ks : List ℕ) × Steps f r ks n

-- the notes of the rows before the one that these lead to
abbrev pub before : Chain → ℕ → List ℕ → List (Place × Note)
before f r [] = []
before f r (k ∷ ks) = log_of (f r) ++ before f k ks

-- what a row holds of its own, and what it does behind the notes of others
abbrev pub own : Cell → Content
own c = record { value = c.value; owner = c.owner; notes = c.log }

abbrev pub behind : List (Place × Note) → Content → Content
behind es c = record c { notes = es ++ c.notes }

-- ---- soundness
-- a row has at most as many entries as a cell may have, and one with a next exactly so many
abbrev pub FitsNext : Option ℕ → ℕ → Type 0
FitsNext None n = n ≤ most_entries
FitsNext (Some k) n = n ≡ most_entries

-- .. and it is not to be removed
pub record Fits (c : Cell) : Type 0 where
  pub entries : FitsNext c.next (length c.log)
  pub marked : c.marked ≡ false
  pub dangled : c.dangled ≡ None

-- each row that is there is such a cell
abbrev pub FitsAt : Option Row → Type 0
FitsAt None = Unit {0}
FitsAt (Some (Row.Cell c)) = Fits c
FitsAt (Some r) = ⊥

-- a row that is to follow the last one: empty, with the value and the owner of that, which is full
pub record IsSpare (t s : Cell) : Type 0 where
  pub value : s.value ≡ t.value
  pub owner : s.owner ≡ t.owner
  pub log : s.log ≡ []
  pub next : s.next ≡ None
  pub full : length t.log ≡ most_entries

-- rows with a first one: it leads to the last, each next is the next number, and each other row that is there is on the way, or is to
-- follow the last
pub record Linked (f : Chain) : Type 0 where
  pub last : ℕ
  pub tail : Cell
  pub path : LeadsTo f 0 last
  pub there : f last ≡ Some (Row.Cell tail)
  pub ends : tail.next ≡ None
  pub few : last < most_rows
  pub fits : (n : ℕ) → FitsAt (f n)
  pub once : NoneTwice (content f).notes
  pub spare : (s : Cell) → f (last + 1) ≡ Some (Row.Cell s) → IsSpare tail s
  pub numbers : (n : ℕ) (c : Cell) (k : ℕ) → f n ≡ Some (Row.Cell c) → c.next ≡ Some k → k ≡ n + 1
  pub rest : (n : ℕ) (c : Cell) → f n ≡ Some (Row.Cell c) → (n ≡ last + 1) ⊎ (LeadsTo f 0 n × LeadsTo f n last)

-- without a first row there is none
abbrev pub LinkedFrom : Option Row → Chain → Type 0
LinkedFrom None f = (n : ℕ) → f n ≡ None
LinkedFrom (Some r) f = Linked f

abbrev pub IsLinked : Chain → Type 0
IsLinked f = LinkedFrom (f 0) f

-- ---- rows before and after
-- this row was set, and no other
pub record SetTo (f : Chain) (r : ℕ) (v : Option Row) (g : Chain) : Type 0 where
  pub here : g r ≡ v
  pub others : (n : ℕ) → (n == r) ≡ false → g n ≡ f n

-- a row that has a next stays as it is
abbrev pub Frozen : Chain → Chain → Type 0
Frozen f g = (n : ℕ) (c : Cell) (k : ℕ) → f n ≡ Some (Row.Cell c) → c.next ≡ Some k → g n ≡ Some (Row.Cell c)

-- .. and a full one that has none keeps value, owner and log
abbrev pub GrowsBy : Option ℕ → Cell → Cell → Type 0
GrowsBy (Some k) c d = d ≡ c
GrowsBy None c d = length c.log ≡ most_entries → (d.value ≡ c.value) × (d.owner ≡ c.owner) × (d.log ≡ c.log)

-- no row goes, and none of another kind becomes a cell
abbrev pub RowGrows : Option Row → Option Row → Type 0
RowGrows (Some (Row.Cell c)) (Some (Row.Cell d)) = GrowsBy c.next c d
RowGrows (Some (Row.Cell c)) s = ⊥
RowGrows (Some r) (Some (Row.Cell d)) = ⊥
RowGrows (Some r) None = ⊥
RowGrows r s = Unit {0}

-- what acts leave of all rows; one is made past all that are there
pub record RowsGrow (f g : Chain) : Type 0 where
  pub rows : (n : ℕ) → RowGrows (f n) (g n)
  pub fresh : (n k : ℕ) (d c : Row) → f n ≡ None → g n ≡ Some d → f k ≡ Some c → k < n

-- .. so it is of all items, and of all copies of them
abbrev pub AllGrow : Rows → Rows → Type 0
AllGrow m n = (head : RowKey) → IsHead head → RowsGrow (chain m head) (chain n head)

-- ---- where a walk for a place stands
-- at a row; or it makes the first one; or it was told that a row is full, and makes the row of this number, which is to follow that; or it
-- links this
pub data At : Type 0 where
  Try : ℕ → At
  Make : At
  Append : ℕ → Value → Option Owner → At
  Link : ℕ → At

-- the first row and this one lead to one row: so this one is on the way, or leads to the last
pub record Meets (f : Chain) (r : ℕ) : Type 0 where
  pub at : ℕ
  pub head : LeadsTo f 0 at
  pub here : LeadsTo f r at

-- a row that the walk passed has a next, and not the place
pub record IsPassed (p : Place) (c : Cell) : Type 0 where
  pub after : ℕ
  pub next : c.next ≡ Some after
  pub none : note_at c.log p ≡ None

-- it passed all rows below
abbrev pub Passed : Chain → Place → ℕ → Type 0
Passed f p r = (n : ℕ) (c : Cell) → n < r → f n ≡ Some (Row.Cell c) → IsPassed p c

-- the first row, or one that is there
abbrev pub StandsAt : Option Row → ℕ → Type 0
StandsAt None r = r ≡ 0
StandsAt (Some r) n = Unit {0}

-- a full row that told its value and its owner: it has them still, or has a next
abbrev pub StillHolds : Option ℕ → Cell → Value → Option Owner → Type 0
StillHolds None c v o = (c.value ≡ v) × (c.owner ≡ o)
StillHolds (Some k) c v o = Unit {0}

pub record IsFullRow (f : Chain) (p : Place) (r : ℕ) (v : Value) (o : Option Owner) : Type 0 where
  pub cell : Cell
  pub there : f r ≡ Some (Row.Cell cell)
  pub full : length cell.log ≡ most_entries
  pub none : note_at cell.log p ≡ None
  pub told : StillHolds cell.next cell v o

-- a full row, with one that is to follow it
pub record Linkable (f : Chain) (p : Place) (r : ℕ) : Type 0 where
  pub cell : Cell
  pub there : f r ≡ Some (Row.Cell cell)
  pub full : length cell.log ≡ most_entries
  pub none : note_at cell.log p ≡ None
  pub spare : Cell
  pub after : f (r + 1) ≡ Some (Row.Cell spare)

-- the number of the row that follows one, if it may have one
pub record IsAfter (r n : ℕ) : Type 0 where
  pub next : n ≡ r + 1
  pub few : n < most_rows

-- what it sees there
abbrev pub SeesAt : Chain → Place → At → Type 0
SeesAt f p (Try r) = Meets f r × Passed f p r × StandsAt (f r) r
SeesAt f p Make = Unit {0}
SeesAt f p (Append n v o) = (r : ℕ) × IsAfter r n × Meets f r × Passed f p r × IsFullRow f p r v o
SeesAt f p (Link n) = (r : ℕ) × IsAfter r n × Meets f r × Passed f p r × Linkable f p r

-- what a walk that only reads sees at a row
abbrev pub ReadsAt : Chain → ℕ → Type 0
ReadsAt f r = Meets f r × StandsAt (f r) r
