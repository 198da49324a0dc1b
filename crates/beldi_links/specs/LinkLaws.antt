-- What is so of linked rows, whatever acts there are.
use Rattle.std.specs.Prelude.{◌≡◌, false, ℕ, ◌+◌, ◌<◌, List, [], ◌∷◌, ◌++◌, length, Option, Some, None}
use Rattle.std.specs.Ordering.{is_eq}
use Rattle.std.specs.FinMap as map
use Rattle.beldi_value.specs.declared.{place.Owner.Owner, place.Place.Place, value.Value.Value}
use Rattle.beldi_row.specs.{declared.notes.Note.Note, declared.row.Cell.Cell, declared.row.Row.Row, Key.RowKey, Key.at_row, Key.key_cmp, Log.most_entries, Log.note_at, Table.Rows, Table.set_row}
use Rattle.beldi_chain.specs.{Chain.Chain, Chain.ChangedAlone, Chain.IsHead, Chain.chain, Chain.content, Chain.is_row_of, Chain.most_rows, Chain.tail}
use Rattle.beldi_links.specs.Links.{AllGrow, At, Fits, Frozen, IsSpare, LeadsTo, Linked, Meets, Passed, ReadsAt, RowGrows, RowsGrow, SeesAt, SetTo, Steps, before, behind, own}

-- ---- what a chain holds
-- what its last row does, behind the notes of the rows before it
abbrev pub ContentIs : Type 0
ContentIs = (f : Chain) (ks : List ℕ) (last : ℕ) (t : Cell) → Steps f 0 ks last → f last ≡ Some (Row.Cell t) → t.next ≡ None → last < most_rows → content f ≡ behind (before f 0 ks) (own t)

-- the last row of linked rows is the one that is named
abbrev pub TailIs : Type 0
TailIs = (f : Chain) (l : Linked f) → tail f ≡ Some (Row.Cell l.tail)

-- a note of a row on the way is one of the chain, where no row below it has one of the place
abbrev pub NotedIsNoted : Type 0
NotedIsNoted = (f : Chain) (l : Linked f) (p : Place) (r : ℕ) (c : Cell) (w : Note) → LeadsTo f 0 r → LeadsTo f r l.last → Passed f p r → f r ≡ Some (Row.Cell c) → note_at c.log p ≡ Some w → note_at (content f).notes p ≡ Some w

-- a place that no row on the way has, nor the last one, has none in the chain
abbrev pub NoneIsNoted : Type 0
NoneIsNoted = (f : Chain) (l : Linked f) (p : Place) → Passed f p l.last → note_at l.tail.log p ≡ None → note_at (content f).notes p ≡ None

-- ---- acts on rows that are linked
-- where a row of an item is set, or goes, all others of the item stay
abbrev pub RowIsSet : Type 0
RowIsSet = (m : Rows) (head : RowKey) → IsHead head → (r : ℕ) (v : Option Row) → SetTo (chain m head) r v (chain (set_row m (at_row head r) v) head)

-- the last row is set, and none follows it: the chain holds what it holds, behind the notes of the rows before it
abbrev pub LastRowIsSet : Type 0
LastRowIsSet = (f g : Chain) (l : Linked f) (u : Cell) → SetTo f l.last (Some (Row.Cell u)) g → u.next ≡ None → content g ≡ behind (before f 0 l.path.0) (own u)

-- the last row has room, and gets an entry of a place that has none: the rows stay linked
abbrev pub EntriesKeepLinks : Type 0
EntriesKeepLinks = (f g : Chain) (l : Linked f) (p : Place) (w : Note) (u : Cell) → SetTo f l.last (Some (Row.Cell u)) g → u.next ≡ None → u.log ≡ l.tail.log ++ (p, w) ∷ [] → Fits u → note_at (content f).notes p ≡ None → Linked g

-- a row that is to follow the last one is made: the chain holds what it held ..
abbrev pub MakingChangesNothing : Type 0
MakingChangesNothing = (f g : Chain) (l : Linked f) (v : Option Row) → SetTo f (l.last + 1) v g → content g ≡ content f

-- .. and the rows stay linked
abbrev pub MakingKeepsLinks : Type 0
MakingKeepsLinks = (f g : Chain) (l : Linked f) (s : Cell) → IsSpare l.tail s → Fits s → SetTo f (l.last + 1) (Some (Row.Cell s)) g → Linked g

-- so it is where that row is linked
abbrev pub LinkingChangesNothing : Type 0
LinkingChangesNothing = (f g : Chain) (l : Linked f) (s : Cell) → f (l.last + 1) ≡ Some (Row.Cell s) → l.last + 1 < most_rows → SetTo f l.last (Some (Row.Cell (record l.tail { next = Some (l.last + 1) }))) g → content g ≡ content f

abbrev pub LinkingKeepsLinks : Type 0
LinkingKeepsLinks = (f g : Chain) (l : Linked f) (s : Cell) → f (l.last + 1) ≡ Some (Row.Cell s) → l.last + 1 < most_rows → SetTo f l.last (Some (Row.Cell (record l.tail { next = Some (l.last + 1) }))) g → Linked g

-- a first row that is made where there is none is linked, and all rows grow
abbrev pub FirstRowIsLinked : Type 0
FirstRowIsLinked = (f g : Chain) (s : Cell) → ((n : ℕ) → f n ≡ None) → SetTo f 0 (Some (Row.Cell s)) g → s.next ≡ None → s.log ≡ [] → Fits s → Linked g × RowsGrow f g

-- ---- ways, and where a walk stands
-- a way stays where rows with a next do
abbrev pub KeepsSteps : Type 0
KeepsSteps = (f g : Chain) → Frozen f g → (r : ℕ) (ks : List ℕ) (n : ℕ) → Steps f r ks n → Steps g r ks n

-- where a walk stands leads to the last row
abbrev pub WalksEnd : Type 0
WalksEnd = (f : Chain) (last : ℕ) (t : Cell) → LeadsTo f 0 last → f last ≡ Some (Row.Cell t) → t.next ≡ None → (r : ℕ) → Meets f r → LeadsTo f r last

-- .. and so does the row that is next
abbrev pub MeetingsGoOn : Type 0
MeetingsGoOn = (f : Chain) (last : ℕ) (t : Cell) → LeadsTo f 0 last → f last ≡ Some (Row.Cell t) → t.next ≡ None → (r : ℕ) (c : Cell) (k : ℕ) → Meets f r → f r ≡ Some (Row.Cell c) → c.next ≡ Some k → Meets f k

-- where none is next, it is the last row
abbrev pub LastIsLast : Type 0
LastIsLast = (f : Chain) (last : ℕ) (t : Cell) → LeadsTo f 0 last → f last ≡ Some (Row.Cell t) → t.next ≡ None → (r : ℕ) (c : Cell) → Meets f r → f r ≡ Some (Row.Cell c) → c.next ≡ None → r ≡ last

-- the row that it passed is one more of those below
abbrev pub PassedGoesOn : Type 0
PassedGoesOn = (f : Chain) (l : Linked f) (p : Place) (r : ℕ) (c : Cell) (k : ℕ) → Passed f p r → f r ≡ Some (Row.Cell c) → c.next ≡ Some k → note_at c.log p ≡ None → Passed f p k

-- ---- what a walk sees from its first row on
abbrev pub WalksBegin : Type 0
WalksBegin = (f : Chain) (p : Place) → SeesAt f p (At.Try 0)

-- it goes on from a row that has a next, and not its place
abbrev pub NextIsSeen : Type 0
NextIsSeen = (f : Chain) (l : Linked f) (p : Place) (r : ℕ) (c : Cell) (k : ℕ) → Passed f p r → f r ≡ Some (Row.Cell c) → c.next ≡ Some k → note_at c.log p ≡ None → SeesAt f p (At.Try k)

-- a row is full that has not its place
abbrev pub FullIsSeen : Type 0
FullIsSeen = (f : Chain) (p : Place) (r : ℕ) (c : Cell) → SeesAt f p (At.Try r) → f r ≡ Some (Row.Cell c) → length c.log ≡ most_entries → note_at c.log p ≡ None → r + 1 < most_rows → SeesAt f p (At.Append (r + 1) c.value c.owner)

-- where it was told that a row is full, and there is none of the next number, that row is the last; what the walk makes is to follow it
abbrev pub SpareIsMade : Type 0
SpareIsMade = (f : Chain) (l : Linked f) (p : Place) (n : ℕ) (v : Value) (o : Option Owner) (s : Cell) → SeesAt f p (At.Append n v o) → f n ≡ None → s.value ≡ v → s.owner ≡ o → s.log ≡ [] → s.next ≡ None → (n ≡ l.last + 1) × IsSpare l.tail s

-- .. and where there is one, it goes on to link that
abbrev pub SpareIsSeen : Type 0
SpareIsSeen = (f : Chain) (p : Place) (n : ℕ) (v : Value) (o : Option Owner) (s : Cell) → SeesAt f p (At.Append n v o) → f n ≡ Some (Row.Cell s) → SeesAt f p (At.Link n)

-- .. and where a row that it links has a next, it goes on to that
abbrev pub LinkedIsSeen : Type 0
LinkedIsSeen = (f : Chain) (l : Linked f) (p : Place) (n : ℕ) (r : ℕ) (c : Cell) (k : ℕ) → SeesAt f p (At.Link n) → n ≡ r + 1 → f r ≡ Some (Row.Cell c) → c.next ≡ Some k → SeesAt f p (At.Try k)

-- ---- what a walk sees that only reads: at the first row, and at the next of one
abbrev pub ReadsBegin : Type 0
ReadsBegin = (f : Chain) → ReadsAt f 0

abbrev pub NextIsRead : Type 0
NextIsRead = (f : Chain) (l : Linked f) (r : ℕ) (c : Cell) (k : ℕ) → f r ≡ Some (Row.Cell c) → c.next ≡ Some k → ReadsAt f k

-- ---- .. after the acts of others
abbrev pub MeetingsStay : Type 0
MeetingsStay = (f g : Chain) → Frozen f g → (r : ℕ) → Meets f r → Meets g r

-- rows that grow leave those with a next
abbrev pub GrownAreFrozen : Type 0
GrownAreFrozen = (f g : Chain) → RowsGrow f g → Frozen f g

-- .. and what a walk sees
abbrev pub OthersKeep : Type 0
OthersKeep = (f g : Chain) (p : Place) (at : At) → RowsGrow f g → SeesAt f p at → SeesAt g p at

-- all rows grow where one does that is there ..
abbrev pub OneRowGrows : Type 0
OneRowGrows = (f g : Chain) (r : ℕ) (c d : Row) → f r ≡ Some c → SetTo f r (Some d) g → RowGrows (Some c) (Some d) → RowsGrow f g

-- .. and where one is made that is to follow the last
abbrev pub MakingGrows : Type 0
MakingGrows = (f g : Chain) (l : Linked f) (s : Row) → f (l.last + 1) ≡ None → SetTo f (l.last + 1) (Some s) g → RowsGrow f g

-- .. as does what one that only reads sees
abbrev pub ReadersKeep : Type 0
ReadersKeep = (f g : Chain) (r : ℕ) → RowsGrow f g → ReadsAt f r → ReadsAt g r

-- all items' rows grow where one item's do, and all others stay; and where no row of an item changed
abbrev pub OneItemGrows : Type 0
OneItemGrows = (m n : Rows) (head : RowKey) → IsHead head → ChangedAlone head m n → RowsGrow (chain m head) (chain n head) → AllGrow m n

abbrev pub OthersGrow : Type 0
OthersGrow = (m n : Rows) (l : RowKey) → ((head : RowKey) → IsHead head → is_row_of head l ≡ false) → ((q : RowKey) → is_eq (key_cmp q l) ≡ false → map.get n q ≡ map.get m q) → AllGrow m n
