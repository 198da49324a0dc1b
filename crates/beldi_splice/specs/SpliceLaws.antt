-- What is so of the rows that a table has of an item, beside those that were kept.
use Rattle.std.specs.Prelude.{◌≡◌, ℕ, ◌+◌, ◌<◌, ◌≤◌, Bool, true, false, is_some, Option, Some, None}
use Rattle.beldi_value.specs.declared.{id.IntentId.IntentId, place.Place.Place}
use Rattle.beldi_row.specs.{declared.row.Cell.Cell, declared.row.Row.Row, Log.note_at}
use Rattle.beldi_chain.specs.{Chain.Chain, Chain.content}
use Rattle.beldi_links.specs.Links.{At.Try, Frozen, IsLinked, LeadsTo, Linked, Passed, ReadsAt, SeesAt, SetTo}
use Rattle.beldi_splice.specs.Splice.{IsPassable, IsSafeFrom, IsThreaded, LessChain, MayFollow}

-- ---- what the rows hold
-- a kept row that none follows is there, as it was kept
abbrev pub UnfollowedAreAlike : Type 0
UnfollowedAreAlike = (gone : IntentId → Bool) (g f : Chain) (l : Linked f) → LessChain gone g f → (n : ℕ) (k : Cell) → f n ≡ Some (Row.Cell k) → k.next ≡ None → g n ≡ f n

-- the first row leads to the last
abbrev pub FirstLeadsToLast : Type 0
FirstLeadsToLast = (gone : IntentId → Bool) (g f : Chain) (l : Linked f) → LessChain gone g f → IsThreaded g → LeadsTo g 0 l.last

-- value and owner are those that were kept, and so is the note of a place whose intent is not gone
pub record IsAlike (gone : IntentId → Bool) (g f : Chain) : Type 0 where
  pub value : (content g).value ≡ (content f).value
  pub owner : (content g).owner ≡ (content f).owner
  pub notes : (p : Place) → gone p.intent ≡ false → note_at (content g).notes p ≡ note_at (content f).notes p

abbrev pub ContentsAreAlike : Type 0
ContentsAreAlike = (gone : IntentId → Bool) (g f : Chain) → IsLinked f → LessChain gone g f → (is_some (g 0) ≡ true → IsThreaded g) → IsAlike gone g f

-- linked rows are so of themselves ..
abbrev pub LinkedAreSo : Type 0
LinkedAreSo = (gone : IntentId → Bool) (f : Chain) → IsLinked f → LessChain gone f f × (is_some (f 0) ≡ true → IsThreaded f)

-- .. and while nobody is gone they are those that were kept
abbrev pub NobodyGoneNoneLess : Type 0
NobodyGoneNoneLess = (gone : IntentId → Bool) (g f : Chain) → IsLinked f → ((i : IntentId) → gone i ≡ false) → LessChain gone g f → (n : ℕ) → g n ≡ f n

-- ---- acts on a row that both have alike
-- the rows are less still, those that the first one leads to are there, and what was safe is so
pub record Keeps (gone : IntentId → Bool) (g h e : Chain) : Type 0 where
  pub less : LessChain gone h e
  pub threads : is_some (h 0) ≡ true → IsThreaded h
  pub safe : (life deadline r : ℕ) → IsSafeFrom life deadline g r → IsSafeFrom life deadline h r
  pub follows : (life deadline r : ℕ) → MayFollow life deadline g r → MayFollow life deadline h r

-- no row goes, one with a next stays as it is, and the kept rows are linked before and after
abbrev pub ActsKeepRowsSo : Type 0
ActsKeepRowsSo = (gone : IntentId → Bool) (g f h e : Chain) (r : ℕ) (v : Option Row) → SetTo g r v h → SetTo f r v e → g r ≡ f r → (is_some (f r) ≡ true → is_some v ≡ true) → Frozen f e → IsLinked f → IsLinked e → LessChain gone g f → (is_some (g 0) ≡ true → IsThreaded g) → Keeps gone g h e

-- ---- what log collectors do, of the kept rows as they are
-- a row that may be led past is marked
abbrev pub MarksKeep : Type 0
MarksKeep = (gone : IntentId → Bool) (g f h : Chain) (r : ℕ) (c : Cell) → g r ≡ Some (Row.Cell c) → IsPassable gone r (f r) → SetTo g r (Some (Row.Cell (record c { marked = true }))) h → LessChain gone g f → IsThreaded g → Keeps gone g h f

-- a row that is not marked leads past a marked one, to the row that this leads to
pub record LeadsOver (g : Chain) (r x y : ℕ) (c d : Cell) : Type 0 where
  pub here : g r ≡ Some (Row.Cell c)
  pub unmarked : c.marked ≡ false
  pub next : c.next ≡ Some x
  pub there : g x ≡ Some (Row.Cell d)
  pub marked : d.marked ≡ true
  pub after : d.next ≡ Some y
  pub rises : r < x
  pub further : x < y

abbrev pub SkipsKeep : Type 0
SkipsKeep = (gone : IntentId → Bool) (g f h : Chain) (r x y : ℕ) (c d : Cell) → LeadsOver g r x y c d → SetTo g r (Some (Row.Cell (record c { next = Some y }))) h → LessChain gone g f → IsThreaded g → Keeps gone g h f

-- .. and the first row does not lead to that then
abbrev pub SkippedAreUnled : Type 0
SkippedAreUnled = (g h : Chain) (r x y : ℕ) (c d : Cell) → LeadsOver g r x y c d → SetTo g r (Some (Row.Cell (record c { next = Some y }))) h → LeadsTo g 0 r → LeadsTo h 0 x → ⊥

-- a marked row is adrift from now on, where the first one does not lead to it
abbrev pub DanglesKeep : Type 0
DanglesKeep = (gone : IntentId → Bool) (g f h : Chain) (x now : ℕ) (c : Cell) → g x ≡ Some (Row.Cell c) → c.marked ≡ true → (LeadsTo g 0 x → ⊥) → SetTo g x (Some (Row.Cell (record c { dangled = Some now }))) h → LessChain gone g f → IsThreaded g
    → LessChain gone h f × IsThreaded h × ((life deadline r : ℕ) → deadline ≤ now + life → (IsSafeFrom life deadline g r → IsSafeFrom life deadline h r) × (MayFollow life deadline g r → MayFollow life deadline h r))

-- one that is adrift for more than a life goes, and no walk that may act stands before it
abbrev pub DropsKeep : Type 0
DropsKeep = (gone : IntentId → Bool) (g f h : Chain) (x since : ℕ) (c : Cell) → g x ≡ Some (Row.Cell c) → c.dangled ≡ Some since → SetTo g x None h → LessChain gone g f → IsThreaded g
    → LessChain gone h f × IsThreaded h × ((life now deadline r : ℕ) → since + life < now → now ≤ deadline → (IsSafeFrom life deadline g r → IsSafeFrom life deadline h r) × (MayFollow life deadline g r → MayFollow life deadline h r))

-- who else is gone, it is so of these as well
abbrev pub MoreAreGone : Type 0
MoreAreGone = (gone more : IntentId → Bool) (g f : Chain) → ((i : IntentId) → gone i ≡ true → more i ≡ true) → LessChain gone g f → LessChain more g f

-- ---- walks: what is safe is so from the next row on
abbrev pub NextIsSafe : Type 0
NextIsSafe = (g : Chain) (life deadline r k : ℕ) (c : Cell) → IsThreaded g → g r ≡ Some (Row.Cell c) → c.next ≡ Some k → r < k → IsSafeFrom life deadline g r → IsSafeFrom life deadline g k

-- a walk that is led past rows sees at the row that it comes to what it would see there had it taken each
abbrev pub ReadsGoFurther : Type 0
ReadsGoFurther = (gone : IntentId → Bool) (g f : Chain) (l : Linked f) → LessChain gone g f → (r y : ℕ) (c : Cell) → g r ≡ Some (Row.Cell c) → c.next ≡ Some y → ReadsAt f y

abbrev pub WalksGoFurther : Type 0
WalksGoFurther = (gone : IntentId → Bool) (g f : Chain) (l : Linked f) → LessChain gone g f → (r y : ℕ) (c : Cell) → g r ≡ Some (Row.Cell c) → c.next ≡ Some y → (p : Place) → gone p.intent ≡ false → Passed f p r → note_at c.log p ≡ None → SeesAt f p (Try y)
