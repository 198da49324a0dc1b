-- What is found of a row that log collectors lead past, and what stays so of it whatever is done to rows.
use Rattle.std.specs.Prelude.{◌≡◌, ◌⊎◌, ℕ, ◌<◌, Bool, true, Option, Some, None, is_some}
use Rattle.beldi_value.specs.declared.id.IntentId.{IntentId}
use Rattle.beldi_row.specs.declared.row.{Cell.Cell, Row.Row}
use Rattle.beldi_chain.specs.Chain.{Chain}
use Rattle.beldi_links.specs.Links.{Frozen, IsLinked, LeadsTo, SetTo}
use Rattle.beldi_splice.specs.{SpliceLaws.LeadsOver, Splice.IsThreaded, Splice.LessChain}

-- ---- the way to a row
-- a row leads to one that is absent, below another
pub record LeadsOff (g : Chain) (at x : ℕ) : Type 0 where
  pub to : ℕ
  pub below : to < x
  pub path : LeadsTo g at to
  pub none : g to ≡ None

-- where the first row leads to another, this one does, as far as rows are there
abbrev pub IsOnWay : Chain → ℕ → ℕ → Type 0
IsOnWay g x at = LeadsTo g 0 x → LeadsTo g at x ⊎ LeadsOff g at x

-- ---- a row that is followed
-- it went, or has a next
abbrev pub HasFollower : Option Row → Type 0
HasFollower None = Unit {0}
HasFollower (Some (Row.Cell c)) = is_some c.next ≡ true
HasFollower (Some r) = ⊥

-- what it may become: its entries stay, and where it is marked it leads where it led
pub record IsLeftOf (c d : Cell) : Type 0 where
  pub log : d.log ≡ c.log
  pub next : is_some d.next ≡ true
  pub marked : c.marked ≡ true → (d.marked ≡ true) × (d.next ≡ c.next)

-- .. or it goes; and what went stays away
abbrev pub RowStays : Option Row → Option Row → Type 0
RowStays None s = s ≡ None
RowStays (Some (Row.Cell c)) None = Unit {0}
RowStays (Some (Row.Cell c)) (Some (Row.Cell d)) = IsLeftOf c d
RowStays r s = ⊥

-- so it is of the row of this number, and what is on the way to it is so still
pub record Onward (g h : Chain) (x : ℕ) : Type 0 where
  pub row : RowStays (g x) (h x)
  pub back : LeadsTo h 0 x → LeadsTo g 0 x
  pub ways : (at : ℕ) → IsOnWay g x at → IsOnWay h x at

-- ---- whatever is done
-- acts of runs: rows with a next stay, and a kept row that went stays away
abbrev pub ActsLeadOn : Type 0
ActsLeadOn = (gone : IntentId → Bool) (g f h : Chain) → IsLinked f → LessChain gone g f → Frozen g h → ((n : ℕ) → g n ≡ None → is_some (f n) ≡ true → h n ≡ None) → (x : ℕ) → is_some (f x) ≡ true → HasFollower (g x) → Onward g h x

-- a row keeps its next and its entries, and is marked where it was
pub record KeepsNext (c d : Cell) : Type 0 where
  pub next : d.next ≡ c.next
  pub log : d.log ≡ c.log
  pub marked : c.marked ≡ true → d.marked ≡ true

abbrev pub MarksLeadOn : Type 0
MarksLeadOn = (g h : Chain) (r : ℕ) (c d : Cell) → g r ≡ Some (Row.Cell c) → SetTo g r (Some (Row.Cell d)) h → KeepsNext c d → (x : ℕ) → HasFollower (g x) → Onward g h x

-- a row leads past another one
abbrev pub SkipsLeadOn : Type 0
SkipsLeadOn = (g h : Chain) (r z y : ℕ) (c d : Cell) → LeadsOver g r z y c d → SetTo g r (Some (Row.Cell (record c { next = Some y }))) h → IsThreaded g → (x : ℕ) → HasFollower (g x) → Onward g h x

-- a row that is adrift goes
abbrev pub DropsLeadOn : Type 0
DropsLeadOn = (g h : Chain) (z since : ℕ) (c : Cell) → g z ≡ Some (Row.Cell c) → c.dangled ≡ Some since → SetTo g z None h → IsThreaded g → (x : ℕ) → HasFollower (g x) → Onward g h x

-- ---- who follows the way
abbrev pub WaysBegin : Type 0
WaysBegin = (g : Chain) (x : ℕ) → IsOnWay g x 0

abbrev pub WaysGoOn : Type 0
WaysGoOn = (g : Chain) (x at k : ℕ) (c : Cell) → g at ≡ Some (Row.Cell c) → c.next ≡ Some k → at < x → IsOnWay g x at → IsOnWay g x k

-- .. comes to one that leads past the row, or nowhere: then the first does not lead to it
abbrev pub WaysEnd : Type 0
WaysEnd = (g : Chain) (x at : ℕ) (c : Cell) → g at ≡ Some (Row.Cell c) → ((k : ℕ) → c.next ≡ Some k → x < k) → at < x → IsOnWay g x at → LeadsTo g 0 x → ⊥
