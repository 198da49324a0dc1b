-- The rows of an item that a table has, beside those that were kept. Log collectors lead past rows whose every entry is of who is gone, and
-- remove these; each other row has what was kept, but that it may lead to a later one.
use Rattle.std.specs.Prelude.{◌≡◌, ◌⊎◌, ℕ, ◌+◌, ◌<◌, ◌≤◌, Bool, true, false, List, Option, Some, None, is_some}
use Rattle.beldi_value.specs.declared.{id.IntentId.IntentId, place.Place.Place}
use Rattle.beldi_row.specs.{declared.notes.Note.Note, declared.row.Cell.Cell, declared.row.Row.Row, Log.note_at}
use Rattle.beldi_chain.specs.Chain.{Chain, next_of}
use Rattle.beldi_links.specs.Links.{LeadsTo}

-- ---- rows that may be led past
-- each entry is of who is gone
abbrev pub AreGone : (IntentId → Bool) → List (Place × Note) → Type 0
AreGone gone es = (p : Place) (w : Note) → note_at es p ≡ Some w → gone p.intent ≡ true

-- a kept row that is not the first, with one that follows it
pub record IsPassable (gone : IntentId → Bool) (n : ℕ) (r : Option Row) : Type 0 where
  pub cell : Cell
  pub there : r ≡ Some (Row.Cell cell)
  pub later : 0 < n
  pub followed : is_some cell.next ≡ true
  pub entries : AreGone gone cell.log

-- those between two
abbrev pub ArePassable : (IntentId → Bool) → Chain → ℕ → ℕ → Type 0
ArePassable gone f n y = (z : ℕ) → n < z → z < y → IsPassable gone z (f z)

-- ---- a row that is there, of the kept one
-- it leads to the row that this leads to, or past more
abbrev pub LeadsPast : (IntentId → Bool) → Chain → ℕ → Option ℕ → Option ℕ → Type 0
LeadsPast gone f n None None = Unit {0}
LeadsPast gone f n (Some y) (Some k) = (k ≤ y) × ArePassable gone f n y
LeadsPast gone f n y k = ⊥

pub record IsCellOf (gone : IntentId → Bool) (f : Chain) (n : ℕ) (c k : Cell) : Type 0 where
  pub value : c.value ≡ k.value
  pub owner : c.owner ≡ k.owner
  pub log : c.log ≡ k.log
  pub next : LeadsPast gone f n c.next k.next
  -- one that is marked may be led past, and one that is adrift is marked
  pub marked : c.marked ≡ true → IsPassable gone n (Some (Row.Cell k))
  pub adrift : is_some c.dangled ≡ true → c.marked ≡ true

-- .. or there is none, where that may be led past
abbrev pub LessRow : (IntentId → Bool) → Chain → ℕ → Option Row → Option Row → Type 0
LessRow gone f n None None = Unit {0}
LessRow gone f n None (Some r) = IsPassable gone n (Some r)
LessRow gone f n (Some (Row.Cell c)) (Some (Row.Cell k)) = IsCellOf gone f n c k
LessRow gone f n (Some (Row.Cell c)) s = ⊥
LessRow gone f n (Some r) s = ⊥

-- the chain of an item, of the kept one
abbrev pub LessChain : (IntentId → Bool) → Chain → Chain → Type 0
LessChain gone g f = (n : ℕ) → LessRow gone f n (g n) (f n)

-- ---- where rows lead
-- a row that is there, and not adrift
abbrev pub IsMoored : Option Row → Type 0
IsMoored (Some (Row.Cell c)) = c.dangled ≡ None
IsMoored r = ⊥

-- each row that the first one leads to is so; and it leads to each that has a next and is not marked
pub record IsThreaded (g : Chain) : Type 0 where
  pub there : (n : ℕ) → LeadsTo g 0 n → IsMoored (g n)
  pub leads : (n : ℕ) (c : Cell) → g n ≡ Some (Row.Cell c) → is_some c.next ≡ true → c.marked ≡ false → LeadsTo g 0 n

-- ---- walks
-- a row that stays until this deadline: it is there, and is not adrift, or was not a life before
abbrev pub IsSafeTo : ℕ → ℕ → Option Row → Type 0
IsSafeTo life deadline (Some (Row.Cell c)) = (t : ℕ) → c.dangled ≡ Some t → deadline ≤ t + life
IsSafeTo life deadline r = ⊥

-- so is each that a row leads to, where it is not the first
abbrev pub IsSafeFrom : ℕ → ℕ → Chain → ℕ → Type 0
IsSafeFrom life deadline g r = 0 < r → (n : ℕ) → LeadsTo g r n → IsSafeTo life deadline (g n)

-- .. and a row that none follows yet, or one that stays
abbrev pub MayFollow : ℕ → ℕ → Chain → ℕ → Type 0
MayFollow life deadline g r = (next_of (g r) ≡ None) ⊎ IsSafeTo life deadline (g (r + 1))
