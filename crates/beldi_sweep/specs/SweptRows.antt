-- Rows that a sweep may begin with, and what it leaves of them.
use Rattle.std.specs.Prelude.{◌≡◌, ◌⊎◌, ℕ, ◌<◌, ◌≤◌, Bool, true, false, is_some, length, List, Some, None}
use Rattle.std.specs.FinMap as map
use Rattle.std.specs.declared.cmp.Ordering.TheVariants.{Less}
use Rattle.beldi_value.specs.declared.id.IntentId.{IntentId}
use Rattle.beldi_row.specs.{Act.is_left_row, Act.is_old_row, Act.is_past, Key.RowKey, Key.at_row, Key.key_cmp, Key.least_key, Log.most_entries, Table.Rows, declared.key.Kind.Kind, declared.row.Cell.Cell, declared.row.Row.Row}
use Rattle.beldi_chain.specs.Chain.{Chain, chain}
use Rattle.beldi_links.specs.Links.{LeadsTo}
use Rattle.beldi_splice.specs.Splice.{IsThreaded}
use Rattle.beldi_intent.specs.Intent.{intent_key}
use Rattle.beldi_prune.specs.{CellEntries.HasEntryOf, PruneLaws.IsOldAt, PruneLaws.is_left, Prune.is_newest, Seat.belongs_to, Seat.seat_of}

-- ---- all work is past
-- each intent finished more than a life ago, or was given nothing to do; only that of the newest ticket may be younger
abbrev pub IsIntentIdle : Bool → ℕ → ℕ → Row → Type 0
IsIntentIdle true life now (Row.Intent i) = is_some i.body ≡ true → is_past life now i.finish ≡ true
IsIntentIdle false life now (Row.Intent i) = (is_some i.body ≡ true → is_past life now i.finish ≡ true) × (i.body ≡ None → is_past life now (Some i.issued) ≡ true)
IsIntentIdle b life now r = ⊥

abbrev pub IsIdle : ℕ → ℕ → ℕ → Rows → Type 0
IsIdle newest life now m = (k : RowKey) (i : IntentId) (r : Row) → k.kind ≡ Kind.Intent i → map.get m k ≡ Some r → IsIntentIdle (is_newest newest i) life now r

-- .. so what belongs to an intent is of one that is gone, or old: its own row, the rows that it left, and its entries
pub record AllIsOld (newest life now : ℕ) (m : Rows) : Type 0 where
  pub intents : (k : RowKey) (i : IntentId) (r : Row) → k.kind ≡ Kind.Intent i → is_newest newest i ≡ false → map.get m k ≡ Some r → is_old_row life now r ≡ true
  pub left : (k : RowKey) (i : IntentId) → is_some (map.get m k) ≡ true → is_left k.kind ≡ true → belongs_to k.kind ≡ Some i → IsOldAt life now (map.get m (seat_of k i))
  pub entries : (k : RowKey) (t n : ℕ) (q : List ℕ) (c : Cell) (i : IntentId) → k.kind ≡ Kind.Data t q n → map.get m k ≡ Some (Row.Cell c) → HasEntryOf c.log i → IsOldAt life now (map.get m (intent_key i k.home))

-- ---- sound rows
-- of an item
pub record IsSound (g : Chain) : Type 0 where
  pub cells : (n : ℕ) (r : Row) → g n ≡ Some r → (c : Cell) × (r ≡ Row.Cell c) × (length c.log ≤ most_entries)
  -- without a first row there is none; it is not marked, nor adrift
  pub begins : g 0 ≡ None → (n : ℕ) → g n ≡ None
  pub first : (c : Cell) → g 0 ≡ Some (Row.Cell c) → (c.marked ≡ false) × (c.dangled ≡ None)
  -- rows lead on to later ones
  pub rises : (n k : ℕ) (c : Cell) → g n ≡ Some (Row.Cell c) → c.next ≡ Some k → n < k
  -- what is adrift is marked, and has a next
  pub adrift : (n : ℕ) (c : Cell) → g n ≡ Some (Row.Cell c) → is_some c.dangled ≡ true → (c.marked ≡ true) × (is_some c.next ≡ true)
  -- the first row leads to rows that are there and not adrift, and to each that has a next and is not marked
  pub threads : is_some (g 0) ≡ true → IsThreaded g
  -- .. and at last to one past all that have a next
  pub ends : (n : ℕ) (c : Cell) → LeadsTo g 0 n → g n ≡ Some (Row.Cell c) → c.next ≡ None → (x : ℕ) (e : Cell) → g x ≡ Some (Row.Cell e) → is_some e.next ≡ true → x < n

pub record AreSound (m : Rows) : Type 0 where
  pub left : (k : RowKey) (r : Row) → is_left k.kind ≡ true → map.get m k ≡ Some r → is_left_row r ≡ true
  -- the row of an intent is an intent's, and none is at the least key
  pub intents : (k : RowKey) (i : IntentId) (r : Row) → k.kind ≡ Kind.Intent i → map.get m k ≡ Some r → (is_left_row r ≡ false) × (key_cmp least_key k ≡ Less)
  pub items : (k : RowKey) (t n : ℕ) (q : List ℕ) → k.kind ≡ Kind.Data t q n → IsSound (chain m (at_row k 0))

-- ---- what a sweep leaves
-- the last row of an item, or one that is adrift
abbrev pub IsLastOrAdrift : Row → Type 0
IsLastOrAdrift (Row.Cell c) = (c.next ≡ None) ⊎ (is_some c.dangled ≡ true)
IsLastOrAdrift r = ⊥

-- no row that an intent left, no intent's but that of the newest ticket, and of an item the first row, the last, and those that are adrift
abbrev pub IsTrim : ℕ → Kind → Row → Type 0
IsTrim newest (Kind.Intent i) r = is_newest newest i ≡ true
IsTrim newest (Kind.ReadLog a) r = ⊥
IsTrim newest (Kind.Invoke a) r = ⊥
IsTrim newest (Kind.Data t k n) r = (n ≡ 0) ⊎ IsLastOrAdrift r
IsTrim newest (Kind.Shadow s t k n) r = ⊥
IsTrim newest (Kind.Lockset i b t k) r = ⊥

abbrev pub AreTrimmed : ℕ → Rows → Type 0
AreTrimmed newest m = (k : RowKey) (r : Row) → map.get m k ≡ Some r → IsTrim newest k.kind r

-- so are those up to a key
abbrev pub AreTrimmedTo : ℕ → RowKey → Rows → Type 0
AreTrimmedTo newest cursor m = (k : RowKey) (r : Row) → map.get m k ≡ Some r → (key_cmp cursor k ≡ Less) ⊎ IsTrim newest k.kind r

-- each row that is adrift is so for more than a life
abbrev pub AreLongAdrift : ℕ → ℕ → Rows → Type 0
AreLongAdrift life now m = (k : RowKey) (c : Cell) → map.get m k ≡ Some (Row.Cell c) → is_some c.dangled ≡ true → is_past life now c.dangled ≡ true

-- .. is so since this moment at the latest
abbrev pub AreAdriftBy : ℕ → Rows → Type 0
AreAdriftBy moment m = (k : RowKey) (c : Cell) (since : ℕ) → map.get m k ≡ Some (Row.Cell c) → c.dangled ≡ Some since → since ≤ moment

-- .. or none is
abbrev pub NoneIsAdrift : Rows → Type 0
NoneIsAdrift m = (k : RowKey) (c : Cell) → map.get m k ≡ Some (Row.Cell c) → c.dangled ≡ None

pub record AreTidy (newest : ℕ) (m : Rows) : Type 0 where
  pub trimmed : AreTrimmed newest m
  pub moored : NoneIsAdrift m
