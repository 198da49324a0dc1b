-- Slots in the order of the keys of their rows.
use Rattle.std.specs.Prelude.{◌≡◌, ◌≢◌, ℕ, ◌+◌, ◌<◌, ◌≤◌, Bool, true, false, List, length, map, if◌then◌else◌, Option, Some, None, Result, Ok, Err, slice_get, slice_index_or, is_some, IsTrue, All}
use Rattle.std.specs.{FinMap.from_entries, List.Sorted.IsStrictlySortedBy, Map.lookup, Map.keys_of, BTreeMap.is_at, Ordering.is_lt, declared.cmp.Ordering.Ordering, declared.cmp.Ordering.TheVariants.Less, declared.cmp.Ordering.TheVariants.Equal, declared.cmp.Ordering.TheVariants.Greater}
use Rattle.beldi_row.specs.{Key.RowKey, Key.key_cmp, Key.least_key, Table.Rows, Table.is_open, declared.row.Row.Row}
use Rattle.beldi_region.specs.{Region.ViewedRegion, Region.find, Region.spaces, Blocks.block_at, Blocks.flat, Blocks.place_in, Blocks.IsSpot, declared.region.SlotId.SlotId, declared.blocks.Spot.Spot, declared.order.Entry.Entry}

-- the key and the row in a slot; what stands for a slot that has none is of no account
abbrev pub pair_of : Option Entry → RowKey × Row
pair_of None = (least_key, Row.Lockset)
pair_of (Some e) = (e.key, e.row)

abbrev pub pair_at : ViewedRegion Entry → SlotId → RowKey × Row
pair_at r id = pair_of (find r id)

-- the keys and the rows in slots, and the map of them
abbrev pub pairs : ViewedRegion Entry → List SlotId → List (RowKey × Row)
pairs r ids = map (pair_at r) ids

abbrev pub rows_in : ViewedRegion Entry → List SlotId → Rows
rows_in r ids = from_entries (pairs r ids)

-- slots with their keys, and the first one with a key
abbrev pub seat : ViewedRegion Entry → SlotId → RowKey × SlotId
seat r id = ((pair_at r id).0, id)

abbrev pub slot_of : ViewedRegion Entry → List SlotId → RowKey → Option SlotId
slot_of r ids k = lookup (is_at (key_cmp k)) (map (seat r) ids)

-- how a key compares with that of a slot's row
abbrev pub side : RowKey → Option Entry → Ordering
side k None = Less
side k (Some e) = key_cmp k e.key

-- of the slots on both sides of a place, the one before it has no greater key, and the one behind it has one
pub record IsPast (r : ViewedRegion Entry) (ids : List SlotId) (k : RowKey) (place : ℕ) : Type 0 where
  pub fits : place ≤ length ids
  pub below : (j : ℕ) (d : SlotId) → j + 1 ≡ place → is_lt (side k (find r (slice_index_or ids j d))) ≡ false
  pub above : (d : SlotId) → place < length ids → is_lt (side k (find r (slice_index_or ids place d))) ≡ true

-- whether a block begins with a greater key; one without slots does
abbrev pub is_past : ViewedRegion Entry → RowKey → Option SlotId → Bool
is_past r k None = true
is_past r k (Some id) = is_lt (side k (find r id))

abbrev pub begins_past : ViewedRegion Entry → RowKey → List SlotId → Bool
begins_past r k b = is_past r k (slice_get b 0)

-- of the blocks on both sides of a place, the one before it begins with no greater key, and the one behind it with one
pub record IsBlockPast (r : ViewedRegion Entry) (bs : List (List SlotId)) (k : RowKey) (place : ℕ) : Type 0 where
  pub fits : place ≤ length bs
  pub below : (j : ℕ) → j + 1 ≡ place → begins_past r k (block_at bs j) ≡ false
  pub above : place < length bs → begins_past r k (block_at bs place) ≡ true

-- the one before it has a lesser key, and the one behind it a greater one
pub record IsGap (r : ViewedRegion Entry) (ids : List SlotId) (k : RowKey) (place : ℕ) : Type 0 where
  pub fits : place ≤ length ids
  pub below : (j : ℕ) (d : SlotId) → j + 1 ≡ place → side k (find r (slice_index_or ids j d)) ≡ Greater
  pub above : (d : SlotId) → place < length ids → side k (find r (slice_index_or ids place d)) ≡ Less

-- a place, before which no slot stands but one with whose key this one compares so, and this one is not less
pub record IsBehind (r : ViewedRegion Entry) (bs : List (List SlotId)) (k : RowKey) (o : Ordering) (p : Spot) : Type 0 where
  pub spot : IsSpot bs p
  pub not_less : is_lt o ≡ false
  pub below : (j : ℕ) (d : SlotId) → j + 1 ≡ place_in bs p → side k (find r (slice_index_or (flat bs) j d)) ≡ o

-- the place of the slot with a key, or the one where it is to stand
abbrev pub Places : ViewedRegion Entry → List SlotId → RowKey → Result ℕ ℕ → Type 0
Places r ids k (Ok place) = (place < length ids) × ((d : SlotId) → side k (find r (slice_index_or ids place d)) ≡ Equal)
Places r ids k (Err place) = IsGap r ids k place

-- the slot with a key, or the place where it is to stand
abbrev pub Finds : ViewedRegion Entry → List SlotId → RowKey → Result SlotId ℕ → Type 0
Finds r ids k (Ok id) = side k (find r id) ≡ Equal
Finds r ids k (Err place) = IsGap r ids k place

-- these slots are taken, no two for one key, in the order of their keys
pub record IsOrdered (r : ViewedRegion Entry) (ids : List SlotId) : Type 0 where
  pub taken : All (λ id. IsTrue (is_some (find r id))) ids
  pub rising : IsStrictlySortedBy key_cmp (keys_of (pairs r ids))

-- they are those that were there, but for the one with this key
pub record IsWithout (r : ViewedRegion Entry) (k : RowKey) (ids less : List SlotId) : Type 0 where
  pub ordered : IsOrdered r less
  pub none : slot_of r less k ≡ None
  pub others : (q : RowKey) → is_at (key_cmp q) k ≡ false → slot_of r less q ≡ slot_of r ids q
  pub count : length ids ≡ length less + (if is_some (slot_of r ids k) then 1 else 0)

-- the slots of a table are in order, and so are all that are taken
pub record IsHeld (r : ViewedRegion Entry) (ids : List SlotId) : Type 0 where
  pub ordered : IsOrdered r ids
  pub seated : (id : SlotId) (e : Entry) → find r id ≡ Some e → slot_of r ids e.key ≡ Some id
  pub count : length ids + spaces r ≡ r.room

-- the slots of open intents are among these, of those that are meant
pub record AreListed (meant : SlotId → Type 0) (r : ViewedRegion Entry) (ids : List SlotId) : Type 0 where
  pub ordered : IsOrdered r ids
  pub listed : (id : SlotId) (e : Entry) → meant id → find r id ≡ Some e → is_open e.key.kind e.row ≡ true → slot_of r ids e.key ≡ Some id

-- .. all of them, or all but one
abbrev pub IsListed : ViewedRegion Entry → List SlotId → Type 0
IsListed r ids = AreListed (λ id. Unit {0}) r ids

abbrev pub IsListedBut : SlotId → ViewedRegion Entry → List SlotId → Type 0
IsListedBut id r ids = AreListed (λ other. other ≢ id) r ids

-- at most so many slots are taken, and no two have one key
pub record IsWithin (r : ViewedRegion Entry) (most : ℕ) : Type 0 where
  pub few : (ids : List SlotId) → IsOrdered r ids → length ids ≤ most
  pub alone : (a b : SlotId) (x y : Entry) → find r a ≡ Some x → find r b ≡ Some y → x.key ≡ y.key → a ≡ b
