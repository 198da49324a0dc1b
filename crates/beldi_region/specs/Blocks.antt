-- A list in blocks.
use mathlib.Core.HLevel.{×_prop, Unit-prop}
use denote.Struct.Props as logic
use Rattle.std.specs.Prelude.{◌≡◌, ℕ, zero, suc, ◌+◌, ◌-◌, ◌<◌, ◌≤◌, Bool, ◌&&◌, nat_lt, nat_le, ◌==◌, if◌then◌else◌, List, [], ◌∷◌, ◌++◌, length, take, drop, Option, Some, None, slice_get, slice_index_or, slice_set, insert, remove}
use Rattle.beldi_region.specs.declared.region.SlotId.{SlotId}
use Rattle.beldi_region.specs.declared.blocks.Spot.{Spot}

-- how many slots a block has room for, and half of that
abbrev pub block_room : ℕ
block_room = 128

abbrev pub half_room : ℕ
half_room = 64

module _ {A : Type 0} where
  -- all items, block by block
  abbrev pub flat : List (List A) → List A
  flat [] = []
  flat (b ∷ bs) = b ++ flat bs

  -- how many items stand before a block
  abbrev pub before : List (List A) → ℕ → ℕ
  before [] n = 0
  before (b ∷ bs) zero = 0
  before (b ∷ bs) (suc n) = length b + before bs n

  abbrev pub block_at : List (List A) → ℕ → List A
  block_at bs n = slice_index_or bs n []

  -- no block is empty, and each has, with the one before it, more than half of what a block has room for. The number is what
  -- the one before the first is taken to have
  abbrev pub AreTight : ℕ → List (List A) → Type 0
  AreTight n [] = Unit {0}
  AreTight n (b ∷ bs) = (0 < length b) × ((half_room < n + length b) × AreTight (length b) bs)

  pub tight_prop : (n : ℕ) (bs : List (List A)) → IsProp (AreTight n bs)
  tight_prop n [] = Unit-prop
  tight_prop n (b ∷ bs) = ×_prop (Prim.hlevel logic.props) (×_prop (Prim.hlevel logic.props) (tight_prop (length b) bs))

  -- whether a block and the next one have together at most half of what a block has room for
  abbrev pub is_small : List (List A) → ℕ → Bool
  is_small bs n = nat_lt 1 (length bs - n) && nat_le (length (block_at bs n) + length (block_at bs (n + 1))) half_room

  -- ---- places
  -- how many items stand before a place
  abbrev pub place_in : List (List A) → Spot → ℕ
  place_in bs p = before bs p.block + p.at

  -- the place is in a block
  pub record IsIn (bs : List (List A)) (p : Spot) : Type 0 where
    pub block : p.block < length bs
    pub at : p.at ≤ length (block_at bs p.block)

  -- .. and an item stands behind it there
  pub record IsAt (bs : List (List A)) (p : Spot) : Type 0 where
    pub block : p.block < length bs
    pub at : p.at < length (block_at bs p.block)

  -- the place is in a block, or the first one where there are no blocks
  abbrev pub IsSpot : List (List A) → Spot → Type 0
  IsSpot [] p = (p.block ≡ 0) × (p.at ≡ 0)
  IsSpot (b ∷ bs) p = IsIn (b ∷ bs) p

  -- the item behind a place in its block
  abbrev pub slot_at : List (List A) → Spot → Option A
  slot_at bs p = slice_get (block_at bs p.block) p.at

  -- the item behind a place, which may be the first of the next block, and the place behind it
  abbrev pub then_at : ℕ → ℕ → Option A → Option (A × Spot)
  then_at n at None = None
  then_at n at (Some x) = Some (x, record { block = n; at = at })

  abbrev pub next_or : List (List A) → Spot → Option A → Option (A × Spot)
  next_or bs p (Some x) = Some (x, record { block = p.block; at = p.at + 1 })
  next_or bs p None = if nat_le (length bs - p.block) 1 then None else then_at (p.block + 1) 1 (slot_at bs (record { block = p.block + 1; at = 0 }))

  abbrev pub next_in : List (List A) → Spot → Option (A × Spot)
  next_in bs p = next_or bs p (slot_at bs p)

-- where a place is once its block was split
abbrev pub split_spot : Spot → Spot
split_spot p = if nat_le p.at half_room then p else record { block = p.block + 1; at = p.at - half_room }

-- ---- the changes of blocks
-- the slots of each block, and how many blocks there is room for besides
pub record ViewedBlocks : Type 0 where
  pub lists : List (List SlotId)
  pub spares : ℕ

-- a block has these slots
abbrev pub with_block : ViewedBlocks → ℕ → List SlotId → ViewedBlocks
with_block s n b = record { lists = slice_set s.lists n b; spares = s.spares }

-- the first block was made, and has no slots
abbrev pub opened : ViewedBlocks → ViewedBlocks
opened s = record { lists = [] ∷ []; spares = s.spares - 1 }

-- the slots behind the first half of a block are in a block of their own
abbrev pub split_at : ViewedBlocks → ℕ → ViewedBlocks
split_at s n =
    record {
      lists = insert (slice_set s.lists n (take half_room (block_at s.lists n))) (n + 1) (drop half_room (block_at s.lists n));
      spares = s.spares - 1;
    }

-- a block has those of the next one too
abbrev pub joined : ViewedBlocks → ℕ → ViewedBlocks
joined s n =
    record {
      lists = slice_set (remove s.lists (n + 1)) n (block_at s.lists n ++ block_at s.lists (n + 1));
      spares = s.spares + 1;
    }

-- a block is away
abbrev pub closed : ViewedBlocks → ℕ → ViewedBlocks
closed s n = record { lists = remove s.lists n; spares = s.spares + 1 }

-- the block of a place has room for one more; the place then
abbrev pub roomy : ViewedBlocks → Spot → ViewedBlocks × Spot
roomy s p =
    if length s.lists == 0 then (opened s, p)
    else if length (block_at s.lists p.block) == block_room then (split_at s p.block, split_spot p)
    else (s, p)

-- a block that may be empty, or small with one beside it, is so no more
abbrev pub closed_up : ViewedBlocks → ℕ → ViewedBlocks
closed_up s n =
    if length (block_at s.lists n) == 0 then closed s n
    else if is_small s.lists n then joined s n
    else if nat_lt 0 n && is_small s.lists (n - 1) then joined s (n - 1)
    else s
