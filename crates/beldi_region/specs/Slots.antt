-- How a region lies in its slab. No public clause cites this module.
use Rattle.std.specs.Prelude.{◌≡◌, ℕ, zero, suc, ◌^◌, ◌≤◌, List, map, Option, Some, None, is_some, count_by, slice_index_or, IsTrue}
use Rattle.slab.specs.Slab.{Slab, get}
use Rattle.beldi_region.specs.Region.{ViewedSlot, lasts, is_usable}
use Rattle.beldi_region.specs.declared.region.Slot.{Slot}

module _ {V : Type 0} where
  -- what is seen of a slot
  abbrev pub viewed : Slot V → ViewedSlot V
  viewed s = record { generation = s.generation; value = s.value }

  abbrev pub viewed_of : Option (Slot V) → Option (ViewedSlot V)
  viewed_of None = None
  viewed_of (Some s) = Some (viewed s)

  -- from the first one on, so many free slots each name the next, and the last one none
  abbrev pub IsFreeList : List (Option (Slot V)) → ℕ → Option ℕ → Type 0
  IsFreeList slots zero first = first ≡ None
  IsFreeList slots (suc more) first =
      (key : ℕ) × (s : Slot V) × (first ≡ Some key) × (slice_index_or slots key None ≡ Some s)
      × IsTrue (is_usable (viewed_of (Some s))) × IsFreeList slots more s.next

  -- the slab has room for all slots, a key is a `u32`, and the free list has each slot that may be used again
  pub record IsSound (slab : Slab (Slot V)) (room : ℕ) (first : Option ℕ) : Type 0 where
    pub fits : room ≤ slab.capacity
    pub small : slab.capacity ≤ 2 ^ 32
    pub lasting : (key : ℕ) (s : Slot V) → get slab key ≡ Some s → IsTrue (is_some s.value) → IsTrue (lasts s.generation)
    pub free : IsFreeList slab.slots (count_by is_usable (map viewed_of slab.slots)) first
