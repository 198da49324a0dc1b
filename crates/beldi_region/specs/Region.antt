-- What a contract sees of a region, and what its calls do.
use Rattle.std.specs.Prelude.{◌≡◌, ◌≢◌, ℕ, ◌+◌, ◌-◌, ◌<◌, List, Option, Some, None, is_some, IsSomeAnd, count_by, slice_index_or, slice_set, refl, Bool, false, nat_lt, ◌==◌, if◌then◌else◌}
use Rattle.std.specs.Coded.{Coded, code_by, coded×, coded_ℕ, coded_list, coded_option}
use Rattle.beldi_region.specs.declared.region.SlotId.{SlotId}

-- a free slot of this generation is never used again
abbrev pub last_generation : ℕ
last_generation = 4294967295

-- a slot that was written: its generation, which is that of its value, or where it is free of the next one, and its value
-- where it is taken
pub record ViewedSlot (V : Type 0) : Type 0 where
  pub generation : ℕ
  pub value : Option V

-- what was written at each slot from 0 on, and how many slots there are room for
pub record ViewedRegion (V : Type 0) : Type 0 where
  pub slots : List (Option (ViewedSlot V))
  pub room : ℕ

abbrev pub slot_code : {V : Type 0} → Coded V → Coded (ViewedSlot V)
slot_code {V} code =
    code_by
    (ℕ × Option V)
    (coded× coded_ℕ (coded_option code))
    (λ s. (s.generation, s.value))
    (λ p. record { generation = p.0; value = p.1 })
    (λ _. refl)

abbrev pub region_code : {V : Type 0} → Coded V → Coded (ViewedRegion V)
region_code {V} code =
    code_by
    (List (Option (ViewedSlot V)) × ℕ)
    (coded× (coded_list (coded_option (slot_code code))) coded_ℕ)
    (λ r. (r.slots, r.room))
    (λ p. record { slots = p.0; room = p.1 })
    (λ _. refl)

-- whether a free slot of this generation may be used again
abbrev pub lasts : ℕ → Bool
lasts generation = nat_lt generation last_generation

module _ {V : Type 0} where
  -- what was written at a slot
  abbrev pub slot_at : ViewedRegion V → ℕ → Option (ViewedSlot V)
  slot_at r slot = slice_index_or r.slots slot None

  -- the value that a slot has, where this is its generation
  abbrev pub value_of : Option (ViewedSlot V) → ℕ → Option V
  value_of None generation = None
  value_of (Some s) generation = if s.generation == generation then s.value else None

  -- the value of an id
  abbrev pub find : ViewedRegion V → SlotId → Option V
  find r id = value_of (slot_at r id.slot) id.generation

  -- whether a slot of this value and generation is free, and may be used again
  abbrev pub is_free_at : Option V → ℕ → Bool
  is_free_at (Some v) generation = false
  is_free_at None generation = lasts generation

  -- whether a slot was used, is free, and may be used again
  abbrev pub is_usable : Option (ViewedSlot V) → Bool
  is_usable None = false
  is_usable (Some s) = is_free_at s.value s.generation

  -- how many slots were written
  abbrev pub written : ViewedRegion V → ℕ
  written r = count_by is_some r.slots

  -- how many more values it is sure to take: the slots that were not written, and those that may be used again
  abbrev pub spaces : ViewedRegion V → ℕ
  spaces r = (r.room - written r) + count_by is_usable r.slots

  -- an id is stale for good: its slot has a later generation
  abbrev pub IsStale : ViewedRegion V → SlotId → Type 0
  IsStale r id = IsSomeAnd (slot_at r id.slot) (λ s. id.generation < s.generation)

  -- the other ids have the values that they had, what is stale stays so, and so does the room
  pub record Frame (old new : ViewedRegion V) (id : SlotId) : Type 0 where
    pub others : (other : SlotId) → other ≢ id → find new other ≡ find old other
    pub stale : (other : SlotId) → IsStale old other → IsStale new other
    pub room : new.room ≡ old.room

  -- an id that was new has a value, which takes one space
  pub record PutAt (old new : ViewedRegion V) (id : SlotId) (value : V) : Type 0 where
    pub was_new : find old id ≡ None
    pub found : find new id ≡ Some value
    pub frame : Frame old new id
    pub spaces : spaces new + 1 ≡ spaces old

  -- the value of an id was taken out, and its slot has the next generation
  pub record Taken (old new : ViewedRegion V) (id : SlotId) (value : V) : Type 0 where
    pub was : find old id ≡ Some value
    pub gone : find new id ≡ None
    pub stale : IsStale new id
    pub frame : Frame old new id
    pub spaces : spaces new ≡ spaces old + (if lasts (id.generation + 1) then 1 else 0)

  -- the value of an id was taken out, and the id may be given again
  pub record Released (old new : ViewedRegion V) (id : SlotId) (value : V) : Type 0 where
    pub was : find old id ≡ Some value
    pub gone : find new id ≡ None
    pub frame : Frame old new id
    pub spaces : spaces new ≡ spaces old + 1

  -- an id that had a value has this one
  pub record Changed (old new : ViewedRegion V) (id : SlotId) (value : V) : Type 0 where
    pub found : find new id ≡ Some value
    pub frame : Frame old new id
    pub spaces : spaces new ≡ spaces old

  -- the region once the loan of a value has ended, which is then this one
  abbrev pub with_value : ViewedRegion V → SlotId → V → ViewedRegion V
  with_value r id value =
      record r {
        slots = slice_set r.slots id.slot (Some (record { generation = id.generation; value = Some value }));
      }
