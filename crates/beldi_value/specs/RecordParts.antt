-- The parts of records and lists.
use Rattle.std.specs.Prelude.{◌≡◌, ℕ, ◌<◌, ◌≤◌, ◌+◌, ◌∷◌, ◌++◌, ℤ, pos, negsuc, List, length, Option, Some, None, option_and_then, slice_get, take, drop, Result, Ok, Err}
use Rattle.std.specs.{Map.lookup, BTreeMap.is_at, BTreeMap.insert_entry, Ordering.nat_cmp, Cmp.Lexicographic.slice_cmp}
use Rattle.beldi_value.specs.Datum.{Datum}

-- the field of this key, where there is one
abbrev pub field_at : List ℕ → List (List ℕ × Datum) → Option Datum
field_at key fs = lookup (is_at (slice_cmp nat_cmp key)) fs

-- the record with this field set: a new key goes to its place in the order
abbrev pub set_field : List (List ℕ × Datum) → List ℕ → Datum → List (List ℕ × Datum)
set_field fs key d = insert_entry (slice_cmp nat_cmp) fs key d

-- the place that an index names
abbrev pub place_at : ℤ → Option ℕ
place_at (pos n) = Some n
place_at (negsuc n) = None

-- the item at this index, from 0, where there is one
abbrev pub item_at : ℤ → List Datum → Option Datum
item_at z ds = option_and_then (slice_get ds) (place_at z)

-- a field stands at its place, or belongs there: for the code that sets one
abbrev pub IsPlace : List (List ℕ × Datum) → List ℕ → Result ℕ ℕ → Type 0
IsPlace fs key (Ok i) = (i < length fs) × ((d : Datum) → set_field fs key d ≡ take i fs ++ (key, d) ∷ drop (i + 1) fs)
IsPlace fs key (Err i) = (i ≤ length fs) × ((d : Datum) → set_field fs key d ≡ take i fs ++ (key, d) ∷ drop i fs)
