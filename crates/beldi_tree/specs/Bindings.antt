-- Names and their values.
use Rattle.std.specs.Prelude.{◌≡◌, ℕ, ◌<◌, ◌==◌, Bool, true, false, List, [], ◌∷◌, length, slice_index_or as get_or, Option, Some, None}
use Rattle.std.specs.{FinMap.FinMap, Ordering.nat_cmp, Cmp.Lexicographic.slice_cmp}
use lib.Pointwise.{pointwise}
use Rattle.std.specs.FinMap as map
use Rattle.beldi_value.specs.declared.value.Value.{Value, TheVariants.Null}

-- two names are one
abbrev pub is_name : List ℕ → List ℕ → Bool
is_name a b = pointwise ◌==◌ a b

-- names with their values
abbrev pub Bindings : Type 0
Bindings = FinMap (slice_cmp nat_cmp) Value

abbrev pub no_variables : Bindings
no_variables = map.empty

-- these bindings with entries put in front of them, of which the first one of a name counts
abbrev pub with_all : List (List ℕ × Value) → Bindings → Bindings
with_all [] m = m
with_all (e ∷ es) m = map.insert (with_all es m) e.0 e.1

-- no entry before this place has this name
abbrev pub AreOthers : List (List ℕ × Value) → List ℕ → ℕ → Type 0
AreOthers es n i = (k : ℕ) → k < i → (d : List ℕ × Value) → is_name n (get_or es k d).0 ≡ false

-- the first entry of a name stands at this place, or none does
abbrev pub IsFirst : List (List ℕ × Value) → List ℕ → Option ℕ → Type 0
IsFirst es n None = AreOthers es n (length es)
IsFirst es n (Some i) = (i < length es) × ((d : List ℕ × Value) → is_name n (get_or es i d).0 ≡ true) × AreOthers es n i

-- a variable that was not set is null, and so is a field or an element that is not there
abbrev pub or_null : Option Value → Value
or_null None = Null
or_null (Some v) = v
