-- How many live runs each intent has.
use Rattle.std.specs.Prelude.{◌≡◌, ℕ, ◌+◌, ◌-◌, zero, suc, nat_lt, Bool, true, false, Option, Some, None, if◌then◌else◌}
use Rattle.std.specs.{FinMap.FinMap, Ordering.nat_cmp, Ordering.is_eq}
use Rattle.std.specs.FinMap as map
use Rattle.beldi_value.specs.{Id.id_cmp, declared.id.IntentId.IntentId}
use Rattle.beldi_step.specs.declared.run.Run.{Run}

abbrev pub CountMap : Type 0
CountMap = FinMap id_cmp ℕ

abbrev pub number_of : Option ℕ → ℕ
number_of None = 0
number_of (Some n) = n

abbrev pub count_at : CountMap → IntentId → ℕ
count_at m id = number_of (map.get m id)

abbrev pub more : CountMap → IntentId → CountMap
more m id = map.insert m id (count_at m id + 1)

-- by what there is
abbrev pub less : CountMap → IntentId → Option ℕ → CountMap
less m id None = map.remove m id
less m id (Some n) = if nat_lt n 2 then map.remove m id else map.insert m id (n - 1)

abbrev pub RaisedAt : CountMap → CountMap → IntentId → Option ℕ → Bool → Type 0
RaisedAt m n id None b = (n ≡ m) × (b ≡ false)
RaisedAt m n id (Some k) b = (n ≡ map.insert m id (k + 1)) × (b ≡ true)

-- where at most one was left, the entry is to go
abbrev pub LoweredTo : CountMap → CountMap → IntentId → ℕ → Bool → Type 0
LoweredTo m n id k true = (nat_lt k 2 ≡ false) × (n ≡ map.insert m id (k - 1))
LoweredTo m n id k false = (nat_lt k 2 ≡ true) × (n ≡ map.insert m id k)

abbrev pub LoweredAt : CountMap → CountMap → IntentId → Option ℕ → Bool → Type 0
LoweredAt m n id None b = (n ≡ m) × (b ≡ false)
LoweredAt m n id (Some k) b = LoweredTo m n id k b

-- ---- what is counted
-- whether a run is one of this intent
abbrev pub is_of : IntentId → Option Run → Bool
is_of id None = false
is_of id (Some r) = is_eq (id_cmp r.id id)

abbrev pub more_if : Bool → ℕ → ℕ
more_if true n = suc n
more_if false n = n

-- those of an intent that have numbers from 1 up to this one
abbrev pub counted : ℕ → FinMap nat_cmp Run → IntentId → ℕ
counted zero m id = 0
counted (suc g) m id = more_if (is_of id (map.get m (suc g))) (counted g m id)

-- how so many are kept
abbrev pub kept_as : ℕ → Option ℕ
kept_as zero = None
kept_as (suc n) = Some (suc n)

-- each intent is counted
abbrev pub AllCounted : ℕ → FinMap nat_cmp Run → CountMap → Type 0
AllCounted g m n = (id : IntentId) → map.get n id ≡ kept_as (counted g m id)
