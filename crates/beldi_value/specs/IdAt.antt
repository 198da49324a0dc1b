-- Reading an id from its text.
use Rattle.std.specs.Prelude.{◌≡◌, ℕ, ◌-◌, ◌^◌, ◌==◌, nat_lt, List, [], ◌∷◌, length, Option, Some, None, Result, Ok, Err, option_map, option_and_then, if◌then◌else◌}
use Rattle.beldi_value.specs.{declared.id.IntentId.IntentId, declared.read_id.IdErr.IdErr, declared.read_id.IdErr.TheVariants.OutOfMemory, declared.read_id.IdErr.TheVariants.BadId, Number.numeral_at}

-- the byte goes onto the first part
abbrev pub onto_first : ℕ → List (List ℕ) → List (List ℕ)
onto_first b [] = (b ∷ []) ∷ []
onto_first b (p ∷ ps) = (b ∷ p) ∷ ps

-- the parts that stand before, between and after the slashes
abbrev pub parts_of : List ℕ → List (List ℕ)
parts_of [] = [] ∷ []
parts_of (b ∷ bs) = if b == 47 then [] ∷ parts_of bs else onto_first b (parts_of bs)

-- the parts of what follows a slash, where there is one
abbrev pub rest_parts : Option (List ℕ) → List (List ℕ)
rest_parts None = []
rest_parts (Some bytes) = parts_of bytes

-- a number of 32 bits, without leading zeros
abbrev pub step_at : List ℕ → Option ℕ
step_at part = numeral_at (2 ^ 32 - 1) part

-- the same, and not 0
abbrev pub ticket_at : List ℕ → Option ℕ
ticket_at part = option_and_then (λ n. if n == 0 then None else Some n) (step_at part)

-- the numbers that the parts are
abbrev pub steps_at : List (List ℕ) → Option (List ℕ)
steps_at [] = Some []
steps_at (p ∷ ps) = option_and_then (λ n. option_map (λ ns. n ∷ ns) (steps_at ps)) (step_at p)

-- the steps of at most 63 hops
abbrev pub hops_at : List (List ℕ) → Option (List ℕ)
hops_at ps = if nat_lt 63 (length ps) then None else steps_at ps

abbrev pub with_hops : Option (List ℕ) → ℕ → Option IntentId
with_hops hops ticket = option_map (λ hs. record { ticket = ticket; hops = hs }) hops

-- a ticket, and then hops
abbrev pub id_from : List (List ℕ) → Option IntentId
id_from [] = None
id_from (p ∷ ps) = option_and_then (with_hops (hops_at ps)) (ticket_at p)

-- the id whose text this is, where there is one
abbrev pub id_at : List ℕ → Option IntentId
id_at text = id_from (parts_of text)

-- this is read, and refused exactly where it is none, unless out of memory
abbrev pub RefusesId : {A : Type 0} → Option A → IdErr → Type 0
RefusesId o OutOfMemory = Unit {0}
RefusesId o BadId = o ≡ None

abbrev pub ReadsId : {A : Type 0} → Option A → Result A IdErr → Type 0
ReadsId o (Ok id) = o ≡ Some id
ReadsId o (Err e) = RefusesId o e
