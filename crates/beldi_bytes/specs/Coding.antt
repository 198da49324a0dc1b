-- What a writer adds to bytes, and what a reader takes off their front.
use Rattle.std.specs.Prelude.{◌≡◌, List, ℕ, ◌∷◌, ◌++◌, Bool, false, true, Option, Some, None, Result, Ok, Err}
use Rattle.beldi_bytes.specs.declared.{cursor.ReadErr.ReadErr, cursor.ReadErr.TheVariants.OutOfMemory, cursor.ReadErr.TheVariants.Foreign}

-- the bytes `old` have become `new`: what `put` puts before any bytes was added to them
abbrev pub Adds : List ℕ → List ℕ → (List ℕ → List ℕ) → Type 0
Adds old new put = (s : List ℕ) → new ++ s ≡ old ++ put s

-- nothing that `Is` has these bytes at the front of `old`; out of memory is a free answer
abbrev pub Refuses : {X : Type 0} → (X → List ℕ → List ℕ) → (X → Type 0) → List ℕ → ReadErr → Type 0
Refuses {X = X} put Is old OutOfMemory = Unit {0}
Refuses {X = X} put Is old Foreign = (x : X) (s : List ℕ) → Is x → old ≡ put x s → ⊥

-- what was read stood at the front of `old`, and `new` is what follows it
abbrev pub Reads : {X : Type 0} → (X → List ℕ → List ℕ) → (X → Type 0) → List ℕ → List ℕ → Result X ReadErr → Type 0
Reads {X = X} put Is old new (Ok x) = (old ≡ put x new) × Is x
Reads {X = X} put Is old new (Err why) = Refuses put Is old why

-- a byte, and any bytes behind it
abbrev pub one : ℕ → List ℕ → List ℕ
one n s = n ∷ s

-- a truth, as 0 or 1
abbrev pub truth_bytes : Bool → List ℕ → List ℕ
truth_bytes false s = 0 ∷ s
truth_bytes true s = 1 ∷ s

-- what may be there, after whether it is
abbrev pub option_bytes : {X : Type 0} → (X → List ℕ → List ℕ) → Option X → List ℕ → List ℕ
option_bytes {X = X} put None s = 0 ∷ s
option_bytes {X = X} put (Some x) s = 1 ∷ put x s

-- what is there, is so
abbrev pub IfThere : {X : Type 0} → (X → Type 0) → Option X → Type 0
IfThere {X = X} Is None = Unit {0}
IfThere {X = X} Is (Some x) = Is x

-- what every number or truth is
abbrev pub Any : {X : Type 0} → X → Type 0
Any {X = X} x = Unit {0}
