-- What a source, a sink and a link do.
use Rattle.std.specs.Prelude.{◌≡◌, ℕ, nat_eq, nat_lt, if◌then◌else◌, ◌&&◌, ◌+◌, ◌-◌, ◌^◌, ◌≤◌, ◌<◌, min, List, [], ◌++◌, length, take, drop, Option, Some, None, Result, Ok, Err, OnErr}
use Rattle.std.specs.Global.{Vec}
use Rattle.beldi_outside.specs.declared.{traits.Failed.Failed, transfer.ReadErr.ReadErr, transfer.ReadErr.TheVariants.OutOfMemory, transfer.ReadErr.TheVariants.Failed as SourceFailed, transfer.ReadErr.TheVariants.TooLong}

-- what was told before stays told, and P joins it to what is told after
abbrev pub Observed : {A : Type 0} → Option A → Option A → (A → A → Type 0) → Type 0
Observed None after P = Unit {0}
Observed (Some x) None P = ⊥
Observed (Some x) (Some y) P = P x y

-- one more fault; a count at its type's end stays there
abbrev pub counted : ℕ → ℕ
counted count = min (count + 1) (2 ^ 64 - 1)

-- a count rose, or stands at its type's end
abbrev pub Rose : ℕ → ℕ → Type 0
Rose before after = counted before ≤ after

-- the count did not fall, and an error comes only where it rose
pub record HasCause {T E : Type 0} (before after : ℕ) (result : Result T E) : Type 0 where
  pub later : before ≤ after
  pub failed : OnErr result (Rose before after)

-- just an error of a read is one fault more
abbrev pub CountsReadErrors : ℕ → ℕ → Result ℕ Failed → Type 0
CountsReadErrors before after (Ok n) = after ≡ before
CountsReadErrors before after (Err e) = after ≡ counted before

-- an error of a write, or nothing taken of a piece that is not empty, is one fault more
abbrev pub CountsWriteErrors : List ℕ → ℕ → ℕ → Result ℕ Failed → Type 0
CountsWriteErrors bytes before after (Ok n) = after ≡ (if nat_eq n 0 && nat_lt 0 (length bytes) then counted before else before)
CountsWriteErrors bytes before after (Err e) = after ≡ counted before

-- no more was moved than there was room for
abbrev pub IsWithin : List ℕ → Result ℕ Failed → Type 0
IsWithin room (Ok n) = n ≤ length room
IsWithin room (Err e) = Unit {0}

-- a read takes the front of what is left, and nothing only at the end
abbrev pub ReadOn : List ℕ → Result ℕ Failed → List ℕ → List ℕ → Type 0
ReadOn buf (Ok n) b c = (n ≤ length b) × (c ≡ drop n b) × (take n buf ≡ take n b) × (n ≡ 0 → 0 < length buf → b ≡ [])
ReadOn buf (Err e) b c = c ≡ b

abbrev pub Reads : Option (List ℕ) → Option (List ℕ) → List ℕ → Result ℕ Failed → Type 0
Reads before after buf result = Observed before after (ReadOn buf result)

-- a write adds a front of the piece
abbrev pub WriteOn : List ℕ → Result ℕ Failed → List ℕ → List ℕ → Type 0
WriteOn bytes (Ok n) h k = k ≡ h ++ take n bytes
WriteOn bytes (Err e) h k = k ≡ h

abbrev pub Writes : Option (List ℕ) → Option (List ℕ) → List ℕ → Result ℕ Failed → Type 0
Writes before after bytes result = Observed before after (WriteOn bytes result)

-- nothing taken of a piece that is not empty is a fault
abbrev pub ZeroIsFault : List ℕ → Result ℕ Failed → ℕ → ℕ → Type 0
ZeroIsFault bytes (Ok n) before after = n ≡ 0 → 0 < length bytes → Rose before after
ZeroIsFault bytes (Err e) before after = Unit {0}

abbrev pub IsPrefixOf : List ℕ → List ℕ → Type 0
IsPrefixOf xs ys = (rest : List ℕ) × (xs ++ rest ≡ ys)

-- a front of the bytes was written, and `rest` is left
abbrev pub WrotePrefix : List ℕ → List ℕ → List ℕ → List ℕ → Type 0
WrotePrefix bytes rest h k = (p : List ℕ) × (p ++ rest ≡ bytes) × (k ≡ h ++ p)

-- all the bytes were written; after a fault a front of them, and not all
abbrev pub WroteOn : List ℕ → Result (Unit {0}) Failed → List ℕ → List ℕ → Type 0
WroteOn bytes (Ok u) h k = k ≡ h ++ bytes
WroteOn bytes (Err e) h k = (p : List ℕ) × IsPrefixOf p bytes × (length p < length bytes) × (k ≡ h ++ p)

abbrev pub WritesAll : Option (List ℕ) → Option (List ℕ) → List ℕ → Result (Unit {0}) Failed → Type 0
WritesAll before after bytes result = Observed before after (WroteOn bytes result)

-- the most bytes that a source of the program may have
abbrev pub max_source : ℕ
max_source = 16777216

-- a front of at most `most` bytes was taken
abbrev pub TookPrefix : ℕ → List ℕ → List ℕ → Type 0
TookPrefix most b c = (p : List ℕ) × (p ++ c ≡ b) × (length p ≤ most)

-- all that was left is in the answer; where that is more than `most` bytes, just one byte more was taken
abbrev pub ReadAllOn : ℕ → Result (Vec ℕ) ReadErr → List ℕ → List ℕ → Type 0
ReadAllOn most (Ok v) b c = (v.items ≡ b) × (c ≡ [])
ReadAllOn most (Err TooLong) b c = (most < length b) × (c ≡ drop (most + 1) b)
ReadAllOn most (Err SourceFailed) b c = TookPrefix most b c
ReadAllOn most (Err OutOfMemory) b c = TookPrefix (most + 1) b c
