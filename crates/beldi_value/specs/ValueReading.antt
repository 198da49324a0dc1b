-- Reading a value from JSON.
use Rattle.std.specs.Prelude.{◌≡◌, IsTrue, ℕ, nat_le, List, Option, None, Result, Ok, Err, ok_or, if◌then◌else◌}
use Rattle.std.specs.Str.{is_utf8}
use Rattle.serde_json.specs.Data as json
use Rattle.serde_json.specs.Read as serde
use Rattle.beldi_value.specs.{declared.value.Value.Value, declared.read.ValueErr.ValueErr, declared.read.ValueErr.TheVariants.OutOfMemory, declared.read.ValueErr.TheVariants.NotJson, declared.read.ValueErr.TheVariants.TooDeep, declared.read.ValueErr.TheVariants.NotInt, declared.read.ValueErr.TheVariants.TooLarge, Datum.Datum, Json.of_json, Json.text_of, Limits.is_within, Limits.most_depth, Limits.most_bytes, Limits.text_size, Value.datum_of}

-- `?`
infixl 10 ◌>>=◌
abbrev pub ◌>>=◌ : {A B : Type 0} → Result A ValueErr → (A → Result B ValueErr) → Result B ValueErr
Ok a >>= f = f a
Err e >>= f = Err e

-- what `serde_json` reads, where the bytes are UTF-8
abbrev pub json_at : List ℕ → Option json.Data
json_at bytes = if is_utf8 bytes then serde.read bytes else None

-- JSON whose lists and records nest no deeper than a value's may
abbrev pub if_shallow : json.Data → Result json.Data ValueErr
if_shallow j = if nat_le (json.depth j) most_depth then Ok j else Err TooDeep

-- a value whose canonical text is no longer than it may be
abbrev pub if_small : Datum → Result Datum ValueErr
if_small d = if nat_le (text_size d) most_bytes then Ok d else Err (TooLarge (text_size d))

-- the value that the bytes are, or the first cause that they are none
abbrev pub read_of : List ℕ → Result Datum ValueErr
read_of bytes = do
  found ← ok_or (json_at bytes) NotJson
  j ← if_shallow found
  d ← ok_or (of_json j) NotInt
  if_small d

-- within the limits, the canonical text is read as the value
abbrev pub IsReadAgain : Datum → Type 0
IsReadAgain d = IsTrue (is_within d) → read_of (text_of d) ≡ Ok d

-- this is answered, unless out of memory
abbrev pub ReadsValue : Result Datum ValueErr → Result Value ValueErr → Type 0
ReadsValue r (Ok v) = r ≡ Ok (datum_of v)
ReadsValue r (Err OutOfMemory) = Unit {0}
ReadsValue r (Err NotJson) = r ≡ Err NotJson
ReadsValue r (Err TooDeep) = r ≡ Err TooDeep
ReadsValue r (Err NotInt) = r ≡ Err NotInt
ReadsValue r (Err (TooLarge bytes)) = r ≡ Err (TooLarge bytes)

-- what is no JSON is refused for that cause alone
abbrev pub Refuses : Option json.Data → ValueErr → Type 0
Refuses o OutOfMemory = Unit {0}
Refuses o NotJson = o ≡ None
Refuses o TooDeep = ⊥
Refuses o NotInt = ⊥
Refuses o (TooLarge bytes) = ⊥
