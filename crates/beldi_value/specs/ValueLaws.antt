-- What holds of the definitions.
use Rattle.std.specs.Prelude.{◌≡◌, ◌<◌, ◌≤◌, ◌^◌, ◌∷◌, decimal, false, IsTrue, List, length, ℕ, ℤ, Some}
use Rattle.std.specs.List.{AllByRecursion}
use lib.Signed.{mag}
use Rattle.beldi_value.specs.{declared.id.IntentId.IntentId, Datum.Datum, Datum.int, Formed.IsFormed, Id.is_older, IdAt.id_at, Json.text_of, Number.int_at, Number.number_at, Number.numeral_at, ValueReading.IsReadAgain, ValueText.id_text}

-- of two ids that are not one, just one is older, and what is older than an older one is older
pub record AgesAreOrdered : Type 0 where
  pub itself : (a : IntentId) → is_older a a ≡ false
  pub further : (a b c : IntentId) → IsTrue (is_older a b) → IsTrue (is_older b c) → IsTrue (is_older a c)
  pub one_way : (a b : IntentId) → IsTrue (is_older a b) → is_older b a ≡ false
  pub either : (a b : IntentId) → is_older a b ≡ false → is_older b a ≡ false → a ≡ b

-- a number below 2^64 has one text without leading zeros, and that alone is read as it, where it is at most `most`; zeros in
-- front count for nothing where they are allowed
pub record NumeralTextIsExact : Type 0 where
  pub reads : (most n : ℕ) → n < 2 ^ 64 → n ≤ most → numeral_at most (decimal n) ≡ Some n
  pub alone : (most n : ℕ) (bs : List ℕ) → most < 2 ^ 64 → numeral_at most bs ≡ Some n → (decimal n ≡ bs) × (n ≤ most)
  pub zeros : (most b : ℕ) (bs : List ℕ) → number_at most (48 ∷ b ∷ bs) ≡ number_at most (b ∷ bs)

-- a whole number of 64 bits has one text, and that alone is read as it (`mag` of n and of -(n + 1) is n)
pub record IntTextIsExact : Type 0 where
  pub reads : (z : ℤ) → mag z < 2 ^ 63 → int_at (text_of (int z)) ≡ Some z
  pub alone : (z : ℤ) (bs : List ℕ) → int_at bs ≡ Some z → text_of (int z) ≡ bs

-- an id has one text, and that alone is read as it
pub record IdTextIsExact : Type 0 where
  pub reads : (id : IntentId) → 0 < id.ticket → id.ticket < 2 ^ 32 → AllByRecursion (λ h. h < 2 ^ 32) id.hops → length id.hops ≤ 63 → id_at (id_text id) ≡ Some id
  pub alone : (id : IntentId) (bs : List ℕ) → id_at bs ≡ Some id → id_text id ≡ bs

-- the canonical text of a value within the limits is read as that value
abbrev pub TextIsReadAgain : Type 0
TextIsReadAgain = (d : Datum) → IsFormed d → IsReadAgain d
