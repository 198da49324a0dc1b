-- Numbers in decimal.
use Rattle.std.specs.Prelude.{ℕ, ◌+◌, ◌-◌, ◌*◌, ◌^◌, ◌==◌, nat_le, ℤ, pos, negsuc, Bool, true, false, not, ◌&&◌, List, [], ◌∷◌, Option, Some, None, option_map, option_and_then, if◌then◌else◌}
use Rattle.std.specs.Str.{all_ascii_digits}

-- the number that digits are, after those that make n
abbrev pub read_on : ℕ → List ℕ → ℕ
read_on n [] = n
read_on n (b ∷ bs) = read_on (n * 10 + (b - 48)) bs

-- only digits, and one at least
abbrev pub is_numeral : List ℕ → Bool
is_numeral [] = false
is_numeral (b ∷ bs) = all_ascii_digits (b ∷ bs)

-- the number that these digits are, where it is at most `most`
abbrev pub number_at : ℕ → List ℕ → Option ℕ
number_at most bs = if is_numeral bs && nat_le (read_on 0 bs) most then Some (read_on 0 bs) else None

-- no zero in front of other digits
abbrev pub is_plain : List ℕ → Bool
is_plain [] = true
is_plain (b ∷ []) = true
is_plain (b ∷ c ∷ bs) = not (b == 48)

-- the same, with no leading zero
abbrev pub numeral_at : ℕ → List ℕ → Option ℕ
numeral_at most bs = if is_plain bs then number_at most bs else None

-- the negative of a number other than 0
abbrev pub negated : ℕ → Option ℤ
negated n = if n == 0 then None else Some (negsuc (n - 1))

-- a whole number of 64 bits in its canonical text
abbrev pub int_at : List ℕ → Option ℤ
int_at [] = None
int_at (b ∷ bs) = if b == 45 then option_and_then negated (numeral_at (2 ^ 63) bs) else option_map pos (numeral_at (2 ^ 63 - 1) (b ∷ bs))
