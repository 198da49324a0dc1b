-- What the fields of a head say of the body.
use Rattle.std.specs.Prelude.{ℕ, ◌^◌, ◌-◌, nat_le, Bool, true, false, List, [], ◌∷◌, length, map, codes, bytes_eq, Option, Some, None, if◌then◌else◌}
use Rattle.std.specs.Char.{to_ascii_lowercase}
use Rattle.beldi_value.specs.Number.{number_at}
use Rattle.beldi_gateway.specs.declared.framing.{Length.Length, Length.TheVariants.Absent, Length.TheVariants.Given, Length.TheVariants.Bad, Framing.Framing}

-- a name and a value
abbrev pub Pair : Type 0
Pair = List ℕ × List ℕ

-- upper and lower case are one in a field's name
abbrev pub same_name : List ℕ → List ℕ → Bool
same_name given name = bytes_eq (map to_ascii_lowercase given) (map to_ascii_lowercase name)

abbrev pub given_or_bad : Option ℕ → Length
given_or_bad None = Bad
given_or_bad (Some n) = Given n

-- one to nineteen digits
abbrev pub read_length : List ℕ → Length
read_length value = if nat_le (length value) 19 then given_or_bad (number_at (2 ^ 64 - 1) value) else Bad

-- of two, none counts
abbrev pub one_more : Length → List ℕ → Length
one_more Absent value = read_length value
one_more (Given n) value = Bad
one_more Bad value = Bad

abbrev pub with_length : Framing → List ℕ → Framing
with_length f value = record { coded = f.coded; length = one_more f.length value }

-- with a field more
abbrev pub framed : Framing → Pair → Framing
framed f p =
    if same_name p.0 (codes "transfer-encoding") then record { coded = true; length = f.length }
    else (if same_name p.0 (codes "content-length") then with_length f p.1 else f)

abbrev pub plain : Framing
plain = record { coded = false; length = Absent }

-- with all these fields
abbrev pub framed_by : Framing → List Pair → Framing
framed_by f [] = f
framed_by f (p ∷ ps) = framed_by (framed f p) ps
