-- No line feed stands in the text of a value, and no byte below the digits in a number.
use Rattle.json.specs.Print.{escape, escape_byte, quoted}
use Rattle.json.proofs.Printed.Strings.{escape_byte_plain}
use Rattle.std.proofs.Common.{arith, ◌≡◌, ℕ, zero, suc, ◌<◌, ◌≤◌, ◌==◌, ◌/◌, ◌%◌, ◌+◌, ℤ, pos, negsuc, Bool, true, false, List, [], ◌∷◌, ◌++◌, Option, None, Some, refl, ap, ◌∙◌, inl, inr}
use Rattle.std.specs.Prelude.{◌&&◌, if◌then◌else◌, nat_lt}
use Rattle.std.specs.Fmt.{decimal, digit_glyph, digits, digits_onto}
use Rattle.std.proofs.lemmas.Bool.{Decides.nat_tests, and_parts, cases_eq, cases_lt}
use Rattle.std.specs.Option.{is_none}
use Rattle.serde_json.specs.Written.{comma_if, items_text, members_text, number_text}
use Rattle.beldi_value.specs.ByteCut.{after}
use Rattle.beldi_value.specs.Datum.{Datum, Datums, Fields, boolean, field, fields, int, item, list, no_fields, no_items, null, text}
use Rattle.beldi_value.specs.Json.{json_fields, json_items, number_of, text_of}
use Rattle.beldi_script.proofs.Parted.{none_after}

-- no line feed stands in the escapes of the bytes below n
abbrev escapes_below : ℕ → Bool
escapes_below zero = true
escapes_below (suc n) = is_none (after 10 (escape_byte n)) && escapes_below n

none_there : (o : Option (List ℕ)) → is_none o ≡ true → o ≡ None
none_there None e = refl
none_there (Some x) e = cc

escape_below : (n : ℕ) → escapes_below n ≡ true → (x : ℕ) → x < n → after 10 (escape_byte x) ≡ None
escape_below zero e x h = absurd (omega arith)
escape_below (suc n) e x h =
    let p = and_parts _ _ e in
    elim (cases_eq x n) [ inl same ↦ rw same (none_there _ p.0) | inr other ↦ escape_below n p.1 x (omega arith) ]

all_flat : escapes_below 128 ≡ true
unfolding escape_byte
all_flat = refl

high_byte : (x : ℕ) → 128 ≤ x → (x == 10) ≡ false
high_byte x h = grind (arith, nat_tests)

escaped : (x : ℕ) → after 10 (escape_byte x) ≡ None
escaped x = elim (cases_lt x 128) [
  | inl small ↦ escape_below 128 all_flat x small
  | inr big ↦ ap (after 10) (escape_byte_plain x (λ e. omega arith) (λ e. omega arith) (omega arith)) ∙ ap (λ t. if t then Some [] else None) (high_byte x big)
]

string_flat : (s : List ℕ) → after 10 (escape s) ≡ None
string_flat [] = refl
string_flat (b ∷ bs) = none_after 10 (escape_byte b) (escape bs) (escaped b) (string_flat bs)

pub quoted_flat : (s : List ℕ) → after 10 (quoted s) ≡ None
quoted_flat s = none_after 10 (escape s) (34 ∷ []) (string_flat s) refl

-- ---- a byte below the digits stands in no number
digit_other : (m d : ℕ) → m < 48 → nat_lt (d % 10) 10 ≡ true → (48 + d % 10 == m) ≡ false
digit_other m d h e = grind (arith, nat_tests)

is_digit : (d : ℕ) → nat_lt (d % 10) 10 ≡ true
is_digit d = grind (arith, nat_tests)

glyph_onto : (m d : ℕ) (acc : List ℕ) → m < 48 → after m acc ≡ None → after m (digit_glyph false (d % 10) ∷ acc) ≡ None
glyph_onto m d acc h clear =
    ap (λ b. after m ((if b then 48 + d % 10 else 87 + d % 10) ∷ acc)) (is_digit d) ∙ ap (λ b. if b then Some acc else after m acc) (digit_other m d h (is_digit d)) ∙ clear

digits_clear : (m k n : ℕ) (acc : List ℕ) → m < 48 → after m acc ≡ None → after m (digits_onto k 10 false n acc) ≡ None
digits_clear m zero n acc h clear = clear
digits_clear m (suc k) n acc h clear = elim (n / 10 == 0) as (λ b. after m (if b then digit_glyph false (n % 10) ∷ acc else digits_onto k 10 false (n / 10) (digit_glyph false (n % 10) ∷ acc)) ≡ None) [
  | true ↦ glyph_onto m n acc h clear
  | false ↦ digits_clear m k (n / 10) (digit_glyph false (n % 10) ∷ acc) h (glyph_onto m n acc h clear)
]

pub decimal_clear : (m n : ℕ) → m < 48 → after m (decimal n) ≡ None
unfolding digits
decimal_clear m n h = digits_clear m 64 n [] h refl

-- ---- no line feed stands in the text of a value
number_flat : (z : ℤ) → after 10 (number_text (number_of z)) ≡ None
number_flat (pos n) = decimal_clear 10 n (omega arith)
number_flat (negsuc n) = decimal_clear 10 (suc n) (omega arith)

comma_flat : (later : Bool) → after 10 (comma_if later) ≡ None
comma_flat true = refl
comma_flat false = refl

mutual
  pub text_flat : (d : Datum) → after 10 (text_of d) ≡ None
  text_flat null = refl
  text_flat (boolean true) = refl
  text_flat (boolean false) = refl
  text_flat (int z) = number_flat z
  text_flat (text s) = quoted_flat s
  text_flat (list ds) = items_flat false ds
  text_flat (fields fs) = fields_flat false fs

  items_flat : (later : Bool) (ds : Datums) → after 10 (items_text later (json_items ds)) ≡ None
  items_flat later no_items = refl
  items_flat later (item d ds) =
      none_after 10 (comma_if later) (text_of d ++ items_text true (json_items ds)) (comma_flat later) (none_after 10 (text_of d) (items_text true (json_items ds)) (text_flat d) (items_flat true ds))

  fields_flat : (later : Bool) (fs : Fields) → after 10 (members_text later (json_fields fs)) ≡ None
  fields_flat later no_fields = refl
  fields_flat later (field k d fs) =
      let rest = text_of d ++ members_text true (json_fields fs) in
      none_after 10 (comma_if later) (quoted k ++ 58 ∷ rest) (comma_flat later)
      (none_after 10 (quoted k) (58 ∷ rest) (quoted_flat k) (none_after 10 (text_of d) (members_text true (json_fields fs)) (text_flat d) (fields_flat true fs)))
