-- No line feed stands in the text of a value.
use Rattle.json.specs.Print.{escape_byte}
use Rattle.beldi_book.proofs.Names.{AreFormed, Bool, Datum, Datums, Fields, HaveForm, IsFormed, List, None, Option, Some, [], after, and_parts, ap, arith, boolean, cases_eq, cases_lt, comma_if, escape, escape_byte_plain, false, field, fields, inl, inr, int, is_none, item, items_text, json_fields, json_items, list, mag, members_text, nat_tests, negsuc, no_fields, no_items, null, number_of, number_text, pos, quoted, refl, suc, text, text_of, true, zero, ℕ, ℤ, ◌&&◌, ◌++◌, ◌<◌, ◌==◌, ◌^◌, ◌∙◌, ◌∷◌, ◌≡◌, ◌≤◌}
use Rattle.beldi_book.proofs.Cuts.{none_after, other_byte, number_clear}

flat : List ℕ → Type 0
flat w = after 10 w ≡ None

-- no line feed stands in the escapes of the bytes below n
abbrev escapes_below : ℕ → Bool
escapes_below zero = true
escapes_below (suc n) = is_none (after 10 (escape_byte n)) && escapes_below n

none_there : (o : Option (List ℕ)) → is_none o ≡ true → o ≡ None
none_there None e = refl
none_there (Some x) e = cc

escape_below : (n : ℕ) → escapes_below n ≡ true → (x : ℕ) → x < n → after 10 (escape_byte x) ≡ None
escape_below zero e x h = absurd (omega arith)
escape_below (suc n) e x h =
    let p = and_parts _ _ e in
    elim (cases_eq x n) [ inl same ↦ rw same (none_there _ p.0) | inr other ↦ escape_below n p.1 x (omega arith) ]

all_flat : escapes_below 128 ≡ true
unfolding escape_byte
all_flat = refl

high_byte : (x : ℕ) → 128 ≤ x → (x == 10) ≡ false
high_byte x h = grind (arith, nat_tests)

escaped : (x : ℕ) → after 10 (escape_byte x) ≡ None
escaped x = elim (cases_lt x 128) [
  | inl small ↦ escape_below 128 all_flat x small
  | inr big ↦ ap (after 10) (escape_byte_plain x (λ e. omega arith) (λ e. omega arith) (omega arith)) ∙ other_byte 10 x [] (high_byte x big) refl
]

string_flat : (s : List ℕ) → after 10 (escape s) ≡ None
string_flat [] = refl
string_flat (b ∷ bs) = none_after 10 (escape_byte b) (escape bs) (escaped b) (string_flat bs)

quoted_flat : (s : List ℕ) → after 10 (quoted s) ≡ None
quoted_flat s = none_after 10 (escape s) (34 ∷ []) (string_flat s) refl

number_flat : (z : ℤ) → mag z < 2 ^ 63 → after 10 (number_text (number_of z)) ≡ None
number_flat (pos n) h = number_clear 10 n refl (omega arith)
number_flat (negsuc n) h = number_clear 10 (suc n) refl (omega arith)

comma_flat : (later : Bool) → after 10 (comma_if later) ≡ None
comma_flat true = refl
comma_flat false = refl

mutual
  pub text_flat : (d : Datum) → IsFormed d → after 10 (text_of d) ≡ None
  text_flat null h = refl
  text_flat (boolean true) h = refl
  text_flat (boolean false) h = refl
  text_flat (int z) h = number_flat z h
  text_flat (text s) h = quoted_flat s
  text_flat (list ds) h = items_flat false ds h
  text_flat (fields fs) h = fields_flat false fs h.1

  items_flat : (later : Bool) (ds : Datums) → AreFormed ds → after 10 (items_text later (json_items ds)) ≡ None
  items_flat later no_items h = refl
  items_flat later (item d ds) h =
      none_after 10 (comma_if later) (text_of d ++ items_text true (json_items ds)) (comma_flat later) (none_after 10 (text_of d) (items_text true (json_items ds)) (text_flat d h.0) (items_flat true ds h.1))

  fields_flat : (later : Bool) (fs : Fields) → HaveForm fs → after 10 (members_text later (json_fields fs)) ≡ None
  fields_flat later no_fields h = refl
  fields_flat later (field k d fs) h =
      let rest = text_of d ++ members_text true (json_fields fs) in
      none_after 10 (comma_if later) (quoted k ++ 58 ∷ rest) (comma_flat later)
      (none_after 10 (quoted k) (58 ∷ rest) (quoted_flat k) (none_after 10 (text_of d) (members_text true (json_fields fs)) (text_flat d h.1) (fields_flat true fs h.2)))
