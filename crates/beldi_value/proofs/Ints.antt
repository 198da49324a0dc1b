-- The text of a whole number of 64 bits is read as it, and no other text is.
use Rattle.beldi_value.proofs.Names.{Bool, IsNumeralModel, List, None, Option, Some, [], all_ascii_digits, ap, arith, decimal, decimal-digits_value, decimal_digit, decimal_nonempty, digit_at, digits_decimal, digits_value-decimal, eqb-true, false, first_decimal, get_or, if◌then◌else◌, int, int_at, is_numeral, is_plain, leb-true, length, mag, nat_le, nat_tests, negated, negsuc, number_at, numeral_at, numerals_by_fold, option_and_then, option_map, pos, read_on, refl, rules, subst, suc, sym, text_of, true, ℕ, ℤ, ◌&&◌, ◌-◌, ◌<◌, ◌==◌, ◌^◌, ◌∙◌, ◌∷◌, ◌≡◌, ◌≤◌}
use Rattle.beldi_value.proofs.Numbers.{all_read}
use Rattle.beldi_value.proofs.Names.Nat

pub own : IsNumeralModel (λ ds. all_ascii_digits ds ≡ true) (read_on 0)
own = numerals_by_fold _ (search rules) read_on (search rules)

-- ---- from a number to its text, and back
plain_above : (bs : List ℕ) → 48 < get_or bs 0 0 → is_plain bs ≡ true
plain_above [] h = refl
plain_above (b ∷ []) h = refl
plain_above (b ∷ c ∷ bs) h = grind (arith, nat_tests)

plain_decimal : (n : ℕ) → n < 2 ^ 64 → is_plain (decimal n) ≡ true
plain_decimal Nat.zero h = rw (decimal_digit 0 (omega arith)) refl
plain_decimal (suc n) h = plain_above (decimal (suc n)) (first_decimal (suc n) (omega arith) h)

some_digit : (bs : List ℕ) → 0 < length bs → (length bs == 0) ≡ false
some_digit bs h = grind (arith, nat_tests)

pub numeral_of : (most n : ℕ) → n < 2 ^ 64 → n ≤ most → numeral_at most (decimal n) ≡ Some n
numeral_of most n h small =
    ap (λ b. if b then number_at most (decimal n) else None) (plain_decimal n h)
    ∙ sym (all_read most n (decimal n) (some_digit (decimal n) (decimal_nonempty n h)) (sym (digits_value-decimal own n h)) (sym (digits_decimal own n h)) small)

no_sign : (bs : List ℕ) → all_ascii_digits bs ≡ true → int_at bs ≡ option_map pos (numeral_at (2 ^ 63 - 1) bs)
no_sign [] h = refl
no_sign (b ∷ bs) h =
    let d = digit_at (b ∷ bs) 0 (own.to (b ∷ bs) h) (omega arith) in
    let e : (b == 45) ≡ false = grind (arith, nat_tests) in
    ap (λ c. if c then option_and_then negated (numeral_at (2 ^ 63) bs) else option_map pos (numeral_at (2 ^ 63 - 1) (b ∷ bs))) e

negative : (n : ℕ) → negated (suc n) ≡ Some (negsuc n)
negative n =
    let none : (suc n == 0) ≡ false = grind (arith, nat_tests) in
    let same : suc n - 1 ≡ n = omega arith in
    ap (λ c. if c then None else Some (negsuc (suc n - 1))) none ∙ ap (λ m. Some (negsuc m)) same

pub reads : (z : ℤ) → mag z < 2 ^ 63 → int_at (text_of (int z)) ≡ Some z
reads (pos n) h = no_sign (decimal n) (digits_decimal own n (omega arith)) ∙ ap (option_map pos) (numeral_of (2 ^ 63 - 1) n (omega arith) (omega arith))
reads (negsuc n) h =
    ap (option_and_then negated) (numeral_of (2 ^ 63) (suc n) (omega arith) (omega arith)) ∙ negative n

-- ---- from a text to its number, and back
where_true : {A : Type 0} (b : Bool) (o : Option A) (x : A) → (if b then o else None) ≡ Some x → (b ≡ true) × (o ≡ Some x)
where_true true o x h = (refl, h)
where_true false o x h = cc

both_true : (a b : Bool) → (a && b) ≡ true → (a ≡ true) × (b ≡ true)
both_true true b h = (refl, h)
both_true false b h = cc

digits_of : (bs : List ℕ) → is_numeral bs ≡ true → (all_ascii_digits bs ≡ true) × (0 < length bs)
digits_of [] h = cc
digits_of (b ∷ bs) h = (h, omega arith)

lone_zero : (bs : List ℕ) → is_plain bs ≡ true → get_or bs 0 0 ≡ 48 → length bs ≡ 1
lone_zero [] h e = absurd (omega arith)
lone_zero (b ∷ []) h e = refl
lone_zero (b ∷ c ∷ bs) h e = absurd (let f : (b == 48) ≡ true = grind (arith, nat_tests) in cc)

pub numeral_back : (most n : ℕ) (bs : List ℕ) → most < 2 ^ 64 → numeral_at most bs ≡ Some n → decimal n ≡ bs
numeral_back most n bs h e =
    let plain = where_true (is_plain bs) (number_at most bs) n e in
    let found = where_true (is_numeral bs && nat_le (read_on 0 bs) most) (Some (read_on 0 bs)) n plain.1 in
    let tests = both_true (is_numeral bs) (nat_le (read_on 0 bs) most) found.0 in
    let digits = digits_of bs tests.0 in
    let small = leb-true (read_on 0 bs) most tests.1 in
    let same : read_on 0 bs ≡ n = cc (found.1) in
    ap decimal (sym same) ∙ decimal-digits_value own bs digits.0 digits.1 (lone_zero bs plain.0) (omega arith)

pub numeral_within : (most n : ℕ) (bs : List ℕ) → numeral_at most bs ≡ Some n → n ≤ most
numeral_within most n bs e =
    let plain = where_true (is_plain bs) (number_at most bs) n e in
    let found = where_true (is_numeral bs && nat_le (read_on 0 bs) most) (Some (read_on 0 bs)) n plain.1 in
    let tests = both_true (is_numeral bs) (nat_le (read_on 0 bs) most) found.0 in
    let same : read_on 0 bs ≡ n = cc (found.1) in
    omega (arith, leb-true (read_on 0 bs) most tests.1, same)

-- ---- a zero in front
pub zeros : (most b : ℕ) (bs : List ℕ) → number_at most (48 ∷ b ∷ bs) ≡ number_at most (b ∷ bs)
zeros most b bs = refl

negated_back : (n : ℕ) (z : ℤ) → negated n ≡ Some z → text_of (int z) ≡ 45 ∷ decimal n
negated_back Nat.zero z e = cc
negated_back (suc n) z e =
    let same : negsuc n ≡ z = cc (sym (negative n) ∙ e) in
    subst (λ y. text_of (int y) ≡ 45 ∷ decimal (suc n)) same refl

signed_back : (o : Option ℕ) (z : ℤ) (bs : List ℕ) → ((n : ℕ) → o ≡ Some n → decimal n ≡ bs) → option_and_then negated o ≡ Some z → text_of (int z) ≡ 45 ∷ bs
signed_back None z bs back e = cc
signed_back (Some n) z bs back e = negated_back n z e ∙ ap (λ ds. 45 ∷ ds) (back n refl)

unsigned_back : (o : Option ℕ) (z : ℤ) (bs : List ℕ) → ((n : ℕ) → o ≡ Some n → decimal n ≡ bs) → option_map pos o ≡ Some z → text_of (int z) ≡ bs
unsigned_back None z bs back e = cc
unsigned_back (Some n) z bs back e =
    let same : pos n ≡ z = cc (e) in
    subst (λ y. text_of (int y) ≡ bs) same (back n refl)

pub alone : (z : ℤ) (bs : List ℕ) → int_at bs ≡ Some z → text_of (int z) ≡ bs
alone z [] e = cc
alone z (b ∷ bs) e = elim (b == 45) as (λ t. (b == 45) ≡ t → (if t then option_and_then negated (numeral_at (2 ^ 63) bs) else option_map pos (numeral_at (2 ^ 63 - 1) (b ∷ bs))) ≡ Some z → text_of (int z) ≡ b ∷ bs) [
  | true ↦ λ t h. signed_back (numeral_at (2 ^ 63) bs) z bs (λ n. numeral_back (2 ^ 63) n bs (omega arith)) h ∙ ap (λ c. c ∷ bs) (sym (eqb-true b 45 t))
  | false ↦ λ t h. unsigned_back (numeral_at (2 ^ 63 - 1) (b ∷ bs)) z (b ∷ bs) (λ n. numeral_back (2 ^ 63 - 1) n (b ∷ bs) (omega arith)) h
] refl e
