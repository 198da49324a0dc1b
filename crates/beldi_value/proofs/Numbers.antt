-- A number in decimal, digit by digit.
use Rattle.beldi_value.proofs.Names.{Bool, List, None, Some, [], add-one, all_ascii_digits, ap, arith, drop, drop-cons, false, get_or, if◌then◌else◌, is_ascii_digit, is_numeral, leb-true, length, nat_le, number_at, read_on, refl, sym, true, ℕ, ◌&&◌, ◌*◌, ◌+◌, ◌-◌, ◌<◌, ◌==◌, ◌∙◌, ◌∷◌, ◌≡◌, ◌≤◌}

grows : (n : ℕ) (bs : List ℕ) → n ≤ read_on n bs
grows n [] = omega arith
grows n (b ∷ bs) = omega (arith, grows (n * 10 + (b - 48)) bs)

le_is : (m n : ℕ) → m ≤ n → nat_le m n ≡ true
le_is m n h = search arith

not_le : (m n : ℕ) → n < m → nat_le m n ≡ false
not_le m n h = elim (nat_le m n) as (λ b. nat_le m n ≡ b → nat_le m n ≡ false) [
  | true ↦ λ e. absurd (let g = leb-true m n e in omega arith)
  | false ↦ λ e. e
] refl

and_false : (b : Bool) → (b && false) ≡ false
and_false true = refl
and_false false = refl

-- the digit at i, and those after it
pub next : (bs : List ℕ) (i : ℕ) → i < length bs → drop i bs ≡ get_or bs i 0 ∷ drop (i + 1) bs
next bs i h = rw (add-one i) (drop-cons bs i 0 h)

-- a byte that is no digit
pub no_digit : (most : ℕ) (bs : List ℕ) → all_ascii_digits bs ≡ false → number_at most bs ≡ None
no_digit most [] e = refl
no_digit most (b ∷ bs) e = ap (λ c. if c && nat_le (read_on 0 (b ∷ bs)) most then Some (read_on 0 (b ∷ bs)) else None) e

-- digits that make too large a number
pub too_large : (most n : ℕ) (bs left : List ℕ) → read_on n left ≡ read_on 0 bs → most < n → number_at most bs ≡ None
too_large most n bs left e h =
    let large : most < read_on 0 bs = omega (arith, grows n left) in
    ap (λ c. if is_numeral bs && c then Some (read_on 0 bs) else None) (not_le (read_on 0 bs) most large) ∙ ap (λ c. if c then Some (read_on 0 bs) else None) (and_false (is_numeral bs))

-- digits to the end
pub all_read : (most n : ℕ) (bs : List ℕ) → (length bs == 0) ≡ false → n ≡ read_on 0 bs → true ≡ all_ascii_digits bs → n ≤ most → Some n ≡ number_at most bs
all_read most n [] some e d h = cc
all_read most n (b ∷ bs) some e d h =
    let small : read_on 0 (b ∷ bs) ≤ most = omega arith in
    ap Some e ∙ ap (λ c. if c then Some (read_on 0 (b ∷ bs)) else None) (ap (λ c. c && true) d ∙ ap (λ c. all_ascii_digits (b ∷ bs) && c) (sym (le_is (read_on 0 (b ∷ bs)) most small)))

-- one digit more
pub more_number : (n m i : ℕ) (bs : List ℕ) → i < length bs → read_on n (drop i bs) ≡ read_on 0 bs → m ≡ n * 10 + (get_or bs i 0 - 48) → read_on m (drop (i + 1) bs) ≡ read_on 0 bs
more_number n m i bs h so_far e = ap (λ k. read_on k (drop (i + 1) bs)) e ∙ sym (ap (read_on n) (next bs i h)) ∙ so_far

pub more_digits : (i : ℕ) (bs : List ℕ) → i < length bs → all_ascii_digits (drop i bs) ≡ all_ascii_digits bs → true ≡ is_ascii_digit (get_or bs i 0) → all_ascii_digits (drop (i + 1) bs) ≡ all_ascii_digits bs
more_digits i bs h so_far e = ap (λ b. b && all_ascii_digits (drop (i + 1) bs)) e ∙ sym (ap all_ascii_digits (next bs i h)) ∙ so_far

pub no_more_digits : (most i : ℕ) (bs : List ℕ) → i < length bs → all_ascii_digits (drop i bs) ≡ all_ascii_digits bs → false ≡ is_ascii_digit (get_or bs i 0) → None ≡ number_at most bs
no_more_digits most i bs h so_far e = sym (no_digit most bs (sym so_far ∙ ap all_ascii_digits (next bs i h) ∙ ap (λ b. b && all_ascii_digits (drop (i + 1) bs)) (sym e)))
