-- The lines of generated work.
use Rattle.std.specs.{List.list_all, Str.all_ascii_digits, Char.is_ascii_digit, Prelude.codes}
use Rattle.std.proofs.lemmas.{Bool.and_parts, Bool.Decides.nat_tests, Fmt.decimal_digit, Fmt.digits_decimal}
use Rattle.std.proofs.Common.{arith, ◌≡◌, ℕ, ◌<◌, ◌+◌, ◌%◌, ◌^◌, ◌==◌, ◌&&◌, ◌++◌, nat_lt, append_assoc, decimal, lt-ltb, Bool, true, false, List, [], ◌∷◌, Some, None, refl, ap, ap₂, sym, ◌∙◌, if◌then◌else◌}
use Rattle.beldi_value.specs.ByteCut.{after}
use Rattle.beldi_value.proofs.Ints.{own}
use Rattle.beldi_script.specs.LineCut.{lines_of, unreturned}
use Rattle.beldi_script.proofs.{ScriptLines.cut_some, Parted.parts}
use Rattle.beldi_generator.specs.Generated.{fate_text, front_text, transfer_text}

-- ---- a text of printed bytes, of which none is below a space, is one line
abbrev pub printed : List ℕ → Bool
printed w = list_all (λ b. nat_lt 31 b) w

unbroken : (w : List ℕ) → printed w ≡ true → after 10 w ≡ None
unbroken [] h = refl
unbroken (b ∷ bs) h =
    let p = and_parts (nat_lt 31 b) (printed bs) h in
    let other : (b == 10) ≡ false = let e = p.0 in grind (arith, nat_tests) in
    ap (λ t. if t then Some bs else after 10 bs) other ∙ unbroken bs p.1

not_returned : (b : ℕ) → nat_lt 31 b ≡ true → (b == 13) ≡ false
not_returned b h = grind (arith, nat_tests)

kept : (w : List ℕ) → printed w ≡ true → unreturned w ≡ w
kept [] h = refl
kept (b ∷ []) h = ap (λ t. if t then [] else b ∷ []) (not_returned b (and_parts (nat_lt 31 b) true h).0)
kept (b ∷ c ∷ bs) h = ap (λ r. b ∷ r) (kept (c ∷ bs) (and_parts (nat_lt 31 b) (printed (c ∷ bs)) h).1)

pub cut : (w rest : List ℕ) → printed w ≡ true → lines_of (w ++ 10 ∷ rest) ≡ w ∷ lines_of rest
cut w rest h =
    let p = parts 10 w rest (unbroken w h) in
    cut_some (w ++ 10 ∷ rest) rest p.back ∙ ap (λ v. unreturned v ∷ lines_of rest) p.front ∙ ap (λ v. v ∷ lines_of rest) (kept w h)

joined : (v w : List ℕ) → printed v ≡ true → printed w ≡ true → printed (v ++ w) ≡ true
joined [] w g h = h
joined (b ∷ bs) w g h = let p = and_parts (nat_lt 31 b) (printed bs) g in ap₂ (λ s t. s && t) p.0 (joined bs w p.1 h)

digits_printed : (ds : List ℕ) → all_ascii_digits ds ≡ true → printed ds ≡ true
digits_printed [] h = refl
digits_printed (d ∷ ds) h =
    let p = and_parts (is_ascii_digit d) (all_ascii_digits ds) h in
    let above : nat_lt 31 d ≡ true = let e = p.0 in grind (arith, nat_tests) in
    ap₂ (λ s t. s && t) above (digits_printed ds p.1)

number_printed : (n : ℕ) → n < 2 ^ 64 → printed (decimal n) ≡ true
number_printed n h = digits_printed (decimal n) (digits_decimal own n h)

-- ---- the line of a request; an account has one digit
-- what follows the amount
abbrev end_line : ℕ → List ℕ
end_line to = codes ",\"to\":\"a" ++ (48 + to) ∷ codes "\"}"

-- the arguments
abbrev pub json_line : ℕ → ℕ → ℕ → List ℕ
json_line from to amount = codes "{\"from\":\"a" ++ (48 + from) ∷ (codes "\",\"n\":" ++ (decimal amount ++ end_line to))

abbrev pub request_line : ℕ → ℕ → ℕ → ℕ → List ℕ
request_line ticket from to amount = codes "request " ++ (decimal ticket ++ (codes " bank " ++ json_line from to amount))

digit_printed : (n : ℕ) → nat_lt 31 (48 + n) ≡ true
digit_printed n = lt-ltb 31 (48 + n) (omega arith)

pub request_printed : (ticket from to amount : ℕ) → ticket < 2 ^ 64 → amount < 2 ^ 64 → printed (request_line ticket from to amount) ≡ true
request_printed ticket from to amount small few =
    let last = joined (decimal amount) (end_line to) (number_printed amount few) (ap (λ t. t && true) (digit_printed to)) in
    joined (decimal ticket) (codes " bank " ++ json_line from to amount) (number_printed ticket small) (ap₂ (λ s t. s && t) (digit_printed from) last)

three : (w s x rest : List ℕ) → ((w ++ s) ++ x) ++ rest ≡ w ++ (s ++ (x ++ rest))
three w s x rest = append_assoc (w ++ s) x rest ∙ append_assoc w s (x ++ rest)

-- the text of a transfer is two lines
pub two_lines : (ticket from to amount : ℕ) (rest : List ℕ) → from < 10 → to < 10 → transfer_text ticket from to amount ++ rest ≡ codes "ticket" ++ 10 ∷ (request_line ticket from to amount ++ 10 ∷ rest)
two_lines ticket from to amount rest f g =
    ap₂ (λ u v. (front_text ticket ++ ((codes "{\"from\":\"a" ++ (u ++ codes "\",\"n\":")) ++ (decimal amount ++ (codes ",\"to\":\"a" ++ (v ++ codes "\"}\n"))))) ++ rest) (decimal_digit from f) (decimal_digit to g)
    ∙ ap (λ r. codes "ticket\nrequest " ++ r) (
    three (decimal ticket) (codes " bank ") (codes "{\"from\":\"a" ++ (48 + from) ∷ (codes "\",\"n\":" ++ (decimal amount ++ (end_line to ++ 10 ∷ [])))) rest
    ∙ ap (λ r. decimal ticket ++ (codes " bank {\"from\":\"a" ++ (48 + from) ∷ (codes "\",\"n\":" ++ r))) (append_assoc (decimal amount) (end_line to ++ 10 ∷ []) rest ∙ sym (append_assoc (decimal amount) (end_line to) (10 ∷ rest)))
    ∙ sym (append_assoc (decimal ticket) (codes " bank " ++ json_line from to amount) (10 ∷ rest)))

-- ---- what comes of a run is one line, which is no request, tells nothing, and is for no log collector
-- with these two bytes begins none of `request`, `reply`, `rows`, `book`, `tables`, `gc` and `sweep`
abbrev pub AreOther : ℕ → ℕ → Type 0
AreOther first second = (first ≡ 114 → ⊥) × (first ≡ 98 → ⊥) × (first ≡ 103 → ⊥) × (second ≡ 97 → ⊥) × (second ≡ 119 → ⊥)

pub record IsOther (text : List ℕ) : Type 0 where
  pub first : ℕ
  pub second : ℕ
  pub bytes : List ℕ
  pub other : AreOther first second
  pub shown : printed (first ∷ second ∷ bytes) ≡ true
  pub is : (rest : List ℕ) → text ++ rest ≡ (first ∷ second ∷ bytes) ++ 10 ∷ rest

crash_line : (run : ℕ) → run < 2 ^ 64 → IsOther (codes "crash " ++ (decimal run ++ codes "\n"))
crash_line run h = record {
  first = 99;
  second = 114;
  bytes = codes "ash " ++ decimal run;
  other = (λ e. omega (arith, e), λ e. omega (arith, e), λ e. omega (arith, e), λ e. omega (arith, e), λ e. omega (arith, e));
  shown = number_printed run h;
  is = λ rest. ap (λ r. codes "crash " ++ r) (append_assoc (decimal run) (10 ∷ []) rest);
}

turn_line : (run n : ℕ) → run < 2 ^ 64 → n < 2 ^ 64 → IsOther (codes "turn " ++ (decimal run ++ (codes " " ++ (decimal n ++ codes "\n"))))
turn_line run n h g = record {
  first = 116;
  second = 117;
  bytes = codes "rn " ++ (decimal run ++ (codes " " ++ decimal n));
  other = (λ e. omega (arith, e), λ e. omega (arith, e), λ e. omega (arith, e), λ e. omega (arith, e), λ e. omega (arith, e));
  shown = joined (decimal run) (codes " " ++ decimal n) (number_printed run h) (number_printed n g);
  is = λ rest. ap (λ r. codes "turn " ++ r) (
      append_assoc (decimal run) (codes " " ++ (decimal n ++ codes "\n")) rest
      ∙ ap (λ r. decimal run ++ (codes " " ++ r)) (append_assoc (decimal n) (10 ∷ []) rest)
      ∙ sym (append_assoc (decimal run) (codes " " ++ decimal n) (10 ∷ rest)));
}

pub fate_line : (run fate : ℕ) → run < 2 ^ 64 → 1 + fate % 20 < 2 ^ 64 → IsOther (fate_text run fate)
fate_line run fate h g = elim (fate % 8 == 0) as (λ t. IsOther (if t then codes "crash " ++ (decimal run ++ codes "\n") else codes "turn " ++ (decimal run ++ (codes " " ++ (decimal (1 + fate % 20) ++ codes "\n"))))) [ true ↦ crash_line run h | false ↦ turn_line run (1 + fate % 20) h g ]
