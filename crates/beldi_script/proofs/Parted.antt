-- Where a text is cut that was put together around a mark.
use Rattle.std.specs.Prelude.{decimal}
use Rattle.std.{specs.Char.is_ascii_digit, specs.List.AllByRecursion, specs.Str.all_ascii_digits, proofs.lemmas.Bool.Decides.nat_tests, proofs.lemmas.Bool.and_parts, proofs.lemmas.Fmt.digits_decimal}
use Rattle.std.proofs.Common.{◌≡◌, ℕ, ◌<◌, ◌^◌, ◌==◌, true, false, not, List, [], ◌∷◌, ◌++◌, Some, None, refl, ap, ◌∙◌, arith, if◌then◌else◌}
use Rattle.beldi_value.{specs.ByteCut.before, specs.ByteCut.after, specs.ValueText.hops_text, specs.ValueText.id_text, specs.declared.id.IntentId.IntentId, proofs.Ints.own}
use Rattle.beldi_script.specs.{ScriptText.IsId, ScriptWords.has_no_space}

-- a text with a mark after it, and then more
pub record Parts (m : ℕ) (w rest : List ℕ) : Type 0 where
  pub front : before m (w ++ m ∷ rest) ≡ w
  pub back : after m (w ++ m ∷ rest) ≡ Some rest

own_mark : (m : ℕ) → (m == m) ≡ true
own_mark m = grind (arith, nat_tests)

pub parts : (m : ℕ) (w rest : List ℕ) → after m w ≡ None → Parts m w rest
parts m [] rest h = record {
  front = ap (λ t. if t then [] else m ∷ before m rest) (own_mark m);
  back = ap (λ t. if t then Some rest else after m rest) (own_mark m);
}
parts m (b ∷ bs) rest h = elim (b == m) as (λ t. (b == m) ≡ t → (if t then Some bs else after m bs) ≡ None → Parts m (b ∷ bs) rest) [
  | true ↦ λ e g. absurd (cc)
  | false ↦ λ e g. let p = parts m bs rest g in record {
    front = ap (λ t. if t then [] else b ∷ before m (bs ++ m ∷ rest)) e ∙ ap (λ w. b ∷ w) p.front;
    back = ap (λ t. if t then Some (bs ++ m ∷ rest) else after m (bs ++ m ∷ rest)) e ∙ p.back;
  }
] refl h

-- a text without a mark
pub whole : (m : ℕ) (w : List ℕ) → after m w ≡ None → before m w ≡ w
whole m [] h = refl
whole m (b ∷ bs) h = elim (b == m) as (λ t. (if t then Some bs else after m bs) ≡ None → (if t then [] else b ∷ before m bs) ≡ b ∷ bs) [
  | true ↦ λ g. absurd (cc)
  | false ↦ λ g. ap (λ w. b ∷ w) (whole m bs g)
] h

pub none_after : (m : ℕ) (v w : List ℕ) → after m v ≡ None → after m w ≡ None → after m (v ++ w) ≡ None
none_after m [] w g h = h
none_after m (b ∷ bs) w g h = elim (b == m) as (λ t. (if t then Some bs else after m bs) ≡ None → (if t then Some (bs ++ w) else after m (bs ++ w)) ≡ None) [
  | true ↦ λ e. absurd (cc)
  | false ↦ λ e. none_after m bs w e h
] g

-- no space is among the bytes
pub no_space : (w : List ℕ) → has_no_space w ≡ true → after 32 w ≡ None
no_space [] h = refl
no_space (b ∷ bs) h =
    let p = and_parts (not (b == 32)) (has_no_space bs) h in
    elim (b == 32) as (λ t. not t ≡ true → (if t then Some bs else after 32 bs) ≡ None) [ true ↦ λ e. absurd (cc) | false ↦ λ e. no_space bs p.1 ] p.0

digits_unspaced : (ds : List ℕ) → all_ascii_digits ds ≡ true → after 32 ds ≡ None
digits_unspaced [] h = refl
digits_unspaced (d ∷ ds) h =
    let p = and_parts (is_ascii_digit d) (all_ascii_digits ds) h in
    let other : (d == 32) ≡ false = grind (arith, nat_tests) in
    ap (λ t. if t then Some ds else after 32 ds) other ∙ digits_unspaced ds p.1

pub number_unspaced : (n : ℕ) → n < 2 ^ 64 → after 32 (decimal n) ≡ None
number_unspaced n h = digits_unspaced (decimal n) (digits_decimal own n h)

hops_unspaced : (hs : List ℕ) → AllByRecursion (λ h. h < 2 ^ 32) hs → after 32 (hops_text hs) ≡ None
hops_unspaced [] s = refl
hops_unspaced (h ∷ hs) s = none_after 32 (decimal h) (hops_text hs) (number_unspaced h (omega (arith, s.0))) (hops_unspaced hs s.1)

pub id_unspaced : (id : IntentId) → IsId id → after 32 (id_text id) ≡ None
id_unspaced id h = none_after 32 (decimal id.ticket) (hops_text id.hops) (number_unspaced id.ticket (omega (arith, h.small))) (hops_unspaced id.hops h.steps)
