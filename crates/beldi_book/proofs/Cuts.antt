-- Texts that are cut at a mark, and texts in which no mark stands.
use Rattle.beldi_book.proofs.Names.{AllByRecursion, IntentId, IsId, List, None, Option, Some, [], after, all_ascii_digits, and_parts, ap, arith, before, decimal, digits_decimal, drop, eqb-true, false, hops_at, hops_text, id_at, id_from, id_text, if◌then◌else◌, is_ascii_digit, is_name, length, nat_lt, nat_tests, numeral_within, option_and_then, option_map, other_text, own, parts_of, refl, same_Some, same_text, step_at, steps_at, subst, sym, take, take-append-drop, take-append_seam, ticket_at, true, with_hops, ℕ, ◌++◌, ◌+◌, ◌-◌, ◌<◌, ◌==◌, ◌^◌, ◌∙◌, ◌∷◌, ◌≡◌, ◌≤◌}

-- ---- cut at a mark
-- a text with a mark after it, and then more
pub record Parts (m : ℕ) (w rest : List ℕ) : Type 0 where
  pub front : before m (w ++ m ∷ rest) ≡ w
  pub back : after m (w ++ m ∷ rest) ≡ Some rest

own_mark : (m : ℕ) → (m == m) ≡ true
own_mark m = grind (arith, nat_tests)

pub parts : (m : ℕ) (w rest : List ℕ) → after m w ≡ None → Parts m w rest
parts m [] rest h = record {
  front = ap (λ t. if t then [] else m ∷ before m rest) (own_mark m);
  back = ap (λ t. if t then Some rest else after m rest) (own_mark m);
}
parts m (b ∷ bs) rest h = elim (b == m) as (λ t. (b == m) ≡ t → (if t then Some bs else after m bs) ≡ None → Parts m (b ∷ bs) rest) [
  | true ↦ λ e g. absurd (cc)
  | false ↦ λ e g. let p = parts m bs rest g in record {
    front = ap (λ t. if t then [] else b ∷ before m (bs ++ m ∷ rest)) e ∙ ap (λ w. b ∷ w) p.front;
    back = ap (λ t. if t then Some (bs ++ m ∷ rest) else after m (bs ++ m ∷ rest)) e ∙ p.back;
  }
] refl h

-- a text is what stands before its first mark, the mark and what follows
pub joined : (m : ℕ) (bs r : List ℕ) → after m bs ≡ Some r → bs ≡ before m bs ++ m ∷ r
joined m [] r h = cc
joined m (b ∷ bs) r h = elim (b == m) as (λ t. (b == m) ≡ t → (if t then Some bs else after m bs) ≡ Some r → b ∷ bs ≡ (if t then [] else b ∷ before m bs) ++ m ∷ r) [
  | true ↦ λ e g. ap (λ c. c ∷ bs) (eqb-true b m e) ∙ ap (λ s. m ∷ s) (same_Some bs r g)
  | false ↦ λ e g. ap (λ s. b ∷ s) (joined m bs r g)
] refl h

-- no mark stands before the first one
pub clear_before : (m : ℕ) (bs : List ℕ) → after m (before m bs) ≡ None
clear_before m [] = refl
clear_before m (b ∷ bs) = elim (b == m) as (λ t. (b == m) ≡ t → after m (if t then [] else b ∷ before m bs) ≡ None) [
  | true ↦ λ e. refl
  | false ↦ λ e. ap (λ t. if t then Some (before m bs) else after m (before m bs)) e ∙ clear_before m bs
] refl

pub rest_shorter : (m : ℕ) (bs r : List ℕ) → after m bs ≡ Some r → length r < length bs
rest_shorter m [] r h = cc
rest_shorter m (b ∷ bs) r h = elim (b == m) as (λ t. (if t then Some bs else after m bs) ≡ Some r → length r < length (b ∷ bs)) [
  | true ↦ λ g. omega (arith, ap length (same_Some bs r g))
  | false ↦ λ g. omega (arith, rest_shorter m bs r g)
] h

-- ---- no mark
pub none_after : (m : ℕ) (v w : List ℕ) → after m v ≡ None → after m w ≡ None → after m (v ++ w) ≡ None
none_after m [] w g h = h
none_after m (b ∷ bs) w g h = elim (b == m) as (λ t. (if t then Some bs else after m bs) ≡ None → (if t then Some (bs ++ w) else after m (bs ++ w)) ≡ None) [
  | true ↦ λ e. absurd (cc)
  | false ↦ λ e. none_after m bs w e h
] g

pub other_byte : (m b : ℕ) (bs : List ℕ) → (b == m) ≡ false → after m bs ≡ None → after m (b ∷ bs) ≡ None
other_byte m b bs e h = ap (λ t. if t then Some bs else after m bs) e ∙ h

-- a mark that is neither a digit nor a slash
abbrev pub IsApart : ℕ → Type 0
IsApart m = (is_ascii_digit m ≡ false) × ((47 == m) ≡ false)

no_digit : (m b : ℕ) → is_ascii_digit m ≡ false → is_ascii_digit b ≡ true → (b == m) ≡ false
no_digit m b h e = elim (b == m) as (λ t. (b == m) ≡ t → (b == m) ≡ false) [
  | true ↦ λ g. absurd (let same = ap is_ascii_digit (eqb-true b m g) in cc)
  | false ↦ λ g. g
] refl

digits_clear : (m : ℕ) (ds : List ℕ) → is_ascii_digit m ≡ false → all_ascii_digits ds ≡ true → after m ds ≡ None
digits_clear m [] a h = refl
digits_clear m (d ∷ ds) a h = let p = and_parts (is_ascii_digit d) (all_ascii_digits ds) h in other_byte m d ds (no_digit m d a p.0) (digits_clear m ds a p.1)

pub number_clear : (m n : ℕ) → is_ascii_digit m ≡ false → n < 2 ^ 64 → after m (decimal n) ≡ None
number_clear m n a h = digits_clear m (decimal n) a (digits_decimal own n h)

hops_clear : (m : ℕ) (hs : List ℕ) → IsApart m → AllByRecursion (λ h. h < 2 ^ 32) hs → after m (hops_text hs) ≡ None
hops_clear m [] a s = refl
hops_clear m (h ∷ hs) a s = other_byte m 47 (decimal h ++ hops_text hs) a.1 (none_after m (decimal h) (hops_text hs) (number_clear m h a.0 (omega (arith, s.0))) (hops_clear m hs a s.1))

pub id_clear : (m : ℕ) (id : IntentId) → IsApart m → IsId id → after m (id_text id) ≡ None
id_clear m id a h = none_after m (decimal id.ticket) (hops_text id.hops) (number_clear m id.ticket a.0 (omega (arith, h.small))) (hops_clear m id.hops a h.steps)

-- ---- an id that was read is within its limits
small_step : (p : List ℕ) (n : ℕ) → step_at p ≡ Some n → n < 2 ^ 32
small_step p n h = let most = numeral_within (2 ^ 32 - 1) n p h in omega arith

abbrev AreSteps : ℕ → List ℕ → Type 0
AreSteps n hs = AllByRecursion (λ h. h < 2 ^ 32) hs × (length hs ≡ n)

one_step : (o : Option ℕ) (r : Option (List ℕ)) (n : ℕ) (hs : List ℕ) → ((k : ℕ) → o ≡ Some k → k < 2 ^ 32) → ((ks : List ℕ) → r ≡ Some ks → AreSteps n ks)
    → option_and_then (λ k. option_map (λ ks. k ∷ ks) r) o ≡ Some hs → AreSteps (n + 1) hs
one_step None r n hs f g h = cc
one_step (Some k) None n hs f g h = cc
one_step (Some k) (Some ks) n hs f g h = let s = g ks refl in subst (AreSteps (n + 1)) (same_Some (k ∷ ks) hs h) ((f k refl, s.0), omega (arith, s.1))

steps_small : (ps : List (List ℕ)) (hs : List ℕ) → steps_at ps ≡ Some hs → AreSteps (length ps) hs
steps_small [] hs h = subst (AreSteps 0) (same_Some [] hs h) (tt, refl)
steps_small (p ∷ ps) hs h = let s = one_step (step_at p) (steps_at ps) (length ps) hs (small_step p) (steps_small ps) h in (s.0, omega (arith, s.1))

hops_small : (ps : List (List ℕ)) (hs : List ℕ) → hops_at ps ≡ Some hs → AllByRecursion (λ h. h < 2 ^ 32) hs × (length hs ≤ 63)
hops_small ps hs h = elim (nat_lt 63 (length ps)) as (λ t. nat_lt 63 (length ps) ≡ t → (if t then None else steps_at ps) ≡ Some hs → AllByRecursion (λ h. h < 2 ^ 32) hs × (length hs ≤ 63)) [
  | true ↦ λ e g. cc
  | false ↦ λ e g. let s = steps_small ps hs g in (s.0, few (length ps) (length hs) e s.1)
] refl h
  where
    few : (n k : ℕ) → nat_lt 63 n ≡ false → k ≡ n → k ≤ 63
    few n k e s = grind (arith, nat_tests)

ticket_small : (o : Option ℕ) (t : ℕ) → ((k : ℕ) → o ≡ Some k → k < 2 ^ 32) → option_and_then (λ n. if n == 0 then None else Some n) o ≡ Some t → (0 < t) × (t < 2 ^ 32)
ticket_small None t f h = cc
ticket_small (Some n) t f h = elim (n == 0) as (λ b. (n == 0) ≡ b → (if b then None else Some n) ≡ Some t → (0 < t) × (t < 2 ^ 32)) [
  | true ↦ λ e g. cc
  | false ↦ λ e g. let same = same_Some n t g in (more n t e same, omega (arith, f n refl, same))
] refl h
  where
    more : (n t : ℕ) → (n == 0) ≡ false → n ≡ t → 0 < t
    more n t e s = grind (arith, nat_tests)

id_small : (o : Option ℕ) (r : Option (List ℕ)) (id : IntentId) → ((t : ℕ) → o ≡ Some t → (0 < t) × (t < 2 ^ 32)) → ((hs : List ℕ) → r ≡ Some hs → AllByRecursion (λ h. h < 2 ^ 32) hs × (length hs ≤ 63))
    → option_and_then (with_hops r) o ≡ Some id → IsId id
id_small None r id f g h = cc
id_small (Some t) None id f g h = cc
id_small (Some t) (Some hs) id f g h =
    let u = f t refl in
    let s = g hs refl in
    subst IsId (same_Some (record { ticket = t; hops = hs }) id h) (record { some = u.0; small = u.1; steps = s.0; few = s.1 })

id_from_small : (ps : List (List ℕ)) (id : IntentId) → id_from ps ≡ Some id → IsId id
id_from_small [] id h = cc
id_from_small (p ∷ ps) id h = id_small (ticket_at p) (hops_at ps) id (λ t. ticket_small (step_at p) t (small_step p)) (hops_small ps) h

pub id_proper : (bs : List ℕ) (id : IntentId) → id_at bs ≡ Some id → IsId id
id_proper bs id h = id_from_small (parts_of bs) id h

-- ---- texts in front
pub stripped : (p words : List ℕ) → is_name (take (length p) words) p ≡ true → words ≡ p ++ drop (length p) words
stripped p words h = sym (take-append-drop (length p) words) ∙ ap (λ f. f ++ drop (length p) words) (same_text (take (length p) words) p (sym h))

pub not_stripped : (p words rest : List ℕ) → is_name (take (length p) words) p ≡ false → words ≡ p ++ rest → ⊥
not_stripped p words rest h is = other_text (take (length p) words) p (sym h) (ap (take (length p)) is ∙ take-append_seam p rest)
