-- An id's text is read as the id, and no other text is.
use Rattle.beldi_value.proofs.Names.{AllByRecursion, IntentId, List, None, Option, Some, [], all_ascii_digits, and_parts, ap, append-nil, arith, decimal, digits_decimal, eqb-true, false, hops_at, hops_text, id_at, id_from, id_text, if◌then◌else◌, is_ascii_digit, length, map, nat_lt, nat_tests, onto_first, option_and_then, option_map, parts_of, refl, same_Some, step_at, steps_at, suc, sym, ticket_at, true, with_hops, ℕ, ◌++◌, ◌-◌, ◌<◌, ◌==◌, ◌^◌, ◌∙◌, ◌∷◌, ◌≡◌, ◌≤◌}
use Rattle.beldi_value.proofs.{Ints.own, Ints.numeral_of, Ints.numeral_back, Slashes.parts_cut}

-- ---- from an id to its text, and back
no_slash : (b : ℕ) → is_ascii_digit b ≡ true → (b == 47) ≡ false
no_slash b h = grind (arith, nat_tests)

parts_then : (ds bs : List ℕ) → all_ascii_digits ds ≡ true → parts_of (ds ++ 47 ∷ bs) ≡ ds ∷ parts_of bs
parts_then [] bs h = refl
parts_then (d ∷ ds) bs h =
    let p = and_parts _ _ h in
    ap (λ t. if t then [] ∷ parts_of (ds ++ 47 ∷ bs) else onto_first d (parts_of (ds ++ 47 ∷ bs))) (no_slash d p.0) ∙ ap (onto_first d) (parts_then ds bs p.1)

parts_end : (ds : List ℕ) → all_ascii_digits ds ≡ true → parts_of ds ≡ ds ∷ []
parts_end [] h = refl
parts_end (d ∷ ds) h =
    let p = and_parts _ _ h in
    ap (λ t. if t then [] ∷ parts_of ds else onto_first d (parts_of ds)) (no_slash d p.0) ∙ ap (onto_first d) (parts_end ds p.1)

abbrev pub AreSteps : List ℕ → Type 0
AreSteps hs = AllByRecursion (λ h. h < 2 ^ 32) hs

digits : (n : ℕ) → n < 2 ^ 32 → all_ascii_digits (decimal n) ≡ true
digits n h = digits_decimal own n (omega arith)

text_parts : (ds hs : List ℕ) → all_ascii_digits ds ≡ true → AreSteps hs → parts_of (ds ++ hops_text hs) ≡ ds ∷ map decimal hs
text_parts ds [] h s = ap parts_of (append-nil ds) ∙ parts_end ds h
text_parts ds (n ∷ hs) h s = parts_then ds (decimal n ++ hops_text hs) h ∙ ap (λ ps. ds ∷ ps) (text_parts (decimal n) hs (digits n s.0) s.1)

step_read : (n : ℕ) → n < 2 ^ 32 → step_at (decimal n) ≡ Some n
step_read n h = numeral_of (2 ^ 32 - 1) n (omega arith) (omega arith)

steps_read : (hs : List ℕ) → AreSteps hs → steps_at (map decimal hs) ≡ Some hs
steps_read [] s = refl
steps_read (n ∷ hs) s = ap (option_and_then (λ m. option_map (λ ms. m ∷ ms) (steps_at (map decimal hs)))) (step_read n s.0) ∙ ap (option_map (λ ms. n ∷ ms)) (steps_read hs s.1)

as_many : (hs : List ℕ) → length (map decimal hs) ≡ length hs
as_many [] = refl
as_many (h ∷ hs) = ap suc (as_many hs)

hops_read : (hs : List ℕ) → AreSteps hs → length hs ≤ 63 → hops_at (map decimal hs) ≡ Some hs
hops_read hs s few =
    let fits : nat_lt 63 (length (map decimal hs)) ≡ false = grind (arith, nat_tests, as_many hs) in
    ap (λ t. if t then None else steps_at (map decimal hs)) fits ∙ steps_read hs s

ticket_read : (n : ℕ) → 0 < n → n < 2 ^ 32 → ticket_at (decimal n) ≡ Some n
ticket_read n some h =
    let other : (n == 0) ≡ false = grind (arith, nat_tests) in
    ap (option_and_then (λ m. if m == 0 then None else Some m)) (step_read n h) ∙ ap (λ t. if t then None else Some n) other

pub reads : (id : IntentId) → 0 < id.ticket → id.ticket < 2 ^ 32 → AreSteps id.hops → length id.hops ≤ 63 → id_at (id_text id) ≡ Some id
reads id some small s few =
    ap id_from (text_parts (decimal id.ticket) id.hops (digits id.ticket small) s)
    ∙ ap (option_and_then (with_hops (hops_at (map decimal id.hops)))) (ticket_read id.ticket some small) ∙ ap (λ o. with_hops o id.ticket) (hops_read id.hops s few)

-- ---- from a text to its id, and back
abbrev slashed : List (List ℕ) → List ℕ
slashed [] = []
slashed (p ∷ ps) = 47 ∷ (p ++ slashed ps)

abbrev joined : List (List ℕ) → List ℕ
joined [] = []
joined (p ∷ ps) = p ++ slashed ps

slashed_parts : (bs : List ℕ) → slashed (parts_of bs) ≡ 47 ∷ joined (parts_of bs)
slashed_parts bs = ap slashed (parts_cut bs) ∙ ap (λ ps. 47 ∷ joined ps) (sym (parts_cut bs))

joined_onto : (b : ℕ) (ps : List (List ℕ)) → joined (onto_first b ps) ≡ b ∷ joined ps
joined_onto b [] = refl
joined_onto b (p ∷ ps) = refl

joined_parts : (bs : List ℕ) → joined (parts_of bs) ≡ bs
joined_parts [] = refl
joined_parts (b ∷ bs) = elim (b == 47) as (λ t. (b == 47) ≡ t → joined (if t then [] ∷ parts_of bs else onto_first b (parts_of bs)) ≡ b ∷ bs) [
  | true ↦ λ e. slashed_parts bs ∙ ap (λ cs. 47 ∷ cs) (joined_parts bs) ∙ ap (λ c. c ∷ bs) (sym (eqb-true b 47 e))
  | false ↦ λ e. joined_onto b (parts_of bs) ∙ ap (λ cs. b ∷ cs) (joined_parts bs)
] refl

step_back : (p : List ℕ) (n : ℕ) → step_at p ≡ Some n → decimal n ≡ p
step_back p n e = numeral_back (2 ^ 32 - 1) n p (omega arith) e

-- the step that was read, and the rest
one_back : (p : List ℕ) (o : Option ℕ) (r : Option (List ℕ)) (rest hs : List ℕ) → ((n : ℕ) → o ≡ Some n → decimal n ≡ p) → ((ns : List ℕ) → r ≡ Some ns → hops_text ns ≡ rest)
    → option_and_then (λ n. option_map (λ ns. n ∷ ns) r) o ≡ Some hs → hops_text hs ≡ 47 ∷ (p ++ rest)
one_back p None r rest hs f g e = cc
one_back p (Some n) None rest hs f g e = cc
one_back p (Some n) (Some ns) rest hs f g e = ap hops_text (sym (same_Some (n ∷ ns) hs e)) ∙ ap (λ ds. 47 ∷ (ds ++ hops_text ns)) (f n refl) ∙ ap (λ ds. 47 ∷ (p ++ ds)) (g ns refl)

steps_back : (ps : List (List ℕ)) (hs : List ℕ) → steps_at ps ≡ Some hs → hops_text hs ≡ slashed ps
steps_back [] hs e = ap hops_text (sym (same_Some [] hs e))
steps_back (p ∷ ps) hs e = one_back p (step_at p) (steps_at ps) (slashed ps) hs (λ n. step_back p n) (λ ns. steps_back ps ns) e

hops_back : (ps : List (List ℕ)) (hs : List ℕ) → hops_at ps ≡ Some hs → hops_text hs ≡ slashed ps
hops_back ps hs e = elim (nat_lt 63 (length ps)) as (λ t. (if t then None else steps_at ps) ≡ Some hs → hops_text hs ≡ slashed ps) [ true ↦ λ g. cc | false ↦ λ g. steps_back ps hs g ] e

ticket_from : (p : List ℕ) (o : Option ℕ) (t : ℕ) → ((n : ℕ) → o ≡ Some n → decimal n ≡ p) → option_and_then (λ n. if n == 0 then None else Some n) o ≡ Some t → decimal t ≡ p
ticket_from p None t f e = cc
ticket_from p (Some n) t f e = elim (n == 0) as (λ b. (if b then None else Some n) ≡ Some t → decimal t ≡ p) [ true ↦ λ g. cc | false ↦ λ g. ap decimal (sym (same_Some n t g)) ∙ f n refl ] e

id_back : (p : List ℕ) (o : Option ℕ) (r : Option (List ℕ)) (rest : List ℕ) (id : IntentId) → ((t : ℕ) → o ≡ Some t → decimal t ≡ p) → ((hs : List ℕ) → r ≡ Some hs → hops_text hs ≡ rest)
    → option_and_then (with_hops r) o ≡ Some id → id_text id ≡ p ++ rest
id_back p None r rest id f g e = cc
id_back p (Some t) None rest id f g e = cc
id_back p (Some t) (Some hs) rest id f g e =
    ap id_text (sym (same_Some (record { ticket = t; hops = hs }) id e)) ∙ ap (λ ds. ds ++ hops_text hs) (f t refl) ∙ ap (λ ds. p ++ ds) (g hs refl)

parts_back : (ps : List (List ℕ)) (id : IntentId) → id_from ps ≡ Some id → id_text id ≡ joined ps
parts_back [] id e = cc
parts_back (p ∷ ps) id e = id_back p (ticket_at p) (hops_at ps) (slashed ps) id (λ t h. ticket_from p (step_at p) t (λ n. step_back p n) h) (λ hs. hops_back ps hs) e

pub alone : (id : IntentId) (bs : List ℕ) → id_at bs ≡ Some id → id_text id ≡ bs
alone id bs e = parts_back (parts_of bs) id e ∙ joined_parts bs
