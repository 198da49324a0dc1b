-- A text cut into lines: its first line, and the text of the lines that follow; and lines that were put together.
use Rattle.std.specs.Prelude.{flat_map}
use Rattle.std.{proofs.lemmas.Option.same_Some, proofs.lemmas.Bool.Decides.nat_tests, specs.List.AllByRecursion}
use Rattle.std.proofs.Common.{◌≡◌, ℕ, suc, ◌-◌, ◌<◌, ◌==◌, Bool, true, false, ◌&&◌, List, [], ◌∷◌, ◌++◌, map, append_assoc, length, get_or, take, Some, None, refl, ap, sym, ◌∙◌, arith, if◌then◌else◌}
use Rattle.beldi_value.specs.ByteCut.{before, after}
use Rattle.beldi_script.{specs.LineCut.unreturned, specs.LineCut.ends_here, specs.LineCut.onto_first, specs.LineCut.lines_of, specs.LineCut.ended, specs.LineCut.IsLine, proofs.Parted.parts, proofs.Parted.none_after}

-- a byte before a line; the newline is next where t is true
step : (b c : ℕ) (front : List ℕ) (lines ls : List (List ℕ)) (t : Bool) → lines ≡ unreturned (if t then [] else c ∷ front) ∷ ls
    → (if b == 13 && t then lines else onto_first b lines) ≡ unreturned (b ∷ (if t then [] else c ∷ front)) ∷ ls
step b c front lines ls true e = elim (b == 13) as (λ s. (if s && true then lines else onto_first b lines) ≡ (if s then [] else b ∷ []) ∷ ls) [ true ↦ e | false ↦ ap (onto_first b) e ]
step b c front lines ls false e = elim (b == 13) as (λ s. (if s && false then lines else onto_first b lines) ≡ (b ∷ unreturned (c ∷ front)) ∷ ls) [ true ↦ ap (onto_first b) e | false ↦ ap (onto_first b) e ]

below : (b : ℕ) (bs r : List ℕ) → after 10 bs ≡ Some r → lines_of bs ≡ unreturned (before 10 bs) ∷ lines_of r
    → (if b == 13 && ends_here bs then lines_of bs else onto_first b (lines_of bs)) ≡ unreturned (b ∷ before 10 bs) ∷ lines_of r
below b [] r h e = cc
below b (c ∷ cs) r h e = step b c (before 10 cs) (lines_of (c ∷ cs)) (lines_of r) (c == 10) e

pub cut_some : (bs r : List ℕ) → after 10 bs ≡ Some r → lines_of bs ≡ unreturned (before 10 bs) ∷ lines_of r
cut_some [] r h = cc
cut_some (b ∷ bs) r h = elim (b == 10) as (λ t. (if t then Some bs else after 10 bs) ≡ Some r → (if t then [] ∷ lines_of bs else if b == 13 && ends_here bs then lines_of bs else onto_first b (lines_of bs)) ≡ unreturned (if t then [] else b ∷ before 10 bs) ∷ lines_of r) [
  | true ↦ λ g. ap (λ s. [] ∷ lines_of s) (same_Some bs r g)
  | false ↦ λ g. below b bs r g (cut_some bs r g)
] h

-- the last line has no newline
no_step : (b : ℕ) (bs : List ℕ) → after 10 bs ≡ None → (0 < length bs → lines_of bs ≡ bs ∷ []) → (if b == 13 && ends_here bs then lines_of bs else onto_first b (lines_of bs)) ≡ (b ∷ bs) ∷ []
no_step b [] h e = elim (b == 13) as (λ s. (if s && false then [] else (b ∷ []) ∷ []) ≡ (b ∷ []) ∷ []) [ true ↦ refl | false ↦ refl ]
no_step b (c ∷ cs) h e = elim (c == 10) as (λ t. (if t then Some cs else after 10 cs) ≡ None → (if b == 13 && t then lines_of (c ∷ cs) else onto_first b (lines_of (c ∷ cs))) ≡ (b ∷ c ∷ cs) ∷ []) [
  | true ↦ λ g. cc
  | false ↦ λ g. elim (b == 13) as (λ s. (if s && false then lines_of (c ∷ cs) else onto_first b (lines_of (c ∷ cs))) ≡ (b ∷ c ∷ cs) ∷ []) [ true ↦ ap (onto_first b) (e (omega arith)) | false ↦ ap (onto_first b) (e (omega arith)) ]
] h

pub cut_none : (bs : List ℕ) → after 10 bs ≡ None → 0 < length bs → lines_of bs ≡ bs ∷ []
cut_none [] h n = absurd (omega arith)
cut_none (b ∷ bs) h n = elim (b == 10) as (λ t. (if t then Some bs else after 10 bs) ≡ None → (if t then [] ∷ lines_of bs else if b == 13 && ends_here bs then lines_of bs else onto_first b (lines_of bs)) ≡ (b ∷ bs) ∷ []) [
  | true ↦ λ g. cc
  | false ↦ λ g. no_step b bs g (cut_none bs g)
] h

pub rest_shorter : (m : ℕ) (bs r : List ℕ) → after m bs ≡ Some r → length r < length bs
rest_shorter m [] r h = cc
rest_shorter m (b ∷ bs) r h = elim (b == m) as (λ t. (if t then Some bs else after m bs) ≡ Some r → length r < length (b ∷ bs)) [
  | true ↦ λ g. omega (arith, ap length (same_Some bs r g))
  | false ↦ λ g. omega (arith, rest_shorter m bs r g)
] h

-- a carriage return at the end of a line
pub returned : (bs : List ℕ) → 0 < length bs → get_or bs (length bs - 1) 0 ≡ 13 → take (length bs - 1) bs ≡ unreturned bs
returned [] n e = absurd (omega arith)
returned (b ∷ []) n e = let t : (b == 13) ≡ true = grind (arith, nat_tests) in ap (λ t. if t then [] else b ∷ []) (sym t)
returned (b ∷ c ∷ bs) n e = let one : length (b ∷ c ∷ bs) - 1 ≡ suc (length (c ∷ bs) - 1) = omega arith in
    ap (λ n. take n (b ∷ c ∷ bs)) one ∙ ap (λ r. b ∷ r) (returned (c ∷ bs) (omega arith) (sym (ap (λ n. get_or (b ∷ c ∷ bs) n 0) one) ∙ e))

pub not_returned : (bs : List ℕ) → (get_or bs (length bs - 1) 0 == 13) ≡ false → bs ≡ unreturned bs
not_returned [] e = refl
not_returned (b ∷ []) e = ap (λ t. if t then [] else b ∷ []) (sym e)
not_returned (b ∷ c ∷ bs) e = let one : length (b ∷ c ∷ bs) - 1 ≡ suc (length (c ∷ bs) - 1) = omega arith in
    ap (λ r. b ∷ r) (not_returned (c ∷ bs) (sym (ap (λ n. get_or (b ∷ c ∷ bs) n 0 == 13) one) ∙ e))

-- lines, each with its end
unreturned_end : (l : List ℕ) → unreturned (l ++ 13 ∷ []) ≡ l
unreturned_end [] = refl
unreturned_end (b ∷ []) = refl
unreturned_end (b ∷ c ∷ bs) = ap (λ r. b ∷ r) (unreturned_end (c ∷ bs))

one_cut : (l w rest : List ℕ) → after 10 w ≡ None → unreturned w ≡ l → lines_of (w ++ 10 ∷ rest) ≡ l ∷ lines_of rest
one_cut l w rest h e =
    let p = parts 10 w rest h in
    cut_some (w ++ 10 ∷ rest) rest p.back ∙ ap (λ v. unreturned v ∷ lines_of rest) p.front ∙ ap (λ v. v ∷ lines_of rest) e

first_cut : (l rest : List ℕ) (returned : Bool) → IsLine l → lines_of (ended (l, returned) ++ rest) ≡ l ∷ lines_of rest
first_cut l rest true h =
    ap lines_of (append_assoc l (13 ∷ 10 ∷ []) rest ∙ sym (append_assoc l (13 ∷ []) (10 ∷ rest))) ∙ one_cut l (l ++ 13 ∷ []) rest (none_after 10 l (13 ∷ []) h.0 refl) (unreturned_end l)
first_cut l rest false h = ap lines_of (append_assoc l (10 ∷ []) rest) ∙ one_cut l l rest h.0 h.1

pub are_cut : (lines : List (List ℕ × Bool)) → AllByRecursion (λ l. IsLine l.0) lines → lines_of (flat_map ended lines) ≡ map (λ l. l.0) lines
are_cut [] h = refl
are_cut ((l, r) ∷ ls) h = first_cut l (flat_map ended ls) r h.0 ∙ ap (λ rest. l ∷ rest) (are_cut ls h.1)
