-- The first offence, from one part of the text to the next.
use Rattle.beldi_check.proofs.Names.{Bool, Call, Func, List, None, Offence, Option, Rule, Some, TooMany, [], add-one, ap, arith, blocks, double_name, drop, drop-cons, false, first_from, first_offence, first_site, first_statement, get_or, if◌then◌else◌, length, list_any, ltb-true, map, nat_lt, option_map, option_or, past_most, reaches, refl, sites_of, slice_get, subst, suc, sym, true, ℕ, ◌+◌, ◌<◌, ◌||◌, ◌∙◌, ◌∷◌, ◌≡◌, ◌≤◌}

-- where there is no first of two, there is none of either
pub neither_left : (o p : Option Offence) → option_or o p ≡ None → o ≡ None
neither_left None p e = refl
neither_left (Some x) p e = e

pub neither_right : (o p : Option Offence) → option_or o p ≡ None → p ≡ None
neither_right None p e = e
neither_right (Some x) p e = absurd (cc)

pub kept_if : {A : Type 0} (b : Bool) (o : Option A) (x : A) → (if b then o else Some x) ≡ None → (b ≡ true) × (o ≡ None)
kept_if true o x e = (refl, e)
kept_if false o x e = absurd (cc)

-- so few are there, where none stands past the most
few_from : (n : ℕ) (fs : List Func) → n ≤ 64 → past_most n fs ≡ None → n + length fs ≤ 64
few_from n [] h e = omega arith
few_from n (f ∷ fs) h e =
    let k = kept_if (nat_lt n 64) (option_or (option_map (λ t. (t.line, TooMany)) (slice_get f.tables 64)) (past_most (n + 1) fs)) (f.line, TooMany) e in
    let l : n < 64 = ltb-true n 64 k.0 in
    omega (arith, few_from (n + 1) fs (omega arith) (neither_right (option_map (λ t. (t.line, TooMany)) (slice_get f.tables 64)) (past_most (n + 1) fs) k.1))

pub few : (fs : List Func) → past_most 0 fs ≡ None → length fs ≤ 64
few fs e = omega (arith, few_from 0 fs (omega arith) e)

pub few_of_checked : (fs : List Func) → first_offence fs ≡ None → length fs ≤ 64
few_of_checked fs e = few fs (neither_left (past_most 0 fs) _ (neither_right (double_name [] fs) _ e))

pub any_of_map : {A B : Type 0} (p : B → Bool) (f : A → B) (xs : List A) → list_any p (map f xs) ≡ list_any (λ x. p (f x)) xs
any_of_map p f [] = refl
any_of_map p f (x ∷ xs) = ap (λ b. p (f x) || b) (any_of_map p f xs)

-- the functions from number n on, where the one there breaks no rule
pub next_from : (r : Rule) (fs : List Func) (n : ℕ) (f : Func) (w : Bool) → n < length fs → f ≡ get_or fs n f → w ≡ reaches Call fs (blocks fs) n → first_site r fs f w (sites_of f.body) ≡ None → first_from r fs n (drop n fs) ≡ first_statement r fs → first_from r fs (n + 1) (drop (n + 1) fs) ≡ first_statement r fs
next_from r fs n f w h is v e i =
    let d : drop n fs ≡ f ∷ drop (n + 1) fs = rw add-one (drop-cons fs n f h ∙ ap (λ g. g ∷ drop (suc n) fs) (sym is)) in
    let z : first_site r fs f (reaches Call fs (blocks fs) n) (sites_of f.body) ≡ None = subst (λ b. first_site r fs f b (sites_of f.body) ≡ None) v e in
    ap (λ o. option_or o (first_from r fs (n + 1) (drop (n + 1) fs))) (sym z) ∙ ap (first_from r fs n) (sym d) ∙ i
