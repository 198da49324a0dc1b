-- How many places pass a test, where one of them changes.
use Rattle.std.proofs.Common.{◌≡◌, ◌≢◌, ℕ, zero, suc, ◌+◌, Bool, false, List, [], ◌∷◌, map, get_or, Option, Some, None, is_some, cond, count_by, refl, sym, ap, ◌∙◌, arith}
use Rattle.std.proofs.lemmas.List.Sums.{sum_by-cons}
use Rattle.beldi_region.specs.declared.region.Slot.{Slot}
use Rattle.beldi_region.specs.Slots.{viewed, viewed_of}

-- what a place counts for
abbrev pub weight : Bool → ℕ
weight b = cond b 1 0

module _ {A : Type 0} (p : Option A → Bool) where
  more : (x : Option A) (xs : List (Option A)) → count_by p (x ∷ xs) ≡ weight (p x) + count_by p xs
  more x xs = sum_by-cons (λ o. weight (p o)) x xs

  module _ (empty : p None ≡ false) where
    none_pass : (xs : List (Option A)) → ((j : ℕ) → get_or xs j None ≡ None) → count_by p xs ≡ 0
    none_pass [] at = refl
    none_pass (x ∷ xs) at =
        let first = ap (λ o. weight (p o)) (at zero) ∙ ap weight empty in
        let rest = none_pass xs (λ j. at (suc j)) in
        omega (arith, more x xs, first, rest)

    as_many : (xs ys : List (Option A)) → ((j : ℕ) → get_or ys j None ≡ get_or xs j None) → count_by p ys ≡ count_by p xs
    as_many [] ys at = none_pass ys at
    as_many xs [] at = sym (none_pass xs (λ j. sym (at j)))
    as_many (x ∷ xs) (y ∷ ys) at =
        let rest = as_many xs ys (λ j. at (suc j)) in
        more y ys ∙ ap (λ o. weight (p o) + count_by p ys) (at zero) ∙ ap (λ n. weight (p x) + n) rest ∙ sym (more x xs)

    -- only this place may pass
    alone : (xs : List (Option A)) (k : ℕ) → ((j : ℕ) → j ≢ k → get_or xs j None ≡ None) → count_by p xs ≡ weight (p (get_or xs k None))
    alone [] k at = sym (ap weight empty)
    alone (x ∷ xs) zero at = omega (arith, more x xs, none_pass xs (λ j. at (suc j) (λ e. omega (arith, e))))
    alone (x ∷ xs) (suc k) at =
        let first = ap (λ o. weight (p o)) (at zero (λ e. omega (arith, e))) ∙ ap weight empty in
        omega (arith, more x xs, first, alone xs k (λ j n. at (suc j) (λ e. n (omega (arith, e)))))

    -- the count moves by what the place counts for
    pub one_moves : (xs ys : List (Option A)) (k : ℕ) → ((j : ℕ) → j ≢ k → get_or ys j None ≡ get_or xs j None) → count_by p ys + weight (p (get_or xs k None)) ≡ count_by p xs + weight (p (get_or ys k None))
    one_moves [] ys k at = omega (arith, ap weight empty, alone ys k at)
    one_moves xs [] k at = omega (arith, ap weight empty, alone xs k (λ j n. sym (at j n)))
    one_moves (x ∷ xs) (y ∷ ys) zero at = omega (arith, more x xs, more y ys, as_many xs ys (λ j. at (suc j) (λ e. omega (arith, e))))
    one_moves (x ∷ xs) (y ∷ ys) (suc k) at =
        let first = ap (λ o. weight (p o)) (at zero (λ e. omega (arith, e))) in
        omega (arith, more x xs, more y ys, first, one_moves xs ys k (λ j n. at (suc j) (λ e. n (omega (arith, e)))))

-- as many slots are seen as were written
pub viewed_count : {V : Type 0} (slots : List (Option (Slot V))) → count_by is_some (map viewed_of slots) ≡ count_by is_some slots
viewed_count [] = refl
viewed_count (None ∷ rest) = omega (arith, more is_some None (map viewed_of rest), viewed_count rest, more is_some None rest)
viewed_count (Some s ∷ rest) = omega (arith, more is_some (Some (viewed s)) (map viewed_of rest), viewed_count rest, more is_some (Some s) rest)
