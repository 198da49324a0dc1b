-- Things of which no two have one name: that it was seen, and what was found of them.
use Rattle.beldi_tree.proofs.Names.{AreApart, List, None, Option, Some, ap, arith, below_more, eqb-true, false, get_or, get_or_from_slice_get, is_name, length, not, not-false, option_eq, position, same_text, slice_get, slice_get-get_or, slice_get_within, subst, sym, true, ℕ, ◌+◌, ◌<◌, ◌==◌, ◌∙◌, ◌≡◌, ◌≤◌}

-- what stands at a place and has the name is what the name means
pub found : {A : Type 0} (name : A → List ℕ) (xs : List A) (i : ℕ) (n : List ℕ) (d : A) → AreApart name xs → i < length xs → true ≡ is_name (name (get_or xs i d)) n → Some i ≡ position (λ y. is_name (name y) n) xs
found name xs i n d apart within same =
    subst (λ m. Some i ≡ position (λ y. is_name (name y) m) xs) (same_text _ _ same)
    (sym (apart i (get_or xs i d) (slice_get-get_or xs i d within)))

-- those before this number are each the first one of its name
abbrev pub AreFirst : {A : Type 0} → (A → List ℕ) → List A → ℕ → Type 0
AreFirst {A} name xs n = (i : ℕ) → i < n → (x : A) → slice_get xs i ≡ Some x → position (λ y. is_name (name y) (name x)) xs ≡ Some i

is_place : (o : Option ℕ) (i : ℕ) → not (option_eq ◌==◌ o (Some i)) ≡ false → o ≡ Some i
is_place None i e = absurd (cc)
is_place (Some j) i e = ap Some (eqb-true j i (not-false _ e))

pub one_more : {A : Type 0} (name : A → List ℕ) (xs : List A) (n : ℕ) (x : A) (m : List ℕ) (o : Option ℕ) → x ≡ get_or xs n x → AreFirst name xs n → m ≡ name x → o ≡ position (λ y. is_name (name y) m) xs → not (option_eq ◌==◌ o (Some n)) ≡ false → AreFirst name xs (n + 1)
one_more name xs n x m o is first text at same =
    below_more _ _ first
    (λ z there. subst (λ w. position (λ y. is_name (name y) w) xs ≡ Some n) (text ∙ ap name (is ∙ get_or_from_slice_get xs n z x there)) (sym at ∙ is_place o n same))

pub all_first : {A : Type 0} (name : A → List ℕ) (xs : List A) (n : ℕ) → length xs ≤ n → AreFirst name xs n → AreApart name xs
all_first name xs n all first i x at = first i (omega (arith, slice_get_within xs i x at)) x at
