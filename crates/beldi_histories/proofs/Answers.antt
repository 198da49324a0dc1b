-- Lists of answers, with one more at the end.
use Rattle.beldi_histories.proofs.Names.{Answer, List, None, Option, Some, [], ap, arith, eqb-suc-suc, eqb-suc-zero, eqb-zero-suc, false, get_after, if◌then◌else◌, length, refl, slice_get, slice_get_past, suc, sym, take, take-append_seam, true, zero, ℕ, ◌++◌, ◌==◌, ◌∙◌, ◌∷◌, ◌≡◌}

pub true_false : true ≡ false → ⊥
true_false h = cc

-- a function of the answers before a step and of the answer there, after one was put at the end
pub pushed_at : {X : Type 0} (f : List Answer → Option Answer → X) → ((ts us : List Answer) → f ts None ≡ f us None) → (xs : List Answer) (a : Answer) (n : ℕ)
    → f (take n (xs ++ a ∷ [])) (slice_get (xs ++ a ∷ []) n) ≡ (if n == length xs then f xs (Some a) else f (take n xs) (slice_get xs n))
pushed_at f none [] a zero = refl
pushed_at f none [] a (suc n) = none (take (suc n) (a ∷ [])) [] ∙ ap (λ c. if c then f [] (Some a) else f [] None) (sym (eqb-suc-zero n))
pushed_at f none (b ∷ bs) a zero = ap (λ c. if c then f (b ∷ bs) (Some a) else f [] (Some b)) (sym (eqb-zero-suc (length bs)))
pushed_at f none (b ∷ bs) a (suc n) = pushed_at (λ ts o. f (b ∷ ts) o) (λ ts us. none (b ∷ ts) (b ∷ us)) bs a n
    ∙ ap (λ c. if c then f (b ∷ bs) (Some a) else f (b ∷ take n bs) (slice_get bs n)) (sym (eqb-suc-suc n (length bs)))

-- ---- at the end, and behind a front
pub none_at_end : (xs : List Answer) → slice_get xs (length xs) ≡ None
none_at_end xs = slice_get_past xs (length xs) (omega arith)

pub take_front : (xs ys : List Answer) → take (length xs) (xs ++ ys) ≡ xs
take_front xs ys = take-append_seam xs ys

pub get_next : (xs ys : List Answer) (a : Answer) → slice_get (xs ++ a ∷ ys) (length xs) ≡ Some a
get_next xs ys a = get_after xs (a ∷ ys)
