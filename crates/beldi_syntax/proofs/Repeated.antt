-- Phrases that go on.
use Rattle.beldi_syntax.specs.{Statements.block_at, Expressions.expr_at}
use Rattle.beldi_syntax.proofs.Names.{Bool, Disjunction, Err, Level, Lexeme, List, None, Operator, Option, OutOfMemory, Read, Reads, ReadsAs, Refused, Some, SyntaxErr, Term, [], add-one, after, after_first, ap, arith, bad, braced, chain, codes, count_of, drop, false, give, go_on, got, if◌then◌else◌, is_sign, join, join_of, joined, list_any, next_is, next_suffix, no_block, no_expr, operator_at, prefixed, refl, repeated, side, stmts, suc, suffix, sym, times, true, zero, ℕ, ◌++◌, ◌+◌, ◌-◌, ◌<◌, ◌∙◌, ◌∷◌, ◌≡◌}

one_left : (n i : ℕ) → i < n → n - i ≡ suc (n - (i + 1))
one_left n i h = omega arith

-- one turn of n, after i of them
pub goes_on : {A : Type 0} (step : A → List Lexeme → Option (Read A)) (n i : ℕ) (x : A) (s : List Lexeme) (y : A) (u : List Lexeme) → i < n → step x s ≡ Some (got y u)
    → repeated (n - (i + 1)) step y u ≡ repeated (n - i) step x s
goes_on step n i x s y u h e = sym (ap (λ k. repeated k step x s) (one_left n i h) ∙ ap (λ o. go_on (repeated (n - (i + 1)) step) o x s) e)

pub ends : {A : Type 0} (step : A → List Lexeme → Option (Read A)) (n : ℕ) (x : A) (s : List Lexeme) → step x s ≡ None → repeated n step x s ≡ got x s
ends step zero x s e = refl
ends step (suc n) x s e = ap (λ o. go_on (repeated n step) o x s) e

-- one more of a list
pub pushes : {A : Type 0} (step : List A → List Lexeme → Option (Read (List A))) (n i : ℕ) (xs : List A) (s : List Lexeme) (r : Read A) (x : A) (ys : List A) (u : List Lexeme)
    → i < n → step xs s ≡ Some (after r (λ y. give (xs ++ y ∷ []))) → r ≡ got x u → ys ≡ xs ++ x ∷ []
    → repeated (n - (i + 1)) step ys u ≡ repeated (n - i) step xs s
pushes step n i xs s r x ys u h e k l = goes_on step n i xs s ys u h
    (e ∙ ap (λ q. Some (after q (λ y. give (xs ++ y ∷ [])))) k ∙ ap (λ y. Some (got y u)) (sym l))

-- where one more is refused, all is
pub errs : {A B : Type 0} (f : B → A) (step : List A → List Lexeme → Option (Read (List A))) (n i : ℕ) (xs : List A) (s : List Lexeme) (r : Read A) (why : SyntaxErr) (u : List Lexeme) (whole : Read (List A))
    → i < n → step xs s ≡ Some (after r (λ y. give (xs ++ y ∷ []))) → repeated (n - i) step xs s ≡ whole → ReadsAs {A = A} {B = B} f r (Err why) u → Reads {A = List A} whole (Err why) u
errs f step n i xs s r OutOfMemory u whole h e k l = tt
errs f step n i xs s r (Refused line what) u whole h e k l =
    sym k ∙ ap (λ m. repeated m step xs s) (one_left n i h)
    ∙ ap (λ o. go_on (repeated (n - (i + 1)) step) o xs s) e
    ∙ ap (λ q. after (after q (λ y. give (xs ++ y ∷ []))) (repeated (n - (i + 1)) step)) l

pub chain_goes_on : (level : Level) (p : List Lexeme → Read Term) (n i : ℕ) (t : Term) (s v : List Lexeme) (o : Operator) (r e : Term) (u : List Lexeme)
    → i < n → operator_at level s ≡ Some o → v ≡ after_first s → p v ≡ got r u → e ≡ joined o t r
    → repeated (n - (i + 1)) (join level p) e u ≡ repeated (n - i) (join level p) t s
chain_goes_on level p n i t s v o r e u h f g k l = goes_on (join level p) n i t s e u h
    (ap (λ q. join_of p q t s) f ∙ ap (λ q. Some (after (p q) (λ x. give (joined o t x)))) (sym g) ∙ ap (λ q. Some (after q (λ x. give (joined o t x)))) k ∙ ap (λ x. Some (got x u)) (sym l))

-- the step where the test holds
pub goes : {A : Type 0} (b : Bool) (r : Read A) (xs : List A) → b ≡ true → (if b then Some (after r (λ y. give (xs ++ y ∷ []))) else None) ≡ Some (after r (λ y. give (xs ++ y ∷ [])))
goes b r xs h = ap (λ t. if t then Some (after r (λ y. give (xs ++ y ∷ []))) else None) h

pub stays : {A : Type 0} (b : Bool) (r : Read A) (xs : List A) → b ≡ false → (if b then Some (after r (λ y. give (xs ++ y ∷ []))) else None) ≡ None
stays b r xs h = ap (λ t. if t then Some (after r (λ y. give (xs ++ y ∷ []))) else None) h

pub ungoes : {A : Type 0} (b : Bool) (r : Read A) (xs : List A) → b ≡ false → (if b then None else Some (after r (λ y. give (xs ++ y ∷ [])))) ≡ Some (after r (λ y. give (xs ++ y ∷ [])))
ungoes b r xs h = ap (λ t. if t then None else Some (after r (λ y. give (xs ++ y ∷ [])))) h

pub suffix_goes_on : (p : List Lexeme → Read Term) (n i : ℕ) (t : Term) (s : List Lexeme) (e : Term) (u : List Lexeme)
    → i < n → list_any (λ w. next_is w s) (codes "." ∷ codes "[" ∷ []) ≡ true → suffix p t s ≡ got e u
    → repeated (n - (i + 1)) (next_suffix p) e u ≡ repeated (n - i) (next_suffix p) t s
suffix_goes_on p n i t s e u h f g = goes_on (next_suffix p) n i t s e u h (ap (λ b. if b then Some (suffix p t s) else None) f ∙ ap Some g)

-- ---- levels

pub expr_one : (d i : ℕ) → d ≡ i + 1 → expr_at d ≡ chain Disjunction (side Disjunction (expr_at i))
unfolding expr_at
expr_one d i e = ap expr_at (e ∙ add-one i)

pub expr_none : (d : ℕ) → d ≡ 0 → expr_at d ≡ no_expr
unfolding expr_at
expr_none d e = ap expr_at e

pub block_one : (d i : ℕ) → d ≡ i + 1 → block_at d ≡ braced (stmts (expr_at i) (block_at i))
unfolding block_at
block_one d i e = ap block_at (e ∙ add-one i)

pub block_none : (d : ℕ) → d ≡ 0 → block_at d ≡ no_block
unfolding block_at
block_none d e = ap block_at e

-- ---- signs before something

after_give : (r : Read Term) → after r (λ x. give x) ≡ r
after_give (got x s) = refl
after_give (bad line what) = refl

after_two : (f g : Term → Term) (r : Read Term) → after (after r (λ x. give (f x))) (λ x. give (g x)) ≡ after r (λ x. give (g (f x)))
after_two f g (got x s) = refl
after_two f g (bad line what) = refl

counted : (w : List ℕ) (f : Term → Term) (p : List Lexeme → Read Term) (s : List Lexeme)
    → prefixed w f p s ≡ after (p (drop (count_of w s) s)) (λ x. give (times (count_of w s) f x))
counted w f p [] = sym (after_give (p []))
counted w f p (t ∷ ts) = elim (is_sign w t.token) as (λ b. (if b then after (prefixed w f p ts) (λ x. give (f x)) else p (t ∷ ts)) ≡ after (p (drop (if b then suc (count_of w ts) else zero) (t ∷ ts))) (λ x. give (times (if b then suc (count_of w ts) else zero) f x))) [
  | true ↦ ap (λ r. after r (λ x. give (f x))) (counted w f p ts) ∙ after_two (times (count_of w ts) f) f (p (drop (count_of w ts) ts))
  | false ↦ sym (after_give (p (t ∷ ts)))
]

-- where so many were passed over
pub signs : (w : List ℕ) (f : Term → Term) (p : List Lexeme → Read Term) (s : List Lexeme) (n : ℕ) (u : List Lexeme) → n ≡ count_of w s → u ≡ drop n s
    → prefixed w f p s ≡ after (p u) (λ x. give (times n f x))
signs w f p s n u h k = counted w f p s ∙ ap (λ m. after (p (drop m s)) (λ x. give (times m f x))) (sym h) ∙ ap (λ q. after (p q) (λ x. give (times n f x))) (sym k)

dropped : (n : ℕ) (s : List Lexeme) → after_first (drop n s) ≡ drop (suc n) s
dropped zero [] = refl
dropped zero (t ∷ ts) = refl
dropped (suc n) [] = refl
dropped (suc n) (t ∷ ts) = dropped n ts

pub after_drop : (n : ℕ) (s : List Lexeme) → after_first (drop n s) ≡ drop (n + 1) s
after_drop n s = dropped n s ∙ ap (λ k. drop k s) (sym (add-one n))

pub one_counted : (w : List ℕ) (s : List Lexeme) → next_is w s ≡ true → count_of w s ≡ suc (count_of w (after_first s))
one_counted w [] h = cc
one_counted w (t ∷ ts) h = ap (λ b. if b then suc (count_of w ts) else zero) h
