-- The items of a list and the steps of a chain, evaluated one after another.
use Rattle.beldi_tree.specs.Evaluate.{Bindings}
use Rattle.beldi_tree.proofs.Names.{Code, Datum, Err, EvalErr, Expr, Fault, IsFault, List, Ok, OutOfMemory, Result, Step, Term, Text, Value, [], and_then, ap, applied, arith, both, chained, compared, datum_of, either, element_of, ended, field_of, first_falls, get_or, items_view, length, length_of, limited, members_size, members_view, negated, on_three, on_two, operate, opposite, pushed, refl, stepped, subst, suc, sym, term_of, term_size, term_value, terms_size, text_of, value_at, with_field, ℕ, ◌++◌, ◌+◌, ◌<◌, ◌>>=◌, ◌∙◌, ◌∷◌, ◌≡◌, ◌≤◌}
use Rattle.beldi_tree.proofs.Names.Nat

-- items before those that are evaluated
abbrev pub onto : List Datum → Result (List Datum) Code → Result (List Datum) Code
onto ds r = and_then r (λ es. Ok (ds ++ es))

-- ---- a part is smaller
pub item_falls : (es : List Expr) (i : ℕ) (e : Expr) → i < length es → e ≡ get_or es i e → term_size (term_of e) < terms_size (items_view es)
item_falls [] i e h is = absurd (omega arith)
item_falls (x ∷ es) Nat.zero e h is = let same : term_size (term_of e) ≡ term_size (term_of x) = ap (λ y. term_size (term_of y)) is in omega arith
item_falls (x ∷ es) (suc i) e h is = omega (arith, item_falls es i e (omega arith) is)

pub member_falls : (ms : List (List ℕ × Expr)) (i : ℕ) (m : List ℕ × Expr) → i < length ms → m ≡ get_or ms i m → term_size (term_of m.1) < members_size (members_view ms)
member_falls [] i m h is = absurd (omega arith)
member_falls (x ∷ ms) Nat.zero m h is = let same : term_size (term_of m.1) ≡ term_size (term_of x.1) = ap (λ y. term_size (term_of y.1)) is in omega arith
member_falls (x ∷ ms) (suc i) m h is = omega (arith, member_falls ms i m (omega arith) is)

-- the same of items that were looked through, in a list that is seen as these terms
pub evaluated_falls : (gs es : List Expr) (ts : List Term) (i : ℕ) (e : Expr) → gs ≡ es → items_view es ≡ ts → i < length gs → e ≡ get_or gs i e → term_size (term_of e) < terms_size ts
evaluated_falls gs es ts i e p q h is = subst (λ us. term_size (term_of e) < terms_size us) (ap items_view p ∙ q) (item_falls gs i e h is)

pub evaluated_member_falls : (gs ms : List (List ℕ × Expr)) (ts : List (List ℕ × Term)) (i : ℕ) (m : List ℕ × Expr) → gs ≡ ms → members_view ms ≡ ts → i < length gs → m ≡ get_or gs i m → term_size (term_of m.1) < members_size ts
evaluated_member_falls gs ms ts i m p q h is = subst (λ us. term_size (term_of m.1) < members_size us) (ap members_view p ∙ q) (member_falls gs i m h is)

-- ---- the steps of a chain

-- how large the parts of a step are
abbrev pub step_size : Step → ℕ
step_size (Step.Or e) = term_size (term_of e)
step_size (Step.And e) = term_size (term_of e)
step_size Step.Not = 0
step_size Step.Negate = 0
step_size (Step.Compare r e) = term_size (term_of e)
step_size (Step.Binary o e) = term_size (term_of e)
step_size (Step.Field s) = 0
step_size (Step.Element e) = term_size (term_of e)
step_size Step.Len = 0
step_size Step.TextOf = 0
step_size (Step.Push e) = term_size (term_of e)
step_size (Step.With e f) = term_size (term_of e) + term_size (term_of f)

pub applied_size : (t : Term) (s : Step) → term_size t + step_size s + 2 ≤ term_size (applied t s)
applied_size t (Step.Or e) = omega arith
applied_size t (Step.And e) = omega arith
applied_size t Step.Not = omega arith
applied_size t Step.Negate = omega arith
applied_size t (Step.Compare r e) = omega arith
applied_size t (Step.Binary o e) = omega arith
applied_size t (Step.Field s) = omega arith
applied_size t (Step.Element e) = omega arith
applied_size t Step.Len = omega arith
applied_size t Step.TextOf = omega arith
applied_size t (Step.Push e) = omega arith
applied_size t (Step.With e f) = omega arith

pub more_size : (t : Term) (ss : List Step) (i : ℕ) (s : Step) → i < length ss → s ≡ get_or ss i s → term_size t + step_size s + 2 ≤ term_size (chained t ss)
more_size t [] i s h is = absurd (omega arith)
more_size t (x ∷ ss) Nat.zero s h is = let same : step_size s ≡ step_size x = ap step_size is in omega (arith, applied_size t x, first_falls (applied t x) ss)
more_size t (x ∷ ss) (suc i) s h is = omega (arith, applied_size t x, more_size (applied t x) ss i s (omega arith) is)

-- what begins with a value goes on from it
from_value : (f : Result Value Code → Result Value Code) (g : Value → Result Value Code) → ((v : Value) → f (Ok v) ≡ g v) → ((c : Code) → f (Err c) ≡ Err c) → (r : Result Value Code) → f r ≡ and_then r g
from_value f g h k (Ok v) = h v
from_value f g h k (Err c) = k c

-- a step goes on from the value before it
one_step : (vs : Bindings) (t : Term) (s : Step) → term_value vs (applied t s) ≡ and_then (term_value vs t) (λ v. stepped vs v s)
one_step vs t (Step.Or e) = from_value (λ r. (either r (value_at vs e)) >>= limited) (λ v. stepped vs v (Step.Or e)) (λ v. refl) (λ c. refl) (term_value vs t)
one_step vs t (Step.And e) = from_value (λ r. (both r (value_at vs e)) >>= limited) (λ v. stepped vs v (Step.And e)) (λ v. refl) (λ c. refl) (term_value vs t)
one_step vs t Step.Not = from_value (λ r. (r >>= opposite) >>= limited) (λ v. stepped vs v Step.Not) (λ v. refl) (λ c. refl) (term_value vs t)
one_step vs t Step.Negate = from_value (λ r. (r >>= negated) >>= limited) (λ v. stepped vs v Step.Negate) (λ v. refl) (λ c. refl) (term_value vs t)
one_step vs t (Step.Compare q e) = from_value (λ r. (on_two (compared q) r (value_at vs e)) >>= limited) (λ v. stepped vs v (Step.Compare q e)) (λ v. refl) (λ c. refl) (term_value vs t)
one_step vs t (Step.Binary o e) = from_value (λ r. (on_two (operate o) r (value_at vs e)) >>= limited) (λ v. stepped vs v (Step.Binary o e)) (λ v. refl) (λ c. refl) (term_value vs t)
one_step vs t (Step.Field key) = from_value (λ r. (r >>= field_of key) >>= limited) (λ v. stepped vs v (Step.Field key)) (λ v. refl) (λ c. refl) (term_value vs t)
one_step vs t (Step.Element e) = from_value (λ r. (on_two element_of r (value_at vs e)) >>= limited) (λ v. stepped vs v (Step.Element e)) (λ v. refl) (λ c. refl) (term_value vs t)
one_step vs t Step.Len = from_value (λ r. (r >>= length_of) >>= limited) (λ v. stepped vs v Step.Len) (λ v. refl) (λ c. refl) (term_value vs t)
one_step vs t Step.TextOf = from_value (λ r. (r >>= λ x. Ok (Text (text_of (datum_of x)))) >>= limited) (λ v. stepped vs v Step.TextOf) (λ v. refl) (λ c. refl) (term_value vs t)
one_step vs t (Step.Push e) = from_value (λ r. (on_two pushed r (value_at vs e)) >>= limited) (λ v. stepped vs v (Step.Push e)) (λ v. refl) (λ c. refl) (term_value vs t)
one_step vs t (Step.With e f) = from_value (λ r. (on_three with_field r (value_at vs e) (value_at vs f)) >>= limited) (λ v. stepped vs v (Step.With e f)) (λ v. refl) (λ c. refl) (term_value vs t)

all_steps : (vs : Bindings) (t : Term) (ss : List Step) → and_then (term_value vs t) (λ v. ended vs v ss) ≡ term_value vs (chained t ss)
all_steps vs t [] = sym (from_value (λ r. r) Ok (λ v. refl) (λ c. refl) (term_value vs t))
all_steps vs t (s ∷ ss) =
    sym (from_value (λ r. and_then (and_then r (λ v. stepped vs v s)) (λ w. ended vs w ss)) (λ v. ended vs v (s ∷ ss)) (λ v. refl) (λ c. refl) (term_value vs t))
    ∙ ap (λ r. and_then r (λ w. ended vs w ss)) (sym (one_step vs t s)) ∙ all_steps vs (applied t s) ss

-- a chain that was looked through: its parts, as they were found, and what it stands for
module _ (vs : Bindings) (e : Expr) (s : Step) (ss : List Step) (c : Term) (is : chained (applied (term_of e) s) ss ≡ c) where
  whole : and_then (value_at vs e) (λ v. ended vs v (s ∷ ss)) ≡ term_value vs c
  whole = all_steps vs (term_of e) (s ∷ ss) ∙ ap (term_value vs) is

  pub first_fits : (f : Expr) → f ≡ e → term_size (term_of f) + 2 ≤ term_size c
  first_fits f same = subst (λ g. term_size (term_of g) + 2 ≤ term_size c) (sym same) (subst (λ d. term_size (term_of e) + 2 ≤ term_size d) is (omega (arith, applied_size (term_of e) s, first_falls (applied (term_of e) s) ss)))

  pub next_fits : (u : Step) → u ≡ s → step_size u + 2 ≤ term_size c
  next_fits u same = subst (λ g. step_size g + 2 ≤ term_size c) (sym same) (subst (λ d. step_size s + 2 ≤ term_size d) is (omega (arith, applied_size (term_of e) s, first_falls (applied (term_of e) s) ss)))

  pub more_fits : (us : List Step) (i : ℕ) (u : Step) → us ≡ ss → i < length us → u ≡ get_or us i u → step_size u + 2 ≤ term_size c
  more_fits us i u same h found = subst (λ d. step_size u + 2 ≤ term_size d) (ap (chained (applied (term_of e) s)) same ∙ is) (omega (arith, more_size (applied (term_of e) s) us i u h found))

  pub first_fault : (f : Expr) (why : EvalErr) → f ≡ e → IsFault (value_at vs f) why → IsFault (term_value vs c) why
  first_fault f OutOfMemory same h = tt
  first_fault f (Fault k) same h = sym whole ∙ ap (λ g. and_then (value_at vs g) (λ v. ended vs v (s ∷ ss))) (sym same) ∙ ap (λ r. and_then r (λ v. ended vs v (s ∷ ss))) h

  from_first : (f : Expr) (v : Value) → f ≡ e → value_at vs f ≡ Ok v → ended vs v (s ∷ ss) ≡ term_value vs c
  from_first f v same h = ap (λ r. and_then r (λ w. ended vs w (s ∷ ss))) (sym h) ∙ ap (λ g. and_then (value_at vs g) (λ w. ended vs w (s ∷ ss))) same ∙ whole

  pub next_fault : (f : Expr) (v : Value) (u : Step) (why : EvalErr) → f ≡ e → value_at vs f ≡ Ok v → u ≡ s → IsFault (stepped vs v u) why → IsFault (term_value vs c) why
  next_fault f v u OutOfMemory same there next h = tt
  next_fault f v u (Fault k) same there next h = sym (from_first f v same there) ∙ ap (λ w. and_then (stepped vs v w) (λ x. ended vs x ss)) (sym next) ∙ ap (λ r. and_then r (λ x. ended vs x ss)) h

  pub chain_begins : (f : Expr) (v w : Value) (u : Step) (us : List Step) → f ≡ e → value_at vs f ≡ Ok v → u ≡ s → stepped vs v u ≡ Ok w → us ≡ ss → ended vs w us ≡ term_value vs c
  chain_begins f v w u us same there next h more =
      ap (ended vs w) more ∙ ap (λ r. and_then r (λ x. ended vs x ss)) (sym h) ∙ ap (λ g. and_then (stepped vs v g) (λ x. ended vs x ss)) next ∙ from_first f v same there

pub chained_more : (t : Term) (ss : List Step) (s : Step) → chained t (ss ++ s ∷ []) ≡ applied (chained t ss) s
chained_more t [] s = refl
chained_more t (x ∷ ss) s = chained_more (applied t x) ss s
