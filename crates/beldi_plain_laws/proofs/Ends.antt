-- The transactions of an instance: one that is open has not ended, and an End that is answered stays.
use Rattle.beldi_plain_laws.proofs.Names.{Answer, Bool, Deployment, Effect, Instance, List, None, Option, Some, Txs, [], along, answered, ap, append-nil, append_assoc, arith, effect_after, end_of, eqb-true, false, if◌then◌else◌, is_at, length, length-append, none_begun, refl, subst, sym, true, txs_after, txs_by, ℕ, ◌++◌, ◌+◌, ◌<◌, ◌∙◌, ◌∷◌, ◌≡◌, ◌≤◌}

pub record Fits (n : ℕ) (s : Txs) : Type 0 where
  pub fresh : (b : ℕ) → n ≤ b → s.ends b ≡ None
  pub before : (b : ℕ) → s.begun ≡ Some b → b < n
  pub not_ended : (b : ℕ) → s.begun ≡ Some b → s.ends b ≡ None
  pub below : (b : ℕ) (z : ℕ × Bool) → s.ends b ≡ Some z → b < n

pub at_of : (b : ℕ) (o : Option ℕ) → is_at b o ≡ true → o ≡ Some b
at_of b None g = cc
at_of b (Some m) g = sym (ap Some (eqb-true b m g))

later : (n : ℕ) (s : Txs) → Fits n s → Fits (n + 1) s
later n s h = record { fresh = λ b g. h.fresh b (omega (arith, g)); before = λ b g. let k = h.before b g in omega (arith, k); not_ended = h.not_ended; below = λ b z g. let k = h.below b z g in omega (arith, k) }

pub fits_by : (e : Effect) (n : ℕ) (s : Txs) → Fits n s → Fits (n + 1) (txs_by n e s)
fits_by Effect.Begin n s h = record {
  fresh = λ b g. h.fresh b (omega (arith, g));
  before = λ b g. let k : n ≡ b = cc in omega (arith, k);
  not_ended = λ b g. let k : n ≡ b = cc in h.fresh b (omega (arith, k));
  below = λ b z g. let k = h.below b z g in omega (arith, k);
}
fits_by (Effect.End c) n s h = record {
  fresh = λ b g. by_test b g (is_at b s.begun) refl;
  before = λ b g. cc;
  not_ended = λ b g. cc;
  below = λ b z g. under b z (is_at b s.begun) refl g;
}
  where
    under : (b : ℕ) (z : ℕ × Bool) (t : Bool) → is_at b s.begun ≡ t → (if t then Some (n, c) else s.ends b) ≡ Some z → b < n + 1
    under b z true e g = let k = h.before b (at_of b s.begun e) in omega (arith, k)
    under b z false e g = let k = h.below b z g in omega (arith, k)

    by_test : (b : ℕ) → n + 1 ≤ b → (t : Bool) → is_at b s.begun ≡ t → (if t then Some (n, c) else s.ends b) ≡ None
    by_test b g true e = let k = h.before b (at_of b s.begun e) in absurd (omega (arith, g, k))
    by_test b g false e = h.fresh b (omega (arith, g))
fits_by e n s h = later n s h

fits_along : (d : Deployment) (q : Instance) (given rest : List Answer) (s : Txs) → Fits (length given) s → Fits (length given + length rest) (along (λ ts a s. txs_by (length ts) (effect_after d q ts) s) given rest s)
fits_along d q given [] s h = subst (λ n. Fits n s) (omega arith) h
fits_along d q given (a ∷ rest) s h =
    let l = length-append given (a ∷ []) in
    let here : Fits (length (given ++ a ∷ [])) (txs_by (length given) (effect_after d q given) s) = subst (λ n. Fits n (txs_by (length given) (effect_after d q given) s)) (sym l) (fits_by (effect_after d q given) (length given) s h) in
    subst (λ n. Fits n (along (λ ts a s. txs_by (length ts) (effect_after d q ts) s) (given ++ a ∷ []) rest (txs_by (length given) (effect_after d q given) s))) (omega (arith, l)) (fits_along d q (given ++ a ∷ []) rest (txs_by (length given) (effect_after d q given) s) here)

pub fits : (d : Deployment) (q : Instance) → Fits (length q.answers) (txs_after d q q.answers)
fits d q = subst (λ n. Fits n (txs_after d q q.answers)) (omega arith) (fits_along d q [] q.answers none_begun (record { fresh = λ b g. refl; before = λ b g. cc; not_ended = λ b g. cc; below = λ b z g. cc }))

-- ---- an End that is answered stays
pub ends_kept : (e : Effect) (n : ℕ) (s : Txs) (b : ℕ) (z : ℕ × Bool) → Fits n s → s.ends b ≡ Some z → (txs_by n e s).ends b ≡ Some z
ends_kept (Effect.End c) n s b z f h = by_test (is_at b s.begun) refl
  where
    by_test : (t : Bool) → is_at b s.begun ≡ t → (if t then Some (n, c) else s.ends b) ≡ Some z
    by_test true e = let k = sym (f.not_ended b (at_of b s.begun e)) ∙ h in cc
    by_test false e = h
ends_kept Effect.Begin n s b z f h = h
ends_kept e n s b z f h = h

pub ends_stay : (d : Deployment) (q : Instance) (given rest : List Answer) (s : Txs) (b : ℕ) (z : ℕ × Bool) → Fits (length given) s → s.ends b ≡ Some z → (along (λ ts a s. txs_by (length ts) (effect_after d q ts) s) given rest s).ends b ≡ Some z
ends_stay d q given [] s b z f h = h
ends_stay d q given (a ∷ rest) s b z f h = ends_stay d q (given ++ a ∷ []) rest (txs_by (length given) (effect_after d q given) s) b z
    (subst (λ n. Fits n (txs_by (length given) (effect_after d q given) s)) (sym (length-append given (a ∷ []))) (fits_by (effect_after d q given) (length given) s f)) (ends_kept (effect_after d q given) (length given) s b z f h)

pub along_append : {X : Type 0} (f : List Answer → Answer → X → X) (given xs ys : List Answer) (x : X) → along f given (xs ++ ys) x ≡ along f (given ++ xs) ys (along f given xs x)
along_append f given [] ys x = ap (λ ts. along f ts ys x) (sym (append-nil given))
along_append f given (a ∷ xs) ys x = along_append f (given ++ a ∷ []) xs ys (f given a x) ∙ ap (λ ts. along f ts ys (along f (given ++ a ∷ []) xs (f given a x))) (append_assoc given (a ∷ []) xs)

pub fits_at : (d : Deployment) (q : Instance) (given : List Answer) → Fits (length given) (txs_after d q given)
fits_at d q given = fits d (record q { answers = given })

pub ended_stays : (d : Deployment) (q : Instance) (given rest : List Answer) (b : ℕ) (z : ℕ × Bool) → given ++ rest ≡ q.answers → (txs_after d q given).ends b ≡ Some z → end_of d q b ≡ Some z
ended_stays d q given rest b z is h = ap (λ ts. (txs_after d q ts).ends b) (sym is) ∙ ap (λ (s : Txs). s.ends b) (along_append (λ ts a s. txs_by (length ts) (effect_after d q ts) s) [] given rest none_begun)
    ∙ ends_stay d q given rest (txs_after d q given) b z (fits_at d q given) h

-- .. and of an answer that is to come, too
pub ends_go_on : (d : Deployment) (q : Instance) (a : Answer) (b : ℕ) (z : ℕ × Bool) → end_of d q b ≡ Some z → end_of d (answered q a) b ≡ Some z
ends_go_on d q a b z h = ended_stays d (answered q a) q.answers (a ∷ []) b z refl h
