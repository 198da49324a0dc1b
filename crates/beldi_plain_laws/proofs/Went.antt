-- The transactions of an instance, and how it went, after one answer more.
use Rattle.beldi_plain_laws.proofs.Names.{Answer, Deployment, Instance, IntentId, IsAnswer, List, Some, WentSo, [], along, answered, ap, append-nil, append_assoc, effect_after, effect_of, inl, inr, length, none_begun, refl, slice_get, subst, suc, sym, take, tx_after, tx_now, txs_after, txs_by, zero, ℕ, ◌++◌, ◌∙◌, ◌∷◌, ◌≡◌, ◌⊎◌}

pub along_pushed : {X : Type 0} (f : List Answer → Answer → X → X) (given rest : List Answer) (a : Answer) (x : X) → along f given (rest ++ a ∷ []) x ≡ f (given ++ rest) a (along f given rest x)
along_pushed f given [] a x = ap (λ ts. f ts a x) (sym (append-nil given))
along_pushed f given (b ∷ rest) a x = along_pushed f (given ++ b ∷ []) rest a (f given b x) ∙ ap (λ ts. f ts a (along f (given ++ b ∷ []) rest (f given b x))) (append_assoc given (b ∷ []) rest)

pub txs_pushed : (d : Deployment) (q : Instance) (given : List Answer) (a : Answer) → txs_after d q (given ++ a ∷ []) ≡ txs_by (length given) (effect_after d q given) (txs_after d q given)
txs_pushed d q given a = along_pushed (λ ts b s. txs_by (length ts) (effect_after d q ts) s) [] given a none_begun

-- ---- how it went
pub pushed_cases : (xs : List Answer) (a b : Answer) (n : ℕ) → slice_get (xs ++ a ∷ []) n ≡ Some b
    → ((n ≡ length xs) × (take n (xs ++ a ∷ []) ≡ xs) × (b ≡ a)) ⊎ ((take n (xs ++ a ∷ []) ≡ take n xs) × (slice_get xs n ≡ Some b))
pushed_cases [] a b zero h = inl (refl, refl, cc)
pushed_cases [] a b (suc n) h = cc
pushed_cases (c ∷ cs) a b zero h = inr (refl, h)
pushed_cases (c ∷ cs) a b (suc n) h = elim (pushed_cases cs a b n h) [
  | inl e ↦ inl (ap suc e.0, ap (λ ys. c ∷ ys) e.1, e.2)
  | inr e ↦ inr (ap (λ ys. c ∷ ys) e.0, e.1)
]

pub went_pushed : (d : Deployment) (id : IntentId) (q : Instance) (a : Answer) → IsAnswer (record { intent = id; step = length q.answers }) (tx_now d id q) (effect_of d q) a → WentSo d id q → WentSo d id (answered q a)
went_pushed d id q a is h n b g = elim (pushed_cases q.answers a b n g) [
  | inl e ↦ subst (λ (z : ℕ). IsAnswer (record { intent = id; step = z }) (tx_after d id q (take n (q.answers ++ a ∷ []))) (effect_after d q (take n (q.answers ++ a ∷ []))) b) (sym e.0)
      (subst (λ ts. IsAnswer (record { intent = id; step = length q.answers }) (tx_after d id q ts) (effect_after d q ts) b) (sym e.1) (subst (IsAnswer (record { intent = id; step = length q.answers }) (tx_now d id q) (effect_of d q)) (sym e.2) is))
  | inr e ↦ subst (λ ts. IsAnswer (record { intent = id; step = n }) (tx_after d id q ts) (effect_after d q ts) b) (sym e.0) (h n b e.1)
]
