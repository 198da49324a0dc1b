-- Ids of callees.
use Rattle.beldi_value.proofs.Names.{IntentId, List, [], ap, child_of, false, has_no_hops, refl, ℕ, ◌++◌, ◌∷◌, ◌≡◌}

last_same : (xs ys : List ℕ) (m n : ℕ) → xs ++ m ∷ [] ≡ ys ++ n ∷ [] → (xs ≡ ys) × (m ≡ n)
last_same [] [] m n h = (refl, cc)
last_same [] (y ∷ []) m n h = cc
last_same [] (y ∷ z ∷ ys) m n h = cc
last_same (x ∷ []) [] m n h = cc
last_same (x ∷ z ∷ xs) [] m n h = cc
last_same (x ∷ xs) (y ∷ ys) m n h =
    let rest : xs ++ m ∷ [] ≡ ys ++ n ∷ [] = cc in
    let first : x ≡ y = cc in
    let r = last_same xs ys m n rest in (λ i. first i ∷ r.0 i, r.1)

-- what is called at two places is two callees
pub child_same : (a b : IntentId) (m n : ℕ) → child_of a m ≡ child_of b n → (a ≡ b) × (m ≡ n)
child_same a b m n h =
    let r = last_same a.hops b.hops m n (ap (λ (z : IntentId). z.hops) h) in
    ((λ i. record { ticket = ap (λ (z : IntentId). z.ticket) h i; hops = r.0 i }), r.1)

-- a callee is no root
pub no_root : (a : IntentId) (n : ℕ) → has_no_hops (child_of a n).hops ≡ false
no_root a n = by_hops a.hops
  where
    by_hops : (xs : List ℕ) → has_no_hops (xs ++ n ∷ []) ≡ false
    by_hops [] = refl
    by_hops (x ∷ xs) = refl
