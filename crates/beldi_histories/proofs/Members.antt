-- Whether an id is in a transaction.
use Rattle.beldi_histories.proofs.Names.{Bool, IntentId, IsIn, List, TxId, [], ap, append-nil, append_cancel_left, arith, eq-eqb, eqb-true, false, inl, inr, length, length-append, refl, sym, true, ℕ, ◌++◌, ◌<◌, ◌==◌, ◌∙◌, ◌∷◌, ◌≡◌, ◌≤◌, ◌⊎◌}
use Rattle.beldi_histories.proofs.Cases.{by_cases}

lt_or_le : (n m : ℕ) → (n < m) ⊎ (m ≤ n)
lt_or_le n m = grind arith

abbrev head_of : ℕ → List ℕ → ℕ
head_of n [] = n
head_of n (x ∷ xs) = x

abbrev tail_of : List ℕ → List ℕ
tail_of [] = []
tail_of (x ∷ xs) = xs

-- a list begins with another, or does not
begins_with : (xs ys : List ℕ) → ((zs : List ℕ) × (ys ≡ xs ++ zs)) ⊎ ((zs : List ℕ) → ys ≡ xs ++ zs → ⊥)
begins_with [] ys = inl (ys, refl)
begins_with (x ∷ xs) [] = inr (λ zs h. cc)
begins_with (x ∷ xs) (y ∷ ys) = by_test (x == y) refl (begins_with xs ys)
  where
    by_test : (b : Bool) → (x == y) ≡ b → ((zs : List ℕ) × (ys ≡ xs ++ zs)) ⊎ ((zs : List ℕ) → ys ≡ xs ++ zs → ⊥) → ((zs : List ℕ) × (y ∷ ys ≡ (x ∷ xs) ++ zs)) ⊎ ((zs : List ℕ) → y ∷ ys ≡ (x ∷ xs) ++ zs → ⊥)
    by_test true e (inl h) = inl (h.0, (λ i. sym (eqb-true x y e) i ∷ h.1 i))
    by_test true e (inr f) = inr (λ zs h. f zs (ap tail_of h))
    by_test false e r = inr (λ zs h. let c = sym e ∙ eq-eqb x y (sym (ap (head_of 0) h)) in cc)

abbrev rest_of : (t : TxId) (i : IntentId) → IsIn t i → List ℕ
rest_of t i (inl own) = []
rest_of t i (inr b) = b.step ∷ b.hops

pub in_or_out : (t : TxId) (i : IntentId) → IsIn t i ⊎ (IsIn t i → ⊥)
in_or_out t i = by_cases (i.ticket == t.intent.ticket)
    (λ e. elim (begins_with t.intent.hops i.hops) [
      | inl h ↦ by_rest (eqb-true i.ticket t.intent.ticket e) h.0 h.1
      | inr f ↦ inr (λ h. f (rest_of t i h) (hops_of h))
    ])
    (λ e. inr (λ h. let c = sym e ∙ eq-eqb i.ticket t.intent.ticket (ticket_of h) in cc))
  where
    ticket_of : IsIn t i → i.ticket ≡ t.intent.ticket
    ticket_of (inl own) = ap (λ (z : IntentId). z.ticket) own
    ticket_of (inr b) = ap (λ (z : IntentId). z.ticket) b.is

    hops_of : (h : IsIn t i) → i.hops ≡ t.intent.hops ++ rest_of t i h
    hops_of (inl own) = ap (λ (z : IntentId). z.hops) own ∙ sym (append-nil t.intent.hops)
    hops_of (inr b) = ap (λ (z : IntentId). z.hops) b.is

    by_rest : i.ticket ≡ t.intent.ticket → (zs : List ℕ) → i.hops ≡ t.intent.hops ++ zs → IsIn t i ⊎ (IsIn t i → ⊥)
    by_rest same [] h = inl (inl (λ k. record { ticket = same k; hops = (h ∙ append-nil t.intent.hops) k }))
    by_rest same (n ∷ zs) h = elim (lt_or_le t.begin n) [
      | inl lt ↦ inl (inr (record { step = n; later = lt; hops = zs; is = λ k. record { ticket = same k; hops = h k } }))
      | inr le ↦ inr (early le)
    ]
      where
        early : n ≤ t.begin → IsIn t i → ⊥
        early le (inl own) = let l = length-append t.intent.hops (n ∷ zs) in let k = ap length h in let m = ap (λ (z : IntentId). length z.hops) own in omega (arith, l, k, m)
        early le (inr b) =
            let e : n ≡ b.step = ap (head_of 0) (append_cancel_left t.intent.hops (n ∷ zs) (b.step ∷ b.hops) (sym h ∙ ap (λ (z : IntentId). z.hops) b.is)) in
            let l = b.later in
            omega (arith, le, e, l)
