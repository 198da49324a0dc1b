-- Amounts and keys in a ledger: one that is set, one that is taken out, and what that makes of their sum.
use Rattle.beldi_plain_laws.proofs.Maps.{same_some}
use Rattle.std.proofs.Common.{List, Some, [], ap, arith, eq-eqb, eqb-true, false, if◌then◌else◌, inl, inr, refl, sym, true, ℕ, ◌+◌, ◌==◌, ◌⊎◌, ◌∙◌, ◌∷◌, ◌≡◌}
use Rattle.std.specs.Ordering.{is_eq}
use Rattle.beldi_row.{proofs.Gets.key_same, proofs.Gets.key_self, specs.Key.RowKey, specs.Key.key_cmp}
use Rattle.beldi_histories.proofs.Cases.{by_cases}
use Rattle.beldi_bound.specs.{Ends.IsIn, SettleWork.sum_of}
use Rattle.beldi_bound.proofs.Ledger.{amount, find}

abbrev pub put : ℕ → ℕ → List (ℕ × ℕ) → List (ℕ × ℕ)
put i b [] = []
put i b (x ∷ xs) = if i == x.0 then (i, b) ∷ xs else x ∷ put i b xs

abbrev pub without : RowKey → List RowKey → List RowKey
without k [] = []
without k (j ∷ js) = if is_eq (key_cmp k j) then js else j ∷ without k js

-- ---- amounts
module _ (i b : ℕ) where
  pub find_put : (a : ℕ) (xs : List (ℕ × ℕ)) → find i xs ≡ Some a → find i (put i b xs) ≡ Some b
  find_put a [] h = cc
  find_put a (x ∷ xs) h = (elim (i == x.0) as (λ t. (i == x.0) ≡ t → find i (if t then (i, b) ∷ xs else x ∷ put i b xs) ≡ Some b) [
    | true ↦ λ e. ap (λ t. if t then Some b else find i xs) (eq-eqb i i refl)
    | false ↦ λ e. ap (λ t. if t then Some x.1 else find i (put i b xs)) e ∙ find_put a xs (sym (ap (λ t. if t then Some x.1 else find i xs) e) ∙ h)
  ]) refl

  pub find_other : (j : ℕ) (xs : List (ℕ × ℕ)) → (j ≡ i → ⊥) → find j (put i b xs) ≡ find j xs
  find_other j [] apart = refl
  find_other j (x ∷ xs) apart = (elim (i == x.0) as (λ t. (i == x.0) ≡ t → find j (if t then (i, b) ∷ xs else x ∷ put i b xs) ≡ find j (x ∷ xs)) [
    | true ↦ λ e. let same : i ≡ x.0 = eqb-true i x.0 e in
        ap (λ t. if t then Some b else find j xs) (not_same j i apart) ∙ sym (ap (λ t. if t then Some x.1 else find j xs) (not_same j x.0 (λ h. apart (h ∙ sym same))))
    | false ↦ λ e. ap (λ r. if j == x.0 then Some x.1 else r) (find_other j xs apart)
  ]) refl
    where
      not_same : (m n : ℕ) → (m ≡ n → ⊥) → (m == n) ≡ false
      not_same m n h = by_cases (m == n) (λ e. absurd (h (eqb-true m n e))) (λ e. e)

  pub sum_put : (a : ℕ) (xs : List (ℕ × ℕ)) → find i xs ≡ Some a → sum_of amount (put i b xs) + a ≡ sum_of amount xs + b
  sum_put a [] h = cc
  sum_put a (x ∷ xs) h = (elim (i == x.0) as (λ t. (i == x.0) ≡ t → sum_of amount (if t then (i, b) ∷ xs else x ∷ put i b xs) + a ≡ sum_of amount (x ∷ xs) + b) [
    | true ↦ λ e. let is : x.1 ≡ a = same_some (sym (ap (λ t. if t then Some x.1 else find i xs) e) ∙ h) in omega (arith, is)
    | false ↦ λ e. let rest = sum_put a xs (sym (ap (λ t. if t then Some x.1 else find i xs) e) ∙ h) in omega (arith, rest)
  ]) refl

-- ---- keys
pub without_sum : (f : RowKey → ℕ) (k : RowKey) (ks : List RowKey) → IsIn k ks → sum_of f (without k ks) + f k ≡ sum_of f ks
without_sum f k [] h = absurd h
without_sum f k (j ∷ js) h = (elim (is_eq (key_cmp k j)) as (λ t. is_eq (key_cmp k j) ≡ t → sum_of f (if t then js else j ∷ without k js) + f k ≡ sum_of f (j ∷ js)) [
  | true ↦ λ e. let same : f k ≡ f j = ap f (key_same k j e) in omega (arith, same)
  | false ↦ λ e. by_place (without_sum f k js) e h
]) refl
  where
    by_place : (IsIn k js → sum_of f (without k js) + f k ≡ sum_of f js) → is_eq (key_cmp k j) ≡ false → (k ≡ j) ⊎ IsIn k js → sum_of f (j ∷ without k js) + f k ≡ sum_of f (j ∷ js)
    by_place go e (inl same) = let clash = sym e ∙ ap (λ z. is_eq (key_cmp z j)) same ∙ key_self j in cc
    by_place go e (inr there) = let rest = go there in omega (arith, rest)

pub in_without : (j k : RowKey) (ks : List RowKey) → IsIn j ks → (j ≡ k) ⊎ IsIn j (without k ks)
in_without j k [] h = absurd h
in_without j k (x ∷ xs) h = (elim (is_eq (key_cmp k x)) as (λ t. is_eq (key_cmp k x) ≡ t → (j ≡ k) ⊎ IsIn j (if t then xs else x ∷ without k xs)) [
  | true ↦ λ e. by_here (key_same k x e) h
  | false ↦ λ e. by_there (in_without j k xs) h
]) refl
  where
    by_here : k ≡ x → (j ≡ x) ⊎ IsIn j xs → (j ≡ k) ⊎ IsIn j xs
    by_here same (inl is) = inl (is ∙ sym same)
    by_here same (inr there) = inr there

    by_there : (IsIn j xs → (j ≡ k) ⊎ IsIn j (without k xs)) → (j ≡ x) ⊎ IsIn j xs → (j ≡ k) ⊎ IsIn j (x ∷ without k xs)
    by_there go (inl is) = inr (inl is)
    by_there go (inr there) = elim (go there) [
      | inl is ↦ inl is
      | inr here ↦ inr (inr here)
    ]

pub without_in : (j k : RowKey) (ks : List RowKey) → IsIn j (without k ks) → IsIn j ks
without_in j k [] h = h
without_in j k (x ∷ xs) h = (elim (is_eq (key_cmp k x)) as (λ t. is_eq (key_cmp k x) ≡ t → IsIn j (if t then xs else x ∷ without k xs) → IsIn j (x ∷ xs)) [
  | true ↦ λ e h. inr h
  | false ↦ λ e h. elim h [
    | inl is ↦ inl is
    | inr there ↦ inr (without_in j k xs there)
  ]
]) refl h
