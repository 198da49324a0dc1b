-- Finite maps, a key at a time.
use Rattle.beldi_executor.proofs.Names.{Equal, FinMap, Greater, IsAntisymmetric, IsTotalOrder, Less, None, Ordering, Some, ap, cond, false, get, get-insert, get-remove, insert, is_eq, refl, remove, same_map, sym, true, ◌∙◌, ◌≡◌}

equal : (o : Ordering) → is_eq o ≡ true → o ≡ Equal
equal Less e = cc
equal Equal e = refl
equal Greater e = cc

-- keys that tie are one
pub same_key : {K : Type 0} {R : K → K → Ordering} → IsAntisymmetric R → (j k : K) → is_eq (R j k) ≡ true → j ≡ k
same_key {R = R} exact j k e = exact j k (equal (R j k) e)

module _ {K X : Type 0} {R : K → K → Ordering} (o : IsTotalOrder R) where
  -- what an insertion leaves at another key, and at its own
  pub apart : (m : FinMap R X) (k j : K) (x : X) → is_eq (R j k) ≡ false → get (insert m k x) j ≡ get m j
  apart m k j x off = get-insert o m k x j ∙ ap (λ b. cond b (Some x) (get m j)) off

  pub there : (m : FinMap R X) (k j : K) (x : X) → is_eq (R j k) ≡ true → get (insert m k x) j ≡ Some x
  there m k j x on = get-insert o m k x j ∙ ap (λ b. cond b (Some x) (get m j)) on

  -- what a removal leaves stands at another key
  pub gone : (m : FinMap R X) (k j : K) (x : X) → get (remove m k) j ≡ Some x → (is_eq (R j k) ≡ false) × (get m j ≡ Some x)
  gone m k j x h =
      elim (is_eq (R j k)) as (λ b. is_eq (R j k) ≡ b → (is_eq (R j k) ≡ false) × (get m j ≡ Some x)) [
        | true ↦ λ e. let none = sym (get-remove o m k j ∙ ap (λ b. cond b None (get m j)) e) ∙ h in cc
        | false ↦ λ e. (e, sym (get-remove o m k j ∙ ap (λ b. cond b None (get m j)) e) ∙ h)
      ] refl

  module _ (exact : IsAntisymmetric R) where
    -- what is there already, set again
    pub same_set : (m : FinMap R X) (k : K) (x : X) → get m k ≡ Some x → insert m k x ≡ m
    same_set m k x h = same_map o exact _ _ (λ j. elim (is_eq (R j k)) as (λ b. is_eq (R j k) ≡ b → get (insert m k x) j ≡ get m j) [
      | true ↦ λ e. there m k j x e ∙ sym (ap (get m) (same_key exact j k e) ∙ h)
      | false ↦ λ e. apart m k j x e
    ] refl)

    -- what is not there, removed
    pub absent_removed : (m : FinMap R X) (k : K) → get m k ≡ None → remove m k ≡ m
    absent_removed m k h = same_map o exact _ _ (λ j. get-remove o m k j ∙ elim (is_eq (R j k)) as (λ b. is_eq (R j k) ≡ b → cond b None (get m j) ≡ get m j) [
      | true ↦ λ e. sym (ap (get m) (same_key exact j k e) ∙ h)
      | false ↦ λ e. refl
    ] refl)

    -- what was not there, set and removed
    pub set_removed : (m : FinMap R X) (k : K) (x : X) → get m k ≡ None → remove (insert m k x) k ≡ m
    set_removed m k x h = same_map o exact _ _ (λ j. get-remove o (insert m k x) k j ∙ elim (is_eq (R j k)) as (λ b. is_eq (R j k) ≡ b → cond b None (get (insert m k x) j) ≡ get m j) [
      | true ↦ λ e. sym (ap (get m) (same_key exact j k e) ∙ h)
      | false ↦ λ e. apart m k j x e
    ] refl)
