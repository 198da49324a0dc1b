-- A lock that is ahead is that of an instance which stands at an operation inside: move by move, and whose it is not.
use Rattle.beldi_histories.proofs.Names.{Bool, Deployment, Instance, IntentId, IsPending, Histories, List, IsAheadAt, LocksAreAheadAtEnds, IsAheadIf, LockedOut, None, WellFormedHistory, Some, TxId, ap, effect_of, false, false_from_ne_true, id_cmp, id_same, if◌then◌else◌, is_eq, is_some, lock_in, none_by, subst, sym, touched, true, tx_now, ℕ, ◌∙◌, ◌≡◌}
use Rattle.beldi_histories.proofs.{FrameAt.recorded_set, Cases.by_cases}
pub use Rattle.beldi_histories.proofs.FrameAt.{none_out}
use Rattle.beldi_histories.proofs.Names.map

module _ (d : Deployment) (histories : Histories) (lock_ahead : IntentId → Bool) (h : LocksAreAheadAtEnds d histories lock_ahead) where
  -- an instance was set whose lock is ahead no more
  pub ahead_set : (after : IntentId → Bool) (id : IntentId) (s : Instance) → LockedOut lock_ahead after id → LocksAreAheadAtEnds d (map.insert histories id s) after
  ahead_set after id s out = recorded_set histories id s (λ j o. after j ≡ true → IsAheadIf d j o) (λ e. let clash = sym out.out ∙ e in cc) (λ j other e. h j (sym (out.others j other) ∙ e))

  -- its lock is taken
  pub ahead_in : (id : IntentId) (q : Instance) → map.get histories id ≡ Some q → IsAheadAt d id q → LocksAreAheadAtEnds d histories (lock_in lock_ahead id)
  ahead_in id q is stands j = by_cases (is_eq (id_cmp j id)) (λ e g. subst (λ z. IsAheadIf d z (map.get histories z)) (sym (id_same j id e)) (subst (IsAheadIf d id) (sym is) stands))
      (λ e g. h j (sym (ap (λ b. if b then true else lock_ahead j) e) ∙ g))

  pub ahead_front : (id : IntentId) (q : Instance) (s : TxId) (t : ℕ) (k : List ℕ) → IsPending d histories id q s t k → WellFormedHistory d id q → LocksAreAheadAtEnds d histories (lock_in lock_ahead id)
  ahead_front id q s t k front well_formed = ahead_in id q front.made (record { open_still = none_by q.outcome (λ o is. let clash = sym front.touch ∙ ap touched (well_formed.over o is) in cc); inside = ap is_some front.inside; operation = ap is_some front.touch })

  -- whose lock is not ahead
  module _ (id : IntentId) where
    pub unlocked_absent : map.get histories id ≡ None → lock_ahead id ≡ false
    unlocked_absent is = false_from_ne_true (lock_ahead id) (λ e. subst (IsAheadIf d id) is (h id e))

    module _ (q : Instance) (is : map.get histories id ≡ Some q) where
      stands : lock_ahead id ≡ true → IsAheadAt d id q
      stands e = subst (IsAheadIf d id) is (h id e)

      pub unlocked_outside : tx_now d id q ≡ None → lock_ahead id ≡ false
      unlocked_outside out = false_from_ne_true (lock_ahead id) (λ e. let k = stands e in let clash = sym k.inside ∙ ap is_some out in cc)

      pub unlocked_elsewhere : touched (effect_of d q) ≡ None → lock_ahead id ≡ false
      unlocked_elsewhere other = false_from_ne_true (lock_ahead id) (λ e. let k = stands e in let clash = sym k.operation ∙ ap is_some other in cc)
