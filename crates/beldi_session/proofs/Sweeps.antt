-- A sweep, turn by turn.
use Rattle.std.specs.Prelude.{nat_lt}
use Rattle.std.proofs.lemmas.Bool.Decides.{nat_tests}
use Rattle.beldi_session.proofs.Names.{Action, Bool, DoesTo, List, Result, Sight, Stop, Sweep, TellSwept, Unswept, [], arith, false, if◌then◌else◌, subst, sweep_at, true, ℕ, ◌<◌, ◌∷◌, ◌≡◌, ◌≤◌}

abbrev by_more : ℕ → ℕ → ℕ → Bool → Action
by_more k budget n more = if more then Sweep k budget n else TellSwept (Unswept budget)

has_more : (n budget : ℕ) → n < budget → nat_lt n budget ≡ true
has_more n budget less = grind (arith, nat_tests)

has_none : (n budget : ℕ) → budget ≤ n → nat_lt n budget ≡ false
has_none n budget none = grind (arith, nat_tests)

module _ {X : Type 0} {fs : List Action} {a b : Sight} {r : Result X Stop} (k budget n : ℕ) where
  -- where its budget has more
  pub goes_on : n < budget → DoesTo fs (sweep_at k budget n ∷ []) a b r → DoesTo fs (Sweep k budget n ∷ []) a b r
  goes_on less h = subst (λ more. DoesTo fs (by_more k budget n more ∷ []) a b r) (has_more n budget less) h

  -- .. and where it has not
  pub is_over : budget ≤ n → DoesTo fs (sweep_at k budget n ∷ []) a b r → DoesTo fs (TellSwept (Unswept budget) ∷ []) a b r
  is_over none h = subst (λ more. DoesTo fs (by_more k budget n more ∷ []) a b r) (has_none n budget none) h
