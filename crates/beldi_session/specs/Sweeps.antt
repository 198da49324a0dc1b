-- The turns of a sweep, where the table tells its rows, and what is promised of them.
use Rattle.std.specs.Prelude.{◌≡◌, ◌-◌, ℕ, Bool, true, false, Ok}
use Rattle.beldi_tree.specs.declared.deployment.Deployment.{Deployment}
use Rattle.beldi_row.specs.Table.{TableState, Tells}
use Rattle.beldi_step.specs.{HostStep.Core, Prunes.Prunes, declared.event.Pruned.Pruned}
use Rattle.beldi_tidy.specs.Sweeping.{IsUntroubled, Promises, Sweeps, Turns, ends_round}
use Rattle.beldi_session.specs.{declared.sweeping.Swept.Swept, declared.sweeping.Swept.TheVariants.All, declared.sweeping.Swept.TheVariants.Unswept, Settling.state_with}

-- a turn was given, and it ended the round or did not
pub record Given (d : Deployment) (k : ℕ) (c b : Core) (old new : TableState) (over : Bool) : Type 0 where
  pub answer : Pruned
  pub turn : Prunes d k c b old new (Ok answer)
  pub over_so : over ≡ ends_round answer

-- so many were, of which none ended it ..
abbrev pub GivesTurns : Deployment → ℕ → ℕ → Core → Core → TableState → TableState → Type 0
GivesTurns d k turns c b old new = Tells old.rows new.rows (λ m n. Turns d k turns (state_with c old m) (state_with b new n))

-- .. before the one that did, if one did
abbrev pub is_over : Swept → Bool
is_over (All n) = true
is_over (Unswept n) = false

abbrev pub turns_before : Swept → ℕ
turns_before (All n) = n - 1
turns_before (Unswept n) = n

abbrev pub Ended : Deployment → ℕ → Core → Core → TableState → TableState → Swept → Type 0
Ended d k c b old new x = Tells old.rows new.rows (λ m n. Sweeps d k (turns_before x) (is_over x) (state_with c old m) (state_with b new n))

-- where nothing kept a turn from the rows, it kept its promises
abbrev pub KeepsSweepPromises : Deployment → ℕ → Core → Core → TableState → TableState → Swept → Type 0
KeepsSweepPromises d k c b old new x = Tells old.rows new.rows (λ m n. IsUntroubled (turns_before x) (state_with c old m) (state_with b new n) → Promises d k (turns_before x) (is_over x) (state_with c old m) (state_with b new n))
