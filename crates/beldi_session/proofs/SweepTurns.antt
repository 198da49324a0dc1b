-- The turns of a sweep lead on, and its promises follow from them.
use Rattle.std.specs.Prelude.{IfSome, length}
use Rattle.std.proofs.Common.{◌+◌, ◌-◌, arith}
use Rattle.beldi_session.proofs.Names.{Bool, Core, Deployment, Err, IfOk, None, Ok, Option, Result, Rows, Some, Stop, TableState, Tells, false, refl, subst, suc, sym, true, ℕ, ◌∙◌, ◌≡◌}
use Rattle.beldi_step.specs.{Prunes.PrunesOn, declared.event.Pruned.Pruned}
use Rattle.beldi_step.proofs.Prunes.{over_rows as pruned_over_rows}
use Rattle.beldi_kept.specs.Safe.{IsSafe}
use Rattle.beldi_tidy.specs.Sweeping.{IsUntroubled, Promises, Sweeps, SweepsAsPromised, Turn, Turns, ends_round}
use Rattle.beldi_session.specs.{Settling.state_with, Sweeps.Ended, Sweeps.Given, Sweeps.GivesTurns, Sweeps.KeepsSweepPromises, Sweeps.is_over, Sweeps.turns_before, declared.sweeping.Swept.Swept, declared.sweeping.Swept.TheVariants.All, declared.sweeping.Swept.TheVariants.Unswept}
use Rattle.beldi_session.proofs.Led.{tells_then}

module _ (d : Deployment) (k : ℕ) (c : Core) (old : TableState) where
  pub goes_nowhere : GivesTurns d k 0 c c old old
  goes_nowhere = by_rows old.rows
    where
      by_rows : (o : Option Rows) → Tells o o (λ m n. Turns d k 0 (state_with c old m) (state_with c old n))
      by_rows None = refl
      by_rows (Some m) = refl

  -- ---- one turn more
  module _ (n : ℕ) (b z : Core) (mid new : TableState) (e : Deployment) (same : e ≡ d) where
    abbrev Went : Bool → Type 0
    Went over = Given e k b z mid new over

    then_turn : (R : Rows → Rows → Type 0) (over : Bool) (g : Went over) → ((m o p : Rows) → Turns d k n (state_with c old m) (state_with b mid o) → Turn d k (state_with b mid o) (state_with z new p) g.answer → R m p) → GivesTurns d k n c b old mid → Tells old.rows new.rows R
    then_turn R over g f path = tells_then {P = λ m o. Turns d k n (state_with c old m) (state_with b mid o)} {Q = λ o p. PrunesOn e mid.faults new.faults k b o z p (Ok g.answer)} {R = R} old.rows mid.rows new.rows
        (λ m o p turns turn. f m o p turns (subst (λ x. PrunesOn x mid.faults new.faults k b o z p (Ok g.answer)) same turn)) path (pruned_over_rows e k b z mid new (Ok g.answer) g.turn)

    pub goes_further : Went false → GivesTurns d k n c b old mid → GivesTurns d k (n + 1) c z old new
    goes_further g path = let more : suc n ≡ n + 1 = omega arith in subst (λ x. GivesTurns d k x c z old new) more
        (then_turn (λ m p. Turns d k (suc n) (state_with c old m) (state_with z new p)) false g (λ m o p turns turn. (state_with b mid o, g.answer, turns, turn, sym g.over_so)) path)

    round : (x : Pruned) → true ≡ ends_round x → x ≡ Pruned.Round
    round Pruned.Round is = refl
    round Pruned.Going is = cc
    round Pruned.Marked is = cc
    round Pruned.Skipped is = cc
    round Pruned.Dangled is = cc
    round Pruned.Removed is = cc
    round Pruned.Dropped is = cc
    round Pruned.Shut is = cc
    round Pruned.Spent is = cc

    pub goes_over : Went true → GivesTurns d k n c b old mid → Ended d k c z old new (All (n + 1))
    goes_over g path = let before : n ≡ n + 1 - 1 = omega arith in subst (λ x. Tells old.rows new.rows (λ m p. Sweeps d k x true (state_with c old m) (state_with z new p))) before
        (then_turn (λ m p. Sweeps d k n true (state_with c old m) (state_with z new p)) true g (λ m o p turns turn. (state_with b mid o, turns, subst (Turn d k (state_with b mid o) (state_with z new p)) (round g.answer g.over_so) turn)) path)

  -- ---- what is promised
  pub sweep_promised : SweepsAsPromised → length c.collectors ≡ 8 → IfSome old.rows (IsSafe d c) → (b : Core) (new : TableState) (x : Swept) → Ended d k c b old new x → KeepsSweepPromises d k c b old new x
  sweep_promised law eight right b new x ended = by_rows old.rows new.rows right ended
    where
      by_rows : (o p : Option Rows) → IfSome o (IsSafe d c) → Tells o p (λ m n. Sweeps d k (turns_before x) (is_over x) (state_with c old m) (state_with b new n))
          → Tells o p (λ m n. IsUntroubled (turns_before x) (state_with c old m) (state_with b new n) → Promises d k (turns_before x) (is_over x) (state_with c old m) (state_with b new n))
      by_rows None p right h = h
      by_rows (Some m) None right h = h
      by_rows (Some m) (Some n) right h = λ free. law d k (turns_before x) (is_over x) (state_with c old m) (state_with b new n) right eight h free

-- it is said so of how it ended
pub if_so : (r : Result Swept Stop) (x : Swept) (P : Swept → Type 0) → IfOk r (λ y. y ≡ x) → P x → IfOk r P
if_so (Ok y) x P same h = subst P (sym same) h
if_so (Err why) x P same h = tt
