-- A settling keeps its promises.
use Rattle.std.proofs.Common.{List, Some, false, inl, inr, refl, subst, sym, arith, true, ℕ, ◌<◌, ◌⊎◌, ◌≡◌, ◌≤◌, ◌∙◌}
use Rattle.std.specs.FinMap as map
use Rattle.beldi_value.specs.declared.id.IntentId.{IntentId}
use Rattle.beldi_tree.specs.declared.deployment.Deployment.{Deployment}
use Rattle.beldi_lang.specs.declared.effect.Answer.{Answer}
use Rattle.beldi_step.specs.{HostStep.last_moment, HostStep.most_runs, declared.event.EventReply.EventReply, declared.run.Begun.Begun, declared.run.Run.Run, declared.run.RunAt.RunAt}
use Rattle.beldi_upkeep.specs.Checked.{NoFirstTurnIsOver}
use Rattle.beldi_schedule.specs.{Settle.first_at, Settle.go_on, Settle.turns_of, Settles.Settles, Settles.State, declared.machine.Settled.Settled, declared.machine.Standing.TheVariants.Over}
use Rattle.beldi_bound.specs.{Cost.AreAsked, Ends.AllHaveEnded, Ends.HasCause, Ends.HasNoLock, Ends.IsBelowEnd, Ends.IsUnhindered, Ends.NoneIsLate, Ends.SettlesAsPromised, Ends.Sound, Ends.crowded, Ends.hindered, Ends.left, SettleWork.work_of}
use Rattle.beldi_bound.proofs.{Causes.waits_have_cause, Ended.settled_have_ended, Facts.AllWait, Facts.AreFollowed, Facts.EachHasRun, Followed.lates_followed, Going.waits_leave_rows, Machine.settles_so, Few.turns_are_few, Soundly.sound_then, Used.budget_used}

module _ (d : Deployment) (room budget : ℕ) (s t : State) (sound : Sound d s.core s.rows) where
  abbrev Ends : Settled → Type 0
  Ends x = Settles d room budget (go_on budget first_at) s (Over x) t

  caused : (n : ℕ) (waiting : List (ℕ × EventReply)) → Ends (Settled.Stuck n waiting) → HasNoLock d → HasCause t.core t.rows waiting
  caused n waiting h free = let at_end = settles_so waits_leave_rows d room budget s t (Settled.Stuck n waiting) sound h in by_runs at_end.0 at_end.1 at_end.2
    where
      by_runs : AllWait d t.core t.rows waiting → EachHasRun t.core t.rows ⊎ (most_runs ≤ map.len t.core.runs) → (t.core.runs ≡ map.empty → ⊥) → HasCause t.core t.rows waiting
      by_runs waits (inl each) some = waits_have_cause d t.core t.rows waiting (sound_then h sound) free waits each some
      by_runs waits (inr full) some = crowded full

  settled : (n : ℕ) → Ends (Settled.All n) → AllHaveEnded d t.core t.rows
  settled n h = let at_end = settles_so waits_leave_rows d room budget s t (Settled.All n) sound h in settled_have_ended d t.core t.rows (sound_then h sound) at_end.0 at_end.1

  module _ (no_first : NoFirstTurnIsOver) (early : s.core.now ≤ last_moment) where
    few : (x : Settled) → Ends x → (asked : IntentId → List Answer) → AreAsked d t.rows asked → IsBelowEnd t.faults → turns_of x ≤ work_of d asked s t
    few x h asked areas below = turns_are_few no_first d room budget s t x asked sound early areas below h

    -- nothing hinders a wait, and no run is late
    no_cause : (n : ℕ) (waiting : List (ℕ × EventReply)) → IsUnhindered t.core (Settled.Stuck n waiting) → AreFollowed t.core t.rows → HasCause t.core t.rows waiting → ⊥
    no_cause n waiting free followed (hindered w there is) = apart (sym (free.0 w there) ∙ is)
      where
        apart : false ≡ true → ⊥
        apart h = cc
    no_cause n waiting free followed (crowded full) = omega (arith, full, free.1)
    no_cause n waiting free followed (left l) = behind (followed l.number l.run l.late l.live l.unended)
      where
        behind : ((j : ℕ) × (s : Run) × (g : Begun) × (map.get t.core.runs j ≡ Some s) × (s.id ≡ l.run.id) × (s.at ≡ RunAt.Begins g) × (l.late.begun.machine.steps < g.machine.steps)) → ⊥
        behind (j, s, g, live, same, at, more) = let furthest = l.furthest j s g live same at in omega (arith, furthest, more)

    completes : (x : Settled) → Ends x → (asked : IntentId → List Answer) → AreAsked d t.rows asked → HasNoLock d → NoneIsLate s.core s.rows → t.faults ≡ s.faults → IsBelowEnd t.faults → IsUnhindered t.core x → work_of d asked s t < budget → (n : ℕ) × (x ≡ Settled.All n)
    completes (Settled.All n) h asked areas no_lock none_late same below free enough = (n, refl)
    completes (Settled.Unsettled n) h asked areas no_lock none_late same below free enough = absurd (late (few (Settled.Unsettled n) h asked areas below) (budget_used d room budget s t n h))
      where
        late : n ≤ work_of d asked s t → budget ≤ n → ⊥
        late m u = omega (arith, m, u, enough)
    completes (Settled.Spent n) h asked areas no_lock none_late same below free enough = absurd free
    completes (Settled.Shut n) h asked areas no_lock none_late same below free enough = absurd free
    completes (Settled.Stuck n waiting) h asked areas no_lock none_late same below free enough =
        absurd (no_cause n waiting free (lates_followed d room budget s t (Settled.Stuck n waiting) sound none_late h same below) (caused n waiting h no_lock))

pub settles_as_promised : NoFirstTurnIsOver → SettlesAsPromised
settles_as_promised no_first d room budget s t x sound early h = record {
  few = few d room budget s t sound no_first early x h;
  used = λ n is. budget_used d room budget s t n (subst (Ends d room budget s t sound) is h);
  ended = λ n is. settled d room budget s t sound n (subst (Ends d room budget s t sound) is h);
  shut = λ n is. settles_so waits_leave_rows d room budget s t (Settled.Shut n) sound (subst (Ends d room budget s t sound) is h);
  cause = λ n waiting free is. caused d room budget s t sound n waiting (subst (Ends d room budget s t sound) is h) free;
  completes = completes d room budget s t sound no_first early x h;
}
