-- Which deadlines runs are given, and that none is more than a life ahead: over any table.
use Rattle.std.specs.FinMap.{get-empty}
use Rattle.std.specs.Ordering.{nat_cmp}
use Rattle.std.specs.FinMap as map
use Rattle.std.proofs.Common.{◌≡◌, ℕ, ◌+◌, ◌≤◌, Option, Some, None, is_some, refl, ap, sym, ◌∙◌, subst, arith}
use Rattle.beldi_value.specs.{Id.has_callees, declared.place.Caller.Caller}
use Rattle.beldi_tree.specs.declared.{deployment.Deployment.Deployment, deployment.Func.Func}
use Rattle.beldi_tree.specs.Names.{func_at}
use Rattle.beldi_lang.specs.{declared.effect.Effect.Effect, declared.machine.Machine.Machine, Machine.begun as machine_begun}
use Rattle.beldi_book.specs.LinearOrder.{count_changes}
use Rattle.beldi_row.specs.declared.row.Body.{Body}
use Rattle.beldi_query.specs.{declared.query.Query.Query, Query.QueryReply}
use Rattle.beldi_intent.specs.Intent.{body_told}
use Rattle.beldi_step.specs.HostStep.{Core, counted, first_core, last_of}
use Rattle.beldi_step.specs.Run.{local_steps, begin_in, body_registered, callee_at, callee_by, callee_run, first_stage, goes_from, goes_to, run_told, stage_output, takes, told_at, turned_by, inherited_tx}
use Rattle.beldi_step.specs.declared.{event.Event.Event, run.Begun.Begun, run.Mark.Mark, run.Run.Run, run.RunAt.RunAt, run.RunAt.TheVariants.Looks, run.RunAt.TheVariants.Registers, run.RunAt.TheVariants.Begins, run.RunTx.RunTx, run.StageOutput.StageOutput, run.Stage.Stage}
use Rattle.beldi_step.specs.RunDeadlines.{AreSoon, CalledRunsHaveTheirCallersDeadline, KeepsSoon, NoRunIsPastALife, Reached, RunsKeepTheirDeadline, after_step, at_first, deadline_given, turning}
use Rattle.beldi_step.proofs.StepRuns.{Adds, All, Leaves, adds_by, either, same_some}
use Rattle.beldi_step.proofs.StepRuns as runs

-- ---- no run has the deadline of a run
none : (r k : Run) → None ≡ Some k → k.deadline ≡ r.deadline
none r k is = cc

-- ---- a run that goes on, and one of what it calls, has the run's deadline
abbrev pub HasDeadlineOf : Run → Option Run → Type 0
HasDeadlineOf r o = (k : Run) → o ≡ Some k → k.deadline ≡ r.deadline

itself : (r k : Run) → k.deadline ≡ r.deadline → HasDeadlineOf r (Some k)
itself r k same j is = ap (λ (z : Run). z.deadline) (sym (same_some is)) ∙ same

from : (r : Run) (s : Machine × Option RunTx) (c : Option Caller) (m : Option Mark) (w : Option Stage) → HasDeadlineOf r (goes_from r s c m w).next
from r s c m None = none r
from r s c m (Some w) = itself r _ refl

to : (d : Deployment) (r : Run) (s : Machine × Option RunTx) (c : Option Caller) (m : Option Mark) → HasDeadlineOf r (goes_to d r s c m).next
to d r s c m = let z = local_steps d r.id s in from r z c m (first_stage r.id c z.1 z.0.steps z.0.effect)

output : (d : Deployment) (r : Run) (g : Begun) (x : StageOutput) → HasDeadlineOf r (turned_by d r g x).next
output d r g (StageOutput.On s m) = itself r _ refl
output d r g StageOutput.Stays = itself r _ refl
output d r g (StageOutput.Opens m) = itself r _ refl
output d r g (StageOutput.Waits w) = itself r _ refl
output d r g (StageOutput.Starts a) = to d r (takes d g.machine g.tx a) g.caller None
output d r g (StageOutput.Answers a m) = to d r (takes d g.machine g.tx a) g.caller m
output d r g (StageOutput.Ends m o) = none r

begins : (d : Deployment) (r : Run) (f : Option Func) (b : Option Body) → HasDeadlineOf r (begin_in d r f b).next
begins d r f None = none r
begins d r None (Some b) = none r
begins d r (Some f) (Some b) = to d r (machine_begun d r.func b.args (is_some b.tx), inherited_tx b.tx) b.parent None

told : (d : Deployment) (changes : ℕ) (r : Run) (at : RunAt) (t : QueryReply) → HasDeadlineOf r (told_at d changes r at t).next
told d changes r Looks t = begins d r (func_at d r.func) (body_told r.func t)
told d changes r (Registers b) t = begins d r (func_at d r.func) (body_registered r.func b t)
told d changes r (Begins g) t = output d r g (stage_output r.id r.func g.caller g.tx changes g.machine.steps g.machine.effect g.stage t)

called : (r : Run) (step f : ℕ) (at : RunAt) → HasDeadlineOf r (callee_run r step f at)
called r step f at = either (HasDeadlineOf r) (has_callees r.id) _ _ (λ t. itself r _ refl) (λ t. none r)

by_effect : (r : Run) (o : Option RunTx) (step : ℕ) (e : Effect) → HasDeadlineOf r (callee_by r o step e)
by_effect r o step (Effect.Call f a) = called r step f _
by_effect r o step (Effect.Async f a) = called r step f Looks
by_effect r o step e = none r

callee : (r : Run) (at : RunAt) → HasDeadlineOf r (callee_at r at)
callee r (Begins g) = by_effect r g.tx g.machine.steps g.machine.effect
callee r at = none r

-- what is so of each run with the deadline of a run, is so of what its turn leaves
pub turn_leaves : (P : ℕ → Run → Type 0) (T : Query → QueryReply → Type 0) (d : Deployment) (changes i next : ℕ) (r : Run) (t : QueryReply) → ((k : Run) → k.deadline ≡ r.deadline → P i k × P next k) → Leaves P T i next r (run_told d changes r t)
turn_leaves P T d changes i next r t same = record { goes = λ k is. (same k (told d changes r r.at t k is)).0; calls = λ starts k is. (same k (callee r r.at k is)).1 }

-- ---- over any table
abbrev Any : Query → QueryReply → Type 0
Any q t = Unit {0}

module _ (d : Deployment) (c : Core) where
  -- a run that is new
  abbrev IsGiven : Event → ℕ → Run → Type 0
  IsGiven e n k = map.get c.runs n ≡ None → k.deadline ≡ deadline_given d c (turning e c)

  given_before : (e : Event) → All (IsGiven e) Any c.runs
  given_before e n k is none = let clash = sym is ∙ none in cc

  given_adds : (e : Event) → Adds (IsGiven e) Any d e (counted c)
  given_adds (Event.Turn i) = λ r live t told. turn_leaves (IsGiven (Event.Turn i)) Any d (count_changes c.book) i (c.last_run + 1) r t (λ k same. (λ none. let clash = sym live ∙ none in cc, λ none. same ∙ sym (ap (deadline_given d c) live)))
  given_adds (Event.Lost i) = tt
  given_adds (Event.Crash i) = tt
  given_adds Event.Ticket = λ id f none. refl
  given_adds (Event.Request t g a) = λ id f none. refl
  given_adds (Event.Restart j g) = λ id f none. refl
  given_adds (Event.Tick n) = λ id f none. refl
  given_adds Event.Ic = λ id f none. refl
  given_adds Event.Halt = λ id f none. refl

  -- a run that was live
  abbrev IsKept : ℕ → Run → Type 0
  IsKept n k = (s : Run) → n ≤ c.last_run → map.get c.runs n ≡ Some s → k.deadline ≡ s.deadline

  kept_before : All IsKept Any c.runs
  kept_before n k is s le was = ap (λ (z : Run). z.deadline) (same_some (sym is ∙ was))

  kept_adds : (e : Event) → Adds IsKept Any d e (counted c)
  kept_adds e = adds_by IsKept Any d e (counted c) (λ id f s le was. absurd (omega (arith, le)))
      (λ i r live t told. turn_leaves IsKept Any d (count_changes c.book) i (c.last_run + 1) r t (λ k same. (λ s le was. same ∙ ap (λ (z : Run). z.deadline) (same_some (sym live ∙ was)), λ s le was. absurd (omega (arith, le)))))

  -- a deadline is at most a life ahead
  abbrev pub IsSoon : ℕ → Run → Type 0
  IsSoon n k = k.deadline ≤ last_of c.now d.life

  pub soon_turn : (T : Query → QueryReply → Type 0) → AreSoon d c → (i : ℕ) (r : Run) → map.get c.runs i ≡ Some r → (t : QueryReply) → Leaves IsSoon T i (c.last_run + 1) r (run_told d (count_changes c.book) r t)
  soon_turn T soon i r live t = let few = soon i r live in turn_leaves IsSoon T d (count_changes c.book) i (c.last_run + 1) r t (λ k same. (omega (arith, few, same), omega (arith, few, same)))

  soon_adds : AreSoon d c → (e : Event) → Adds IsSoon Any d e (counted c)
  soon_adds soon e = adds_by IsSoon Any d e (counted c) (λ id f. omega arith) (λ i r live t told. soon_turn Any soon i r live t)

pub given : CalledRunsHaveTheirCallersDeadline
given d e c b old new x n r s none is = (runs.after_step (IsGiven d c e) Any d e c b (given_before d c e) (given_adds d c e) x old new (λ q t. tt) s).runs n r is none

pub kept : RunsKeepTheirDeadline
kept d e c b old new x n r s step le was is = (runs.after_step (IsKept d c) Any d e c b (kept_before d c) (kept_adds d c e) x old new (λ q t. tt) step).runs n r is s le was

-- ---- a moment later the last moment of a life is no earlier
pub last_later : (now after life : ℕ) → now ≤ after → last_of now life ≤ last_of after life
last_later now after life le = omega (arith, le)

pub last_ahead : (now life : ℕ) → last_of now life ≤ now + life
last_ahead now life = omega arith

pub keeps_soon : KeepsSoon
keeps_soon d e c b old new x soon s n r is =
    let g = runs.after_step (IsSoon d c) Any d e c b soon (soon_adds d c soon e) x old new (λ q t. tt) s in
    let le = g.runs n r is in
    let later = last_later c.now b.now d.life g.later in omega (arith, le, later)

-- ---- whatever came
pub no_run : (n : ℕ) (r : Run) → map.get (map.empty {X = Run} {R = nat_cmp}) n ≡ Some r → ⊥
no_run n r is = let clash = sym (get-empty nat_cmp n) ∙ is in cc

pub begins_soon : (d : Deployment) (newest now : ℕ) → AreSoon d (first_core newest now)
begins_soon d newest now n r is = absurd (no_run n r is)

all_soon : (d : Deployment) (c : Core) → Reached d c → AreSoon d c
all_soon d c (at_first newest now b is) = subst (AreSoon d) (sym is) (begins_soon d newest now)
all_soon d c (after_step e a b old new x before s) = keeps_soon d e a b old new x (all_soon d a before) s

pub no_run_past : NoRunIsPastALife
no_run_past d c n r reached is = let le = all_soon d c reached n r is in let ahead = last_ahead c.now d.life in omega (arith, le, ahead)
