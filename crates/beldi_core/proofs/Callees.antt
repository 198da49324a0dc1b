-- The run of what a run calls, made after its turn.
use Rattle.beldi_core.proofs.Names.{Bool, Core, Deployment, EventReply, IntentId, None, Option, QueryReply, Run, RunMap, Some, TurnOutput, after_turn, ap, false, if◌then◌else◌, inl, inr, refl, run_told, sym, true, ℕ, ◌∙◌, ◌≡◌, ◌⊎◌}
use Rattle.std.specs.Prelude.{not}
use Rattle.beldi_core.specs.LiveRuns.{callee_for, is_at_call, is_call, made_after, made_before, may_follow}
use Rattle.beldi_core.specs.declared.runs.Callee.{Callee}
use Rattle.beldi_value.specs.{Id.has_callees, declared.place.Caller.Caller}
use Rattle.beldi_lang.specs.declared.{effect.Effect.Effect, machine.Machine.Machine}
use Rattle.beldi_call.specs.{Call.call_output, declared.call.CallAt.CallAt, declared.call.CallOutput.CallOutput}
use Rattle.beldi_step.specs.HostStep.{has_run, made, may_start}
use Rattle.beldi_step.specs.Run.{Turned, callee_at, callee_of, call_answer, call_here_output, goes_from, output_of, stage_output, told_at, turned_by}
use Rattle.beldi_step.specs.declared.run.{Begun.Begun, Mark.Mark, RunAt.RunAt, RunTx.RunTx, Stage.Stage, StageOutput.StageOutput, Wait.Wait}

-- ---- where none may be started, none is looked at
pub callee_idle : (c : Core) (o q : Option Run) (id : IntentId) (x : TurnOutput) (w : Option Wait) → may_follow c.runs x.starts w ≡ false → after_turn c o id x w ≡ after_turn c q id x w
callee_idle c o q id x None idle = ap (λ b. made id x (if b then may_start c o else (c, None))) idle ∙ sym (ap (λ b. made id x (if b then may_start c q else (c, None))) idle)
callee_idle c o q id x (Some (Wait.Held w)) idle = refl
callee_idle c o q id x (Some Wait.Worn) idle = refl
callee_idle c o q id x (Some (Wait.Result k)) idle = waits (has_run c.runs k) idle _ _
  where
    waits : (b : Bool) → not b ≡ false → (y z : Core × EventReply) → (if b then (c, EventReply.NotYet k) else y) ≡ (if b then (c, EventReply.NotYet k) else z)
    waits true h y z = refl
    waits false h y z = cc

-- ---- a run that stands at a call does so after a turn that may start one
abbrev IsSame : Run → RunAt → Turned → Type 0
IsSame r at s = ((m : RunMap) → may_follow m s.starts s.wait ≡ false) ⊎ (made_after s.next ≡ callee_at r at)

goes_idle : (r : Run) (at : RunAt) (s : Machine × Option RunTx) (c : Option Caller) (m : Option Mark) (o : Option Stage) → IsSame r at (goes_from r s c m o)
goes_idle r at s c m None = inl (λ m. refl)
goes_idle r at s c m (Some w) = inl (λ m. refl)

module _ (d : Deployment) (r : Run) (g : Begun) (is : r.at ≡ RunAt.Begins g) where
  answered : (o : CallOutput) → IsSame r (RunAt.Begins g) (turned_by d r g (call_answer r.id g.tx g.machine.steps o))
  answered (CallOutput.Opened first) = inr refl
  answered CallOutput.NotYet = inr (ap (callee_at r) is)
  answered (CallOutput.Done x) = goes_idle r (RunAt.Begins g) _ g.caller None _

  may_call : (b : Bool) (o : CallOutput) → IsSame r (RunAt.Begins g) (turned_by d r g (if b then call_answer r.id g.tx g.machine.steps o else StageOutput.Ends None None))
  may_call true o = answered o
  may_call false o = inl (λ m. refl)

  at_effect : (e : Effect) (at : CallAt) (q : QueryReply) → IsSame r (RunAt.Begins g) (turned_by d r g (call_here_output r.id g.tx g.machine.steps e at q))
  at_effect (Effect.Call f a) at q = may_call (has_callees r.id) (call_output f at q)
  at_effect (Effect.Read t k) at q = inl (λ m. refl)
  at_effect (Effect.Write t k v) at q = inl (λ m. refl)
  at_effect (Effect.CondWrite t k o u v) at q = inl (λ m. refl)
  at_effect (Effect.Async f a) at q = inl (λ m. refl)
  at_effect (Effect.Lock t k) at q = inl (λ m. refl)
  at_effect (Effect.Unlock t k) at q = inl (λ m. refl)
  at_effect Effect.Begin at q = inl (λ m. refl)
  at_effect (Effect.End commit) at q = inl (λ m. refl)
  at_effect Effect.Abort at q = inl (λ m. refl)
  at_effect (Effect.Return o) at q = inl (λ m. refl)

  at_stage : (w : Stage) (changes : ℕ) (q : QueryReply) → is_call w ≡ true → IsSame r (RunAt.Begins g) (turned_by d r g (stage_output r.id r.func g.caller g.tx changes g.machine.steps g.machine.effect w q))
  at_stage (Stage.Call at) changes q h = at_effect g.machine.effect at q
  at_stage Stage.Ask changes q h = cc
  at_stage (Stage.Walk row) changes q h = cc
  at_stage (Stage.Keep v n) changes q h = cc
  at_stage (Stage.Write at) changes q h = cc
  at_stage (Stage.Tx at) changes q h = cc
  at_stage (Stage.Decide m) changes q h = cc
  at_stage (Stage.End v) changes q h = cc
  at_stage (Stage.Async at) changes q h = cc
  at_stage Stage.Back changes q h = cc
  at_stage Stage.Notify changes q h = cc
  at_stage Stage.Close changes q h = cc

told_same : (d : Deployment) (changes : ℕ) (r : Run) (at : RunAt) (q : QueryReply) → r.at ≡ at → is_at_call at ≡ true → IsSame r at (told_at d changes r at q)
told_same d changes r RunAt.Looks q is h = cc
told_same d changes r (RunAt.Registers b) q is h = cc
told_same d changes r (RunAt.Begins g) q is h = at_stage d r g is g.stage changes q h

-- so it is the same that would have been made before
pub callee_told : (d : Deployment) (changes : ℕ) (r : Run) (q : QueryReply) (c : Core) → let s = run_told d changes r q in after_turn c (callee_for (made_before r) s.next) r.id (output_of s) s.wait ≡ after_turn c (callee_of r) r.id (output_of s) s.wait
callee_told d changes r q c = by (is_at_call r.at) refl
  where
    s : Turned
    s = run_told d changes r q

    same : IsSame r r.at s → after_turn c (made_after s.next) r.id (output_of s) s.wait ≡ after_turn c (callee_of r) r.id (output_of s) s.wait
    same (inl idle) = callee_idle c (made_after s.next) (callee_of r) r.id (output_of s) s.wait (idle c.runs)
    same (inr one) = ap (λ o. after_turn c o r.id (output_of s) s.wait) one

    by : (b : Bool) → is_at_call r.at ≡ b → after_turn c (callee_for (if b then Callee.Later else Callee.Made (callee_of r)) s.next) r.id (output_of s) s.wait ≡ after_turn c (callee_of r) r.id (output_of s) s.wait
    by true h = same (told_same d changes r r.at q refl h)
    by false h = refl
