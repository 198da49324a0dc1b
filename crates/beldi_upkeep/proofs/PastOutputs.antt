-- What a run is past once its turn is made, by what its stage says.
use Rattle.beldi_invariant.proofs.Names.{Answer, Begins, Begun, Bool, CallAt, Caller, Core, Deployment, IsTrue, Knows, Machine, Mark, None, Option, Invariant, Rows, Run, RunTx, StageOutput, Some, Stage, StandsAt, [], ap, arith, local_steps_of, at_stage, first_stage, false, goes_from, goes_to, ltb-false, ltb-true, length-append, nat_lt, refl, same_some, subst, sym, takes, true, turned_by, wants_answer, ℕ, ◌++◌, ◌+◌, ◌<◌, ◌∙◌, ◌∷◌, ◌≡◌, ◌≤◌}
use Rattle.beldi_invariant.proofs.{StageTurns.MachineAt, StageTurns.at_steps, StageTurns.steps_there, StageTurns.takes_there}
use Rattle.beldi_upkeep.specs.Passed.{MayPass}
use Rattle.beldi_upkeep.proofs.{PastGaps.gap_pass, OutputOwes.begins_same, OutputOwes.no_run}

-- the answer that is said, if one is
abbrev pub answer_in : StageOutput → Option Answer
answer_in (StageOutput.Answers a b) = Some a
answer_in (StageOutput.Starts a) = Some a
answer_in s = None

module _ (d : Deployment) (b : Core) (n : Rows) (h2 : Invariant d b n) (r : Run) where
  -- past so much it goes on from this machine
  abbrev pub PastTo : Machine × Option RunTx → Option Caller → Type 0
  PastTo s c = let z = local_steps_of d r.id s in StandsAt d h2.histories r.id r.func c z.0 z.1 → (x : ℕ) → x < z.0.steps → MayPass n r.id x

  -- a run that goes on is past calls that may be passed
  abbrev pub IsPast : Option Run → Type 0
  IsPast next = (k : Run) (g : Begun) → next ≡ Some k → k.at ≡ Begins g → Knows d h2.histories k g → (x : ℕ) → x < g.machine.steps → MayPass n k.id x

  at_begun : (g : Begun) → (StandsAt d h2.histories r.id r.func g.caller g.machine g.tx → (x : ℕ) → x < g.machine.steps → MayPass n r.id x) → IsPast (Some (record r { at = Begins g }))
  at_begun g past k z is at =
      let one : record r { at = Begins g } ≡ k = same_some is in
      subst (λ (y : Begun). Knows d h2.histories k y → (x : ℕ) → x < y.machine.steps → MayPass n k.id x) (begins_same g z (ap (λ (y : Run). y.at) one ∙ at)) (subst (λ (y : Run). Knows d h2.histories y g → (x : ℕ) → x < g.machine.steps → MayPass n y.id x) one past)

  pub goes_past : (s : Machine × Option RunTx) (c : Option Caller) (w : Option Mark) → PastTo s c → IsPast (goes_to d r s c w).next
  goes_past s c w past = by_stage (first_stage r.id c (local_steps_of d r.id s).1 (local_steps_of d r.id s).0.steps (local_steps_of d r.id s).0.effect)
    where
      by_stage : (z : Option Stage) → IsPast (goes_from r (local_steps_of d r.id s) c w z).next
      by_stage None = λ k g e at stands. absurd (no_run k e)
      by_stage (Some z) = at_begun (record { machine = (local_steps_of d r.id s).0; caller = c; tx = (local_steps_of d r.id s).1; stage = z }) past

  module _ (g : Begun) (at : r.at ≡ Begins g) (past : (x : ℕ) → x < g.machine.steps → MayPass n r.id x) where
    pub output_past : (s : StageOutput) → ((a : Answer) → answer_in s ≡ Some a → PastTo (takes d g.machine g.tx a) g.caller) → IsPast (turned_by d r g s).next
    output_past (StageOutput.On w z) h = at_begun (at_stage g w) (λ stands. past)
    output_past StageOutput.Stays h = at_begun g (λ stands. past)
    output_past (StageOutput.Opens z) h = at_begun (at_stage g (Stage.Call CallAt.Look)) (λ stands. past)
    output_past (StageOutput.Waits w) h = λ k z is at_z stands.
        let one : r ≡ k = same_some is in
        subst (λ (y : Begun). (x : ℕ) → x < y.machine.steps → MayPass n k.id x) (begins_same g z (sym at ∙ ap (λ (y : Run). y.at) one ∙ at_z)) (subst (λ (y : Run). (x : ℕ) → x < g.machine.steps → MayPass n y.id x) one past)
    output_past (StageOutput.Starts a) h = goes_past (takes d g.machine g.tx a) g.caller None (h a refl)
    output_past (StageOutput.Answers a z) h = goes_past (takes d g.machine g.tx a) g.caller z (h a refl)
    output_past (StageOutput.Ends z o) h = λ k y is at_y stands. absurd (no_run k is)

-- ---- an answer: the run is past its step, and past what takes no turn after it
module _ (d : Deployment) (c b : Core) (m n : Rows) (h : Invariant d c m) (h2 : Invariant d b n) (r : Run) (g : Begun) (k : Knows d h.histories r g) (past : (x : ℕ) → x < g.machine.steps → MayPass n r.id x) where
  pub answer_past : (a : Answer) → IsTrue (wants_answer g.machine.effect) → MayPass n r.id g.machine.steps → PastTo d b n h2 r (takes d g.machine g.tx a) g.caller
  answer_past a wanted here stands x less = by_test (nat_lt x g.machine.steps) refl
    where
      at : MachineAt d r.func k.instance (k.answers ++ a ∷ []) (takes d g.machine g.tx a)
      at = takes_there d r.func k.instance k.func k.answers (g.machine, g.tx) (record { machine = k.machine; open_there = k.run_open }) a wanted

      next : (takes d g.machine g.tx a).0.steps ≡ g.machine.steps + 1
      next =
          let l = steps_there d r.func k.instance k.func (k.answers ++ a ∷ []) (takes d g.machine g.tx a) at in
          let u = length-append k.answers (a ∷ []) in
          let v = at_steps k in omega (arith, l, u, v)

      by_next : (t : Bool) → nat_lt g.machine.steps x ≡ t → g.machine.steps ≤ x → MayPass n r.id x
      by_next true e ge = let l = ltb-true g.machine.steps x e in let s = next in gap_pass d b n h2 r.id r.func k.instance k.func (k.answers ++ a ∷ []) (takes d g.machine g.tx a) at g.caller stands x (omega (arith, l, s)) less
      by_next false e ge = let le = ltb-false g.machine.steps x e in let same : g.machine.steps ≡ x = omega (arith, le, ge) in subst (MayPass n r.id) same here

      by_test : (t : Bool) → nat_lt x g.machine.steps ≡ t → MayPass n r.id x
      by_test true e = past x (ltb-true x g.machine.steps e)
      by_test false e = by_next (nat_lt g.machine.steps x) refl (ltb-false x g.machine.steps e)
