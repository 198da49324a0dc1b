-- A run that is to give its outcome to a caller that is finished finds it given.
use Rattle.beldi_invariant.proofs.Names.{AtStage, Begun, CallMatches, Caller, Core, Deployment, Effect, Inside, Knows, KnowsAt, None, Option, Outcome, Return, Invariant, Row, Rows, Run, RunAt, Some, Stage, ap, arith, call_in, called_by, child_of, eq-eqb, has_finish, if◌then◌else◌, invoke_key, is_some, is_waited, key_in, result_in, result_of, stands_at_call, subst, sym, true, ℕ, ◌∙◌, ◌≡◌}
use Rattle.beldi_invariant.proofs.Names.map
use Rattle.beldi_invariant.proofs.Returns.{HasCaller, has_caller}
use Rattle.beldi_histories.proofs.Cases.{by_option}
use Rattle.beldi_plain.specs.Plain.{outcome_of}
use Rattle.beldi_invokelog.specs.InvokeLog.{call_at}
use Rattle.beldi_upkeep.specs.WorksFor.{IsGivenToFinished, finish_in}
use Rattle.beldi_upkeep.proofs.Finishes.{open_none}

finished_is : (r : Option Row) → has_finish r ≡ true → finish_in r ≡ None → ⊥
finished_is r is none = grind (arith, is, none)

result_there : (w : Option Row) (f : ℕ) (o : Outcome) → CallMatches w (Some (f, Some o)) → is_some (result_in (call_in w)) ≡ true
result_there w f o owed = grind (arith, owed)

module _ (d : Deployment) (c : Core) (m : Rows) (h : Invariant d c m) (r : Run) (g : Begun) (z : Caller) (k : Knows d h.histories r g) (from : g.caller ≡ Some z) where
  called : HasCaller d h.histories r.id k.instance z
  called = has_caller d h.histories r.id k.instance z h.well_formed k.made (sym k.caller ∙ from)

  callee_there : map.get h.histories (child_of z.place.intent z.place.step) ≡ Some k.instance
  callee_there = ap (map.get h.histories) (sym called.is_callee) ∙ k.made

  -- while it has no outcome its caller stands at the call, so that has none either
  caller_open : is_waited k.instance.parent ≡ true → k.instance.outcome ≡ None → called.caller.outcome ≡ None
  caller_open waited none = by_option called.caller.outcome (λ e. e)
      (λ u e. let clash = sym (stands_at_call d h.histories h.well_formed z.place.intent called.caller k.instance z.place.step called.made callee_there none waited) ∙ (h.well_formed.each z.place.intent called.caller called.made).over u e in cc)

  -- what is owed to the row of the call
  owed : is_waited k.instance.parent ≡ true → (o : Outcome) → k.instance.outcome ≡ Some o → CallMatches (map.get m (invoke_key z.func z.place)) (Some (k.instance.func, Some o))
  owed waited o has = subst (CallMatches (map.get m (invoke_key z.func z.place)))
      (ap (λ w. called_by z.func w (map.get h.histories (child_of z.place.intent z.place.step))) called.made
      ∙ ap (called_by z.func (Some called.caller)) callee_there
      ∙ ap (λ t. if t then Some (k.instance.func, result_of k.instance) else None) (eq-eqb called.caller.func z.func called.func)
      ∙ ap (λ t. Some (k.instance.func, (if t then k.instance.outcome else None))) waited
      ∙ ap (λ x. Some (k.instance.func, x)) has)
      (h.rows.keys (invoke_key z.func z.place))

  given : is_waited k.instance.parent ≡ true → (home : ℕ) → has_finish (map.get m (key_in home z.place.intent)) ≡ true → is_some (result_in (call_at m (invoke_key z.func z.place))) ≡ true
  given waited home over = by_option k.instance.outcome
      (λ none. absurd (finished_is (map.get m (key_in home z.place.intent)) over (open_none d m h.histories h.lock_ahead h.rows h.well_formed z.place.intent (ap outcome_of called.made ∙ caller_open waited none) home)))
      (λ o has. result_there (map.get m (invoke_key z.func z.place)) k.instance.func o (owed waited o has))

  -- its caller waits
  waits : Inside m h.plain c.book k Stage.Back → is_waited k.instance.parent ≡ true
  waits x = ap is_waited (sym k.caller) ∙ by_effect g.machine.effect x.here
    where
      by_effect : (e : Effect) → AtStage m h.plain c.book k Stage.Back e g.tx → is_waited g.caller ≡ true
      by_effect (Return u) here = here
      by_effect e here = absurd here

pub given_back : IsGivenToFinished
given_back d c m h n r g z live at stage from home over =
    let k = subst (λ x. KnowsAt d m h.plain c.book h.histories r x) at (subst (RunAt d m h.plain c.book h.histories) live (h.runs.runs n)) in
    given d c m h r g z k.0 from (waits d c m h r g z k.0 from (subst (λ s. Inside m h.plain c.book k.0 s) stage k.1)) home over
