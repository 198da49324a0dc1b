-- A run goes on from any answer: where its machine comes to, an effect is carried out.
use Rattle.std.proofs.Common.{IsTrue, List, None, Option, Some, [], ap, arith, is_some, length, refl, subst, sym, true, ℕ, ◌++◌, ◌∙◌, ◌∷◌, ◌≡◌, ◌||◌}
use Rattle.beldi_value.specs.declared.{id.IntentId.IntentId, place.Caller.Caller}
use Rattle.beldi_tree.specs.declared.deployment.Deployment.{Deployment}
use Rattle.beldi_lang.{proofs.Resumes.at_begin, proofs.Resumes.at_effect, proofs.Resumes.at_next, specs.Machine.IsAt, specs.Machine.begun, specs.Wants.wants, specs.Wants.wants_answer, specs.declared.effect.Answer.Answer, specs.declared.effect.Effect.Effect, specs.declared.machine.Machine.Machine}
use Rattle.beldi_plain.specs.Plain.{Instance, answered_if, effect_of}
use Rattle.beldi_plain_laws.{proofs.Went.along_pushed, specs.Txs.effect_after}
use Rattle.beldi_row.specs.declared.row.Body.{Body}
use Rattle.beldi_step.specs.{declared.run.RunTx.RunTx, Run.local_answer, Run.local_steps, Run.first_stage, Run.local_step, Run.open_after, Run.takes, Run.takes_if, Run.inherited_tx}
use Rattle.beldi_histories.specs.{Histories.and_local, Histories.local_steps as histories_local_steps, Histories.local_step as histories_local_step, Histories.run_on, Histories.run_local}
use Rattle.beldi_histories.proofs.LocalSteps.{closed_local_steps}
use Rattle.beldi_invariant.specs.{Invariant.Knows, Invariant.open_of}
use Rattle.beldi_upkeep.specs.Checked.{Begins, NoBodyIsStranded, NoRunIsStranded, has_func}
use Rattle.beldi_upkeep.proofs.{Carried.carried_out, Functions.instances_of_it, Notes.knows}

-- ---- what takes no turn
-- the instance that has these answers, and no outcome
abbrev with : Instance → List Answer → Instance
with q given = record q { answers = given; outcome = None }

once_with : (d : Deployment) (id : IntentId) (q : Instance) (given : List Answer) → histories_local_step d id (with q given) ≡ with q (run_local d id q given)
once_with d id q given = elim (local_answer id (length given) (effect_after d q given)) as (λ o. answered_if (with q given) o ≡ with q (and_local given o)) [ None ↦ refl | Some a ↦ refl ]

on_with : (d : Deployment) (id : IntentId) (q : Instance) (given : List Answer) → histories_local_steps d id (with q given) ≡ with q (run_on d id q given)
on_with d id q given = ap (histories_local_step d id) (once_with d id q given) ∙ once_with d id q (run_local d id q given)

-- past it no effect takes none
none_more : (d : Deployment) (id : IntentId) (q : Instance) (given : List Answer) → let ts = run_on d id q given in local_answer id (length ts) (effect_after d q ts) ≡ None
none_more d id q given = subst (λ (z : Instance). z.outcome ≡ None → local_answer id (length z.answers) (effect_of d z) ≡ None) (on_with d id q given) (closed_local_steps d id (with q given)) refl

wants_local_steps : (id : IntentId) (n : ℕ) (e : Effect) (a : Answer) → local_answer id n e ≡ Some a → IsTrue (wants_answer e)
wants_local_steps id n e a h = grind arith

-- ---- a machine after these answers of an instance, and the transaction that it is in
record MachineAt (d : Deployment) (func : ℕ) (q : Instance) (given : List Answer) (s : Machine × Option RunTx) : Type 0 where
  machine : IsAt d func q.args (is_some q.enclosing) s.0 given
  open_is : s.1 ≡ open_of d q given

module _ (d : Deployment) (func : ℕ) (q : Instance) (same : q.func ≡ func) (id : IntentId) where
  module _ (given : List Answer) (s : Machine × Option RunTx) (h : MachineAt d func q given s) where
    steps_is : s.0.steps ≡ length given
    steps_is = (at_effect d func q.args (is_some q.enclosing) s.0 given h.machine).1

    effect_is : s.0.effect ≡ effect_after d q given
    effect_is = (at_effect d func q.args (is_some q.enclosing) s.0 given h.machine).0 ∙ ap (λ f. wants d f q.args (is_some q.enclosing) given) (sym same)

    takes_at : (a : Answer) → IsTrue (wants_answer s.0.effect) → MachineAt d func q (given ++ a ∷ []) (takes d s.0 s.1 a)
    takes_at a wanted = record {
      machine = at_next d func q.args (is_some q.enclosing) s.0 given a wanted h.machine;
      open_is = (λ i. open_after (steps_is i) (effect_is i) a (h.open_is i)) ∙ sym (along_pushed (λ ts b o. open_after (length ts) (effect_after d q ts) b o) [] given a (inherited_tx q.enclosing));
    }

    once_at : MachineAt d func q (run_local d id q given) (local_step d id s)
    once_at = subst (λ ts. MachineAt d func q ts (local_step d id s)) (λ i. and_local given (local_answer id (steps_is i) (effect_is i))) (by_answer (local_answer id s.0.steps s.0.effect) refl)
      where
        by_answer : (o : Option Answer) → local_answer id s.0.steps s.0.effect ≡ o → MachineAt d func q (and_local given o) (takes_if d s.0 s.1 o)
        by_answer None e = h
        by_answer (Some a) e = takes_at a (wants_local_steps id s.0.steps s.0.effect a e)

  on_at : (given : List Answer) (s : Machine × Option RunTx) → MachineAt d func q given s → MachineAt d func q (run_on d id q given) (local_steps d id s)
  on_at given s h = once_at (run_local d id q given) (local_step d id s) (once_at given s h)

  begins : (given : List Answer) (s : Machine × Option RunTx) (caller : Option Caller) → caller ≡ q.parent → MachineAt d func q given s
      → ((ts : List Answer) → (is_some (local_answer id (length ts) (effect_after d q ts)) || is_some (first_stage id q.parent (open_of d q ts) (length ts) (effect_after d q ts))) ≡ true) → Begins d id caller s
  begins given s caller from h carried =
      let ts = run_on d id q given in
      let z = on_at given s h in
      (λ i. is_some (first_stage id (from i) (z.open_is i) (steps_is ts (local_steps d id s) z i) (effect_is ts (local_steps d id s) z i)))
      ∙ ap (λ o. is_some o || is_some (first_stage id q.parent (open_of d q ts) (length ts) (effect_after d q ts))) (sym (none_more d id q given)) ∙ carried ts

pub no_run_stranded : NoRunIsStranded
no_run_stranded d c m r g a h b wanted =
    let k : Knows d h.invariant.histories r g = (knows d c m h.invariant r g b).0 in
    let at : MachineAt d r.func k.instance k.answers (g.machine, g.tx) = record { machine = k.machine; open_is = k.run_open } in
    begins d r.func k.instance k.func r.id (k.answers ++ a ∷ []) (takes d g.machine g.tx a) g.caller k.caller (takes_at d r.func k.instance k.func r.id k.answers (g.machine, g.tx) at a wanted) (λ ts. carried_out d c m h r.id k.instance ts k.made)

pub no_body_stranded : NoBodyIsStranded
no_body_stranded d c m h r b body func =
    let q = body.instance in
    let same : q.func ≡ r.func = sym (ap (λ (z : Body). z.func) body.body) ∙ func in
    let args = ap (λ (z : Body). z.args) body.body in
    let tx = ap (λ (z : Body). z.tx) body.body in (
      ap (has_func d) (sym same) ∙ instances_of_it d c m h r.id q body.made,
      begins d r.func q same r.id [] (begun d r.func b.args (is_some b.tx), inherited_tx b.tx) b.parent (ap (λ (z : Body). z.parent) body.body)
          (record { machine = (λ i. begun d r.func (args i) (is_some (tx i))) ∙ at_begin d r.func q.args (is_some q.enclosing); open_is = ap inherited_tx tx }) (λ ts. carried_out d c m h r.id q ts body.made),
    )
