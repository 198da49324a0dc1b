-- What a run that stands at a call knows of its callee: while the call has no result the callee has not ended, whoever it was called in;
-- and one that is called without a wait has its row at the note, and has ended only once the call is registered.
use Rattle.beldi_histories.proofs.Begins.{false_true}
use Rattle.std.proofs.Common.{◌≡◌, ℕ, eq-eqb, Bool, true, false, Option, Some, None, is_some, if◌then◌else◌, refl, sym, ap, subst, ◌∙◌}
use Rattle.std.specs.FinMap as map
use Rattle.beldi_value.{proofs.Callees.no_root, specs.Id.child_of, specs.declared.id.IntentId.IntentId, specs.declared.outcome.Outcome.Outcome, specs.declared.value.Value.Value}
use Rattle.beldi_tree.specs.declared.deployment.Deployment.{Deployment}
use Rattle.beldi_lang.specs.declared.effect.Effect.{Effect}
use Rattle.beldi_plain.specs.Plain.{Instance}
use Rattle.beldi_plain_laws.specs.WellFormedState.{IsCalled, call_of}
use Rattle.beldi_row.specs.{Key.RowKey, Table.Rows, declared.row.Body.Body, declared.row.InvokeRow.InvokeRow, declared.row.Row.Row}
use Rattle.beldi_invokelog.specs.InvokeLog.{call_at, call_in, invoke_key, registered_in, result_in}
use Rattle.beldi_intent.specs.Intent.{intent_key}
use Rattle.beldi_histories.proofs.Cases.{by_option}
use Rattle.beldi_histories.specs.{Expected.called_by, Expected.result_of, RowMatching.CallMatches, RowMatching.IsBodyOf, Stands.key_in}
use Rattle.beldi_step.specs.{HostStep.Core, Run.is_waited, Run.place_of, declared.run.Begun.Begun, declared.run.Run.Run}
use Rattle.beldi_invariant.{proofs.StageTurns.effect_here, specs.Invariant.Knows, specs.Invariant.Invariant}
use Rattle.beldi_upkeep.{proofs.FromInvariant.body_recorded, proofs.FromInvariant.called_here, proofs.FromInvariant.child_key, specs.Callees.Seats}
use Rattle.beldi_bound.specs.SettleWork.{has_ended}
use Rattle.beldi_bound.proofs.Bodies.{RowHas, ended_has, ended_outcome, idle_outcome}

waits_call : (w : Bool) (f g : ℕ) (v u : Value) → call_of w f v ≡ Effect.Call g u → w ≡ true
waits_call true f g v u h = refl
waits_call false f g v u h = cc

waits_async : (w : Bool) (f g : ℕ) (v u : Value) → call_of w f v ≡ Effect.Async g u → w ≡ false
waits_async true f g v u h = cc
waits_async false f g v u h = refl

result_row : (r : Option Row) (f : ℕ) (u : Option Outcome) → CallMatches r (Some (f, u)) → result_in (call_in r) ≡ u
result_row None f u h = cc
result_row (Some (Row.Invoke x)) f u h = ap (λ (z : ℕ × Option Outcome). z.1) (sym (pair_is h))
  where
    pair_is : {x y : ℕ × Option Outcome} → Some x ≡ Some y → x ≡ y
    pair_is h = cc
result_row (Some w) f u h = absurd h

pub call_row : (r : Option Row) (f : ℕ) (u : Option Outcome) → CallMatches r (Some (f, u)) → (x : InvokeRow) × (r ≡ Some (Row.Invoke x)) × (x.func ≡ f)
call_row None f u h = cc
call_row (Some (Row.Invoke x)) f u h = (x, refl, ap (λ (z : ℕ × Option Outcome). z.0) (sym (pair_is h)))
  where
    pair_is : {x y : ℕ × Option Outcome} → Some x ≡ Some y → x ≡ y
    pair_is h = cc
call_row (Some w) f u h = absurd h

module _ (d : Deployment) (c : Core) (m : Rows) (h : Invariant d c m) (r : Run) (g : Begun) (k : Knows d h.histories r g) where
  abbrev pub callee : IntentId
  callee = child_of r.id g.machine.steps

  abbrev pub call_key : RowKey
  call_key = invoke_key r.func (place_of r.id g.machine.steps)

  -- ---- the callee, where it is known
  module _ (j : Instance) (there : map.get h.histories callee ≡ Some j) where
    called : IsCalled d r.id k.instance g.machine.steps j
    called = let at = called_here d c m h r.id g.machine.steps j there in subst (λ q. IsCalled d r.id q g.machine.steps j) (some_q (sym at.1.0 ∙ k.made)) at.1.1
      where
        some_q : {x y : Instance} → Some x ≡ Some y → x ≡ y
        some_q h = cc

    effect_is : call_of called.waits j.func j.args ≡ g.machine.effect
    effect_is = sym called.call ∙ effect_here k

    expected : CallMatches (map.get m call_key) (Some (j.func, result_of j))
    expected = subst (CallMatches (map.get m call_key)) ((λ i. called_by r.func (k.made i) (there i)) ∙ ap (λ z. if z then Some (j.func, result_of j) else None) (eq-eqb k.instance.func r.func k.func)) (h.rows.keys call_key)

    waited : is_waited j.parent ≡ called.waits
    waited = ap is_waited called.parent

  -- ---- one whose row has ended
  module _ (f : ℕ) (ends : has_ended (map.get m (intent_key callee f)) ≡ true) where
    in_home : has_ended (map.get m (key_in f callee)) ≡ true
    in_home = ap (λ q. has_ended (map.get m q)) (sym (child_key r.id g.machine.steps f)) ∙ ends

    its_row : RowHas (map.get m (key_in f callee))
    its_row = ended_has d c m h f callee in_home

    recorded : IsBodyOf its_row.body (map.get h.histories callee)
    recorded = body_recorded d c m h f callee its_row.row its_row.body (record { there = its_row.there; body = its_row.has })

    outcome : is_some recorded.instance.outcome ≡ true
    outcome = ended_outcome d c m h f callee (no_root r.id g.machine.steps) recorded.instance recorded.made in_home

    -- its call has its result, where that is waited for
    pub call_over : (v : Value) → g.machine.effect ≡ Effect.Call f v → result_in (call_at m call_key) ≡ None → ⊥
    call_over v is none =
        let j = recorded.instance in let there = recorded.made in
        let waits = waits_call (called j there).waits j.func f j.args v (effect_is j there ∙ is) in
        let result : result_in (call_at m call_key) ≡ j.outcome = result_row (map.get m call_key) j.func (result_of j) (expected j there) ∙ ap (λ b. if b then j.outcome else None) (waited j there ∙ waits) in
        no_outcome j.outcome (sym result ∙ none) outcome
      where
        no_outcome : (o : Option Outcome) → o ≡ None → is_some o ≡ true → ⊥
        no_outcome o none some = let clash : false ≡ true = sym (ap is_some none) ∙ some in cc

    -- .. and is registered, where nobody waits
    pub async_over : Seats m → (v : Value) → g.machine.effect ≡ Effect.Async f v → registered_in (call_at m call_key) ≡ false → ⊥
    async_over seats v is bare =
        let j = recorded.instance in let there = recorded.made in
        let waits = waits_async (called j there).waits j.func f j.args v (effect_is j there ∙ is) in
        let idle : is_waited j.parent ≡ false = waited j there ∙ waits in
        let row = call_row (map.get m call_key) j.func (result_of j) (expected j there) in
        let marked : row.0.registered ≡ false = ap (λ o. registered_in (call_in o)) (sym row.1) ∙ bare in
        let none = seats.registered r.func r.id g.machine.steps row.0 f its_row.row its_row.body row.1 marked (record { there = its_row.there; body = its_row.has }) (ap is_waited (ap (λ (y : Body). y.parent) recorded.body) ∙ idle) in
        let same = idle_outcome d c m h f callee (no_root r.id g.machine.steps) j there its_row.row its_row.there idle in
        no_outcome j.outcome (sym same ∙ none) outcome
      where
        no_outcome : (o : Option Outcome) → o ≡ None → is_some o ≡ true → ⊥
        no_outcome o none some = let clash : false ≡ true = sym (ap is_some none) ∙ some in cc

  -- ---- the row of its call, once the callee is known
  pub row_there : (f : ℕ) (v : Value) → g.machine.effect ≡ Effect.Call f v → is_some (map.get h.histories callee) ≡ true → (x : InvokeRow) × (map.get m call_key ≡ Some (Row.Invoke x)) × (x.func ≡ f)
  row_there f v is made = by_option (map.get h.histories callee) (λ none. let clash : false ≡ true = sym (ap is_some none) ∙ made in absurd (false_true clash))
      (λ j there. let row = call_row (map.get m call_key) j.func (result_of j) (expected j there) in (row.0, row.1, row.2 ∙ func_is (called j there).waits j.func f j.args v (effect_is j there ∙ is)))
    where
      func_is : (w : Bool) (f g : ℕ) (v u : Value) → call_of w f v ≡ Effect.Call g u → f ≡ g
      func_is true f g v u h = cc
      func_is false f g v u h = cc
