-- Instances that are known went as their bodies want, inside transactions and outside, and were called where their ids say.
use Rattle.std.specs.Prelude.{◌≡◌, ℕ, ◌<◌, Bool, true, length, is_some, Some, None}
use Rattle.std.specs.FinMap as map
use Rattle.beldi_value.specs.{Id.root_of, Id.child_of, declared.id.IntentId.IntentId, declared.outcome.Outcome.Outcome, declared.value.Value.Value}
use Rattle.beldi_tree.specs.declared.deployment.Deployment.{Deployment}
use Rattle.beldi_lang.specs.declared.effect.Effect.{Effect}
use Rattle.beldi_plain.specs.Plain.{Instance, effect_of, effect_before}
use Rattle.beldi_plain_laws.specs.WellFormedState.{WentSo, CalledBy, call_of}
use Rattle.beldi_histories.specs.Histories.{Histories, local_answer}

-- an instance that went as its body wants
pub record WellFormedHistory (d : Deployment) (id : IntentId) (q : Instance) : Type 0 where
  pub past : WentSo d id q
  -- an outcome is there only where the body returns it
  pub over : (o : Outcome) → q.outcome ≡ Some o → effect_of d q ≡ Effect.Return o

-- a known instance that has no outcome stands at no effect that takes no turn
abbrev pub Closed : Deployment → IntentId → Instance → Type 0
Closed d id q = q.outcome ≡ None → local_answer id (length q.answers) (effect_of d q) ≡ None

-- ---- all that the histories have
pub record WellFormedHistories (d : Deployment) (histories : Histories) : Type 0 where
  pub each : (id : IntentId) (q : Instance) → map.get histories id ≡ Some q → WellFormedHistory d id q
  pub closed : (id : IntentId) (q : Instance) → map.get histories id ≡ Some q → Closed d id q
  -- what has an id of a callee was called there, in the transaction that its caller is in
  pub called : (i : IntentId) (n : ℕ) (j : Instance) → map.get histories (child_of i n) ≡ Some j → CalledBy d i (map.get histories i) n j
  -- and a call that was answered has its callee
  pub callees : (i : IntentId) (q : Instance) (n : ℕ) (w : Bool) (f : ℕ) (a : Value) → map.get histories i ≡ Some q → n < length q.answers → effect_before d q n ≡ call_of w f a → is_some (map.get histories (child_of i n)) ≡ true
  -- nobody called a root
  pub roots : (t : ℕ) (q : Instance) → map.get histories (root_of t) ≡ Some q → (q.parent ≡ None) × (q.enclosing ≡ None)
