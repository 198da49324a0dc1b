-- The statement that an effect stands for, in the text of its function.
use Rattle.std.specs.Prelude.{◌≡◌, ℕ, suc, ◌||◌, Bool, List, slice_get, Some}
use Rattle.beldi_value.specs.declared.value.Value.{Value}
use Rattle.beldi_tree.specs.{declared.deployment.Deployment.Deployment, declared.deployment.Func.Func}
use Rattle.beldi_tree.specs.StatementCommand.{Command, call, async, lock}
use Rattle.beldi_lang.specs.{declared.effect.Effect.Effect, declared.effect.Answer.Answer, Wants.func_number, Wants.is_inside, Wants.wants}
use Rattle.beldi_check.specs.Site.{Spot, sites_of}

-- the effect is that of the statement: a call of the function that it names, or a lock
abbrev pub IsOf : Deployment → Effect → Command → Type 0
IsOf d (Effect.Call f v) (call l n g e) = f ≡ func_number d.funcs g
IsOf d (Effect.Async f v) (async l g e) = f ≡ func_number d.funcs g
IsOf d (Effect.Lock t k) (lock l u x) = Unit {0}
IsOf d e c = ⊥

-- a statement of the body, which stands in a transaction exactly where the effect does
pub record Written (d : Deployment) (body : List Command) (inherited inside : Bool) (e : Effect) : Type 0 where
  pub number : ℕ
  pub spot : Spot
  pub there : slice_get (sites_of body) number ≡ Some spot
  pub inner : inside ≡ (inherited || spot.0.in_transaction)
  pub is : IsOf d e spot.1

-- each call and each lock has one
abbrev pub IsWritten : Deployment → List Command → Bool → Bool → Effect → Type 0
IsWritten d body inherited inside (Effect.Call f v) = Written d body inherited inside (Effect.Call f v)
IsWritten d body inherited inside (Effect.Async f v) = Written d body inherited inside (Effect.Async f v)
IsWritten d body inherited inside (Effect.Lock t k) = Written d body inherited inside (Effect.Lock t k)
IsWritten d body inherited inside e = Unit {0}

-- what a body wants stands in it
abbrev pub WantsAreWritten : Type 0
WantsAreWritten = (d : Deployment) (n : ℕ) (f : Func) (args : Value) (inherited : Bool) (answers : List Answer) → slice_get d.funcs n ≡ Some f
    → IsWritten d f.body inherited (is_inside d (suc n) args inherited answers) (wants d (suc n) args inherited answers)
