-- A body that was called in a transaction wants neither a begin nor an end of one.
use Rattle.std.specs.Prelude.{◌≡◌, ℕ, Bool, true, false, List}
use Rattle.beldi_value.specs.declared.value.Value.{Value}
use Rattle.beldi_tree.specs.declared.deployment.Deployment.{Deployment}
use Rattle.beldi_lang.specs.{declared.effect.Effect.Effect, declared.effect.Answer.Answer, Wants.wants}

-- the effects that begin and end a transaction
abbrev pub is_bound : Effect → Bool
is_bound Effect.Begin = true
is_bound (Effect.End commit) = true
is_bound e = false

abbrev pub InheritedWantNoBound : Type 0
InheritedWantNoBound = (d : Deployment) (func : ℕ) (args : Value) (answers : List Answer) → is_bound (wants d func args true answers) ≡ false
