-- The value of a chain, from the value before its steps on.
use Rattle.std.specs.Prelude.{List, [], ◌∷◌, Result, Ok}
use Rattle.beldi_value.specs.{declared.value.Value.Value, declared.value.Value.TheVariants.Text, declared.outcome.Code.Code, Value.datum_of, Json.text_of}
use Rattle.beldi_tree.specs.declared.deployment.Step.TheVariants.{Or, And, Not, Negate, Compare, Binary, Field, Element, Len, TextOf, Push, With}
use Rattle.beldi_tree.specs.Evaluate.{Bindings, ◌>>=◌, value_at, limited, either, both, opposite, negated, compared, operate, field_of, element_of, length_of, pushed, with_field, on_two, on_three}
use Rattle.beldi_tree.specs.declared.deployment.Step.{Step}

-- what a step makes of a value, before its size is looked at
abbrev pub plain_step : Bindings → Value → Step → Result Value Code
plain_step vs v (Or e) = either (Ok v) (value_at vs e)
plain_step vs v (And e) = both (Ok v) (value_at vs e)
plain_step vs v Not = opposite v
plain_step vs v Negate = negated v
plain_step vs v (Compare r e) = on_two (compared r) (Ok v) (value_at vs e)
plain_step vs v (Binary o e) = on_two (operate o) (Ok v) (value_at vs e)
plain_step vs v (Field key) = field_of key v
plain_step vs v (Element e) = on_two element_of (Ok v) (value_at vs e)
plain_step vs v Len = length_of v
plain_step vs v TextOf = Ok (Text (text_of (datum_of v)))
plain_step vs v (Push e) = on_two pushed (Ok v) (value_at vs e)
plain_step vs v (With e f) = on_three with_field (Ok v) (value_at vs e) (value_at vs f)

abbrev pub stepped : Bindings → Value → Step → Result Value Code
stepped vs v s = plain_step vs v s >>= limited

-- what the steps make of a value, one after another
abbrev pub ended : Bindings → Value → List Step → Result Value Code
ended vs v [] = Ok v
ended vs v (s ∷ ss) = stepped vs v s >>= λ w. ended vs w ss
