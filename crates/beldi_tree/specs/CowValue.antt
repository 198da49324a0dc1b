-- The value of an expression, lent or made.
use Rattle.std.specs.Prelude.{◌≡◌, Result, Ok, Err}
use Rattle.beldi_value.specs.declared.{value.Value.Value, outcome.Code.Code}
use Rattle.beldi_tree.specs.{declared.fault.EvalErr.EvalErr, declared.cow.CowValue.CowValue, declared.cow.CowValue.TheVariants.Lent, declared.cow.CowValue.TheVariants.Made, Evaluate.IsFault}

abbrev pub cow_value : CowValue → Value
cow_value (Lent v) = v.now
cow_value (Made v) = v

-- an answer gives what is meant, unless out of memory
abbrev pub Finds : Result Value Code → Result CowValue EvalErr → Type 0
Finds r (Ok s) = r ≡ Ok (cow_value s)
Finds r (Err e) = IsFault r e
