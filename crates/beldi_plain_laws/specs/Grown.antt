-- That instances go on.
use Rattle.std.specs.Prelude.{◌≡◌, List, ◌++◌, Option, Some, None}
use Rattle.std.specs.FinMap.{FinMap}
use Rattle.std.specs.FinMap as map
use Rattle.beldi_value.specs.{Id.id_cmp, declared.id.IntentId.IntentId, declared.outcome.Outcome.Outcome}
use Rattle.beldi_lang.specs.declared.effect.Answer.{Answer}
use Rattle.beldi_plain.specs.Plain.{Instance}

-- it keeps its function, its arguments, its caller and its transaction, its answers are the first of those that it has later, and an outcome stays
pub record Grown (i j : Instance) : Type 0 where
  pub func : j.func ≡ i.func
  pub args : j.args ≡ i.args
  pub parent : j.parent ≡ i.parent
  pub enclosing : j.enclosing ≡ i.enclosing
  pub later : List Answer
  pub more : i.answers ++ later ≡ j.answers
  pub over : (o : Outcome) → i.outcome ≡ Some o → j.outcome ≡ Some o

-- one that was made stays
abbrev pub GrownAt : Option Instance → Option Instance → Type 0
GrownAt None o = Unit {0}
GrownAt (Some i) None = ⊥
GrownAt (Some i) (Some j) = Grown i j

abbrev pub Grows : FinMap id_cmp Instance → FinMap id_cmp Instance → Type 0
Grows f g = (id : IntentId) → GrownAt (map.get f id) (map.get g id)
