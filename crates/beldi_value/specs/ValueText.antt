-- The texts of ids, places, owners and outcomes.
use Rattle.std.specs.Prelude.{ℕ, List, [], ◌∷◌, ◌++◌, decimal, codes}
use Rattle.beldi_value.specs.declared.outcome.Code.TheVariants.{WrongType, Overflow, DivideByZero, Steps, LocksHeld, ValueTooLarge, NoTx}
use Rattle.beldi_value.specs.{declared.id.IntentId.IntentId, declared.outcome.Code.Code, declared.outcome.Outcome.Outcome, declared.outcome.Outcome.TheVariants.Value as Gives, declared.outcome.Outcome.TheVariants.Fault, declared.outcome.Outcome.TheVariants.Aborted, declared.place.Owner.Owner, declared.place.Owner.TheVariants.Intent, declared.place.Owner.TheVariants.Tx, declared.place.Place.Place, Json.text_of, Value.datum_of}

-- `/` and the step, for each hop
abbrev pub hops_text : List ℕ → List ℕ
hops_text [] = []
hops_text (h ∷ hs) = 47 ∷ (decimal h ++ hops_text hs)

abbrev pub id_text : IntentId → List ℕ
id_text id = decimal id.ticket ++ hops_text id.hops

-- the id, `:` and the step
abbrev pub place_text : Place → List ℕ
place_text p = id_text p.intent ++ 58 ∷ decimal p.step

abbrev pub owner_text : Owner → List ℕ
owner_text (Intent id) = codes "intent " ++ id_text id
owner_text (Tx tx) = codes "tx " ++ (id_text tx.intent ++ 58 ∷ decimal tx.begin)

abbrev pub code_text : Code → List ℕ
code_text WrongType = codes "type"
code_text Overflow = codes "overflow"
code_text DivideByZero = codes "divide-by-zero"
code_text Steps = codes "steps"
code_text LocksHeld = codes "locks-held"
code_text ValueTooLarge = codes "value-too-large"
code_text NoTx = codes "no-tx"

-- a root never has the last one
abbrev pub outcome_text : Outcome → List ℕ
outcome_text (Gives v) = codes "value " ++ text_of (datum_of v)
outcome_text (Fault c) = codes "fault " ++ code_text c
outcome_text (Aborted c) = codes "aborted"
