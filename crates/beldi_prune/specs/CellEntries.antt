-- The intents of the entries of a row.
use Rattle.std.specs.Prelude.{◌≡◌, ◌⊎◌, Bool, true, not, List, [], ◌∷◌, Option, Some, None, if◌then◌else◌}
use Rattle.beldi_value.specs.declared.{id.IntentId.IntentId, place.Place.Place}
use Rattle.beldi_row.specs.{Log.id_eq, declared.notes.Note.Note}

-- it is another than that of the entry before, if there is one
abbrev pub is_other : Option IntentId → IntentId → Bool
is_other None i = true
is_other (Some j) i = not (id_eq j i)

-- the intent of each entry that has another one than the entry before it
abbrev pub intents_from : Option IntentId → List (Place × Note) → List IntentId
intents_from before [] = []
intents_from before (e ∷ es) = if is_other before e.0.intent then e.0.intent ∷ intents_from (Some e.0.intent) es else intents_from (Some e.0.intent) es

abbrev pub intents_of : List (Place × Note) → List IntentId
intents_of es = intents_from None es

-- it is one of these
abbrev pub IsOf : List IntentId → IntentId → Type 0
IsOf [] i = ⊥
IsOf (j ∷ js) i = (i ≡ j) ⊎ IsOf js i

-- an entry with this intent is among these
abbrev pub HasEntryOf : List (Place × Note) → IntentId → Type 0
HasEntryOf [] i = ⊥
HasEntryOf (e ∷ es) i = (i ≡ e.0.intent) ⊎ HasEntryOf es i
