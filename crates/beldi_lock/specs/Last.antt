-- A list that is taken apart at its last.
use Rattle.std.specs.Prelude.{List, [], ◌∷◌, Option, Some, None}

-- the last one, and those before it
abbrev pub onto_front : {A : Type 0} → A → Option (List A × A) → List A × A
onto_front x None = ([], x)
onto_front x (Some s) = (x ∷ s.0, s.1)

abbrev pub split_last : {A : Type 0} → List A → Option (List A × A)
split_last [] = None
split_last (x ∷ xs) = Some (onto_front x (split_last xs))
