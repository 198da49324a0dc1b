-- A text cut into lines.
use Rattle.std.specs.Prelude.{◌≡◌, ℕ, ◌==◌, Bool, false, ◌&&◌, List, [], ◌∷◌, ◌++◌, map, flat_map, None, if◌then◌else◌}
use Rattle.std.specs.List.{AllByRecursion}
use Rattle.beldi_value.specs.ByteCut.{after}

-- a line without the carriage return at its end
abbrev pub unreturned : List ℕ → List ℕ
unreturned [] = []
unreturned (b ∷ []) = if b == 13 then [] else b ∷ []
unreturned (b ∷ c ∷ bs) = b ∷ unreturned (c ∷ bs)

-- a newline is next
abbrev pub ends_here : List ℕ → Bool
ends_here [] = false
ends_here (b ∷ bs) = b == 10

-- the byte goes onto the first line
abbrev pub onto_first : ℕ → List (List ℕ) → List (List ℕ)
onto_first b [] = (b ∷ []) ∷ []
onto_first b (l ∷ ls) = (b ∷ l) ∷ ls

-- the lines of a text: a newline ends one, with the carriage return right before it; the last newline may be missing
abbrev pub lines_of : List ℕ → List (List ℕ)
lines_of [] = []
lines_of (b ∷ bs) = if b == 10 then [] ∷ lines_of bs else if b == 13 && ends_here bs then lines_of bs else onto_first b (lines_of bs)

-- a line and its end: a line feed, and before it a carriage return where the second part is true
abbrev pub ended : List ℕ × Bool → List ℕ
ended (line, returned) = line ++ (if returned then 13 ∷ 10 ∷ [] else 10 ∷ [])

-- no line feed in it, and no carriage return at its end
abbrev pub IsLine : List ℕ → Type 0
IsLine line = (after 10 line ≡ None) × (unreturned line ≡ line)

-- lines, each with its end, are cut into just these lines
abbrev pub LinesAreCut : Type 0
LinesAreCut = (lines : List (List ℕ × Bool)) → AllByRecursion (λ l. IsLine l.0) lines → lines_of (flat_map ended lines) ≡ map (λ l. l.0) lines
