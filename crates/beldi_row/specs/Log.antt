-- The notes of a cell, by place.
use Rattle.std.specs.Prelude.{◌≡◌, refl, ℕ, ◌+◌, Bool, false, ◌&&◌, ◌==◌, List, [], ◌∷◌, Option, Some, None, if◌then◌else◌, slice_get}
use lib.Pointwise.{pointwise}
use Rattle.beldi_value.specs.declared.{id.IntentId.IntentId, place.Place.Place, place.Owner.Owner, place.Owner.TheVariants.Intent, place.Owner.TheVariants.Tx}
use Rattle.beldi_row.specs.declared.notes.Note.{Note}

abbrev pub id_eq : IntentId → IntentId → Bool
id_eq a b = (a.ticket == b.ticket) && pointwise ◌==◌ a.hops b.hops

abbrev pub place_eq : Place → Place → Bool
place_eq p q = id_eq p.intent q.intent && (p.step == q.step)

abbrev pub owner_eq : Owner → Owner → Bool
owner_eq (Intent a) (Intent b) = id_eq a b
owner_eq (Tx s) (Tx t) = (id_eq s.intent t.intent && (s.begin == t.begin)) && (s.func == t.func)
owner_eq (Intent a) (Tx t) = false
owner_eq (Tx s) (Intent b) = false

-- a cell has at most so many entries
pub most_entries : ℕ
most_entries = 8

pub most_entries_are : most_entries ≡ 8
unfolding most_entries
most_entries_are = refl

-- room for the entries of a cell, made before an act
pub record LogRoom : Type 0 where
  pub room : ℕ

abbrev pub blank : LogRoom
blank = record { room = 8 }

-- the first note of the place
abbrev pub note_at : List (Place × Note) → Place → Option Note
note_at [] p = None
note_at (e ∷ es) p = if place_eq e.0 p then Some e.1 else note_at es p

-- the index of the first entry of the place, in a list whose first entry has the index i
abbrev pub index_from : ℕ → List (Place × Note) → Place → Option ℕ
index_from i [] p = None
index_from i (e ∷ es) p = if place_eq e.0 p then Some i else index_from (i + 1) es p

abbrev pub index_at : List (Place × Note) → Place → Option ℕ
index_at es p = index_from 0 es p

abbrev pub note_of : Option (Place × Note) → Option Note
note_of None = None
note_of (Some e) = Some e.1

-- the note of the place is the one at this index, or there is none
abbrev pub NotedAt : List (Place × Note) → Place → Option ℕ → Type 0
NotedAt es p None = note_at es p ≡ None
NotedAt es p (Some i) = (n : Note) × (note_of (slice_get es i) ≡ Some n) × (note_at es p ≡ Some n)

-- no place occurs twice
abbrev pub NoneTwice : List (Place × Note) → Type 0
NoneTwice [] = Unit {0}
NoneTwice (e ∷ es) = (note_at es e.0 ≡ None) × NoneTwice es
