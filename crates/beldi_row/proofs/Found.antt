-- The note of a place is found by its index.
use Rattle.std.proofs.Common.{◌≡◌, ℕ, ◌+◌, zero, suc, true, false, List, [], ◌∷◌, Some, refl, ap, sym, ◌∙◌, drop, slice_get, if◌then◌else◌, arith}
use Rattle.beldi_value.specs.declared.place.Place.{Place}
use Rattle.beldi_row.specs.{declared.notes.Note.Note, Log.place_eq, Log.note_at, Log.note_of, Log.index_from, Log.index_at, Log.NotedAt}

front : {X : Type 0} (xs : List X) (i : ℕ) (y : X) (ys : List X) → drop i xs ≡ y ∷ ys → (slice_get xs i ≡ Some y) × (drop (suc i) xs ≡ ys)
front [] zero y ys h = cc
front [] (suc i) y ys h = cc
front (x ∷ xs) zero y ys h = (cc, cc)
front (x ∷ xs) (suc i) y ys h = front xs i y ys h

from : (all : List (Place × Note)) (i : ℕ) (es : List (Place × Note)) (p : Place) → drop i all ≡ es → note_at es p ≡ note_at all p → NotedAt all p (index_from i es p)
from all i [] p h same = sym same
from all i (e ∷ es) p h same =
    let f = front all i e es h in
    let next : i + 1 ≡ suc i = omega arith in
    (elim (place_eq e.0 p) as (λ b. (if b then Some e.1 else note_at es p) ≡ note_at all p → NotedAt all p (if b then Some i else index_from (i + 1) es p)) [
      | true ↦ λ s. (e.1, ap note_of f.0, sym s)
      | false ↦ λ s. from all (i + 1) es p (ap (λ k. drop k all) next ∙ f.1) s
    ]) same

pub note_found : (es : List (Place × Note)) (p : Place) → NotedAt es p (index_at es p)
note_found es p = from es 0 es p refl refl
