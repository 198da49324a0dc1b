-- Places that are one, and logs with a note more.
use lib.Pointwise.{pointwise}
use Rattle.std.proofs.Common.{◌≡◌, ℕ, ◌==◌, ◌&&◌, Bool, true, false, List, [], ◌∷◌, ◌++◌, Option, None, Some, refl, ap, sym, ◌∙◌, subst, eqb-true, eq-eqb, if◌then◌else◌}
use Rattle.beldi_value.specs.declared.{id.IntentId.IntentId, place.Place.Place}
use Rattle.beldi_row.specs.{declared.notes.Note.Note, Log.note_at, Log.place_eq, Log.id_eq, Log.NoneTwice}

-- ---- intents and places
both : (a b : Bool) → (a && b) ≡ true → (a ≡ true) × (b ≡ true)
both true b h = (refl, h)
both false b h = cc

hops_same : (xs ys : List ℕ) → pointwise ◌==◌ xs ys ≡ true → xs ≡ ys
hops_same [] [] h = refl
hops_same [] (y ∷ ys) h = cc
hops_same (x ∷ xs) [] h = cc
hops_same (x ∷ xs) (y ∷ ys) h = let e = both (x == y) (pointwise ◌==◌ xs ys) h in λ i. eqb-true x y e.0 i ∷ hops_same xs ys e.1 i

hops_self : (xs : List ℕ) → pointwise ◌==◌ xs xs ≡ true
hops_self [] = refl
hops_self (x ∷ xs) = ap (λ b. b && pointwise ◌==◌ xs xs) (eq-eqb x x refl) ∙ hops_self xs

pub id_same : (a b : IntentId) → id_eq a b ≡ true → a ≡ b
id_same a b h = let e = both (a.ticket == b.ticket) (pointwise ◌==◌ a.hops b.hops) h in λ i. record { ticket = eqb-true a.ticket b.ticket e.0 i; hops = hops_same a.hops b.hops e.1 i }

pub id_self : (a : IntentId) → id_eq a a ≡ true
id_self a = ap (λ b. b && pointwise ◌==◌ a.hops a.hops) (eq-eqb a.ticket a.ticket refl) ∙ hops_self a.hops

pub place_same : (a b : Place) → place_eq a b ≡ true → a ≡ b
place_same a b h =
    let e = both (id_eq a.intent b.intent) (a.step == b.step) h in
    λ i. record { intent = id_same a.intent b.intent e.0 i; step = eqb-true a.step b.step e.1 i }

pub place_self : (a : Place) → place_eq a a ≡ true
place_self a = ap (λ b. b && (a.step == a.step)) (id_self a.intent) ∙ eq-eqb a.step a.step refl

-- ---- logs
none_of : (b : Bool) (y : Note) (r : Option Note) → (if b then Some y else r) ≡ None → (b ≡ false) × (r ≡ None)
none_of true y r h = cc
none_of false y r h = (refl, h)

pub note_here : (es : List (Place × Note)) (p : Place) (w : Note) → note_at es p ≡ None → note_at (es ++ (p, w) ∷ []) p ≡ Some w
note_here [] p w h = ap (λ b. if b then Some w else None) (place_self p)
note_here (e ∷ es) p w h =
    let g = none_of (place_eq e.0 p) e.1 (note_at es p) h in
    ap (λ b. if b then Some e.1 else note_at (es ++ (p, w) ∷ []) p) g.0 ∙ note_here es p w g.1

note_there : (es : List (Place × Note)) (p a : Place) (w : Note) → place_eq p a ≡ false → note_at (es ++ (p, w) ∷ []) a ≡ note_at es a
note_there [] p a w h = ap (λ b. if b then Some w else None) h
note_there (e ∷ es) p a w h = ap (λ r. if place_eq e.0 a then Some e.1 else r) (note_there es p a w h)

-- a note put at the end, of a place that had none
pub note_pushed : (es : List (Place × Note)) (p a : Place) (w : Note) → note_at es p ≡ None → note_at (es ++ (p, w) ∷ []) a ≡ (if place_eq p a then Some w else note_at es a)
note_pushed es p a w h = elim (place_eq p a) as (λ b. place_eq p a ≡ b → note_at (es ++ (p, w) ∷ []) a ≡ (if b then Some w else note_at es a)) [
  | true ↦ λ e. subst (λ z. note_at (es ++ (p, w) ∷ []) z ≡ Some w) (place_same p a e) (note_here es p w h)
  | false ↦ λ e. note_there es p a w e
] refl

pub place_turned : (p a : Place) → place_eq a p ≡ false → place_eq p a ≡ false
place_turned p a h = elim (place_eq p a) as (λ b. place_eq p a ≡ b → b ≡ false) [
  | true ↦ λ e. sym (subst (λ z. place_eq z p ≡ true) (place_same p a e) (place_self p)) ∙ h
  | false ↦ λ e. refl
] refl

pub once_pushed : (es : List (Place × Note)) (p : Place) (w : Note) → note_at es p ≡ None → NoneTwice es → NoneTwice (es ++ (p, w) ∷ [])
once_pushed [] p w h n = (refl, tt)
once_pushed (e ∷ es) p w h n =
    let g = none_of (place_eq e.0 p) e.1 (note_at es p) h in
    (note_there es p e.0 w (place_turned p e.0 g.0) ∙ n.0, once_pushed es p w g.1 n.1)
