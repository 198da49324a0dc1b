-- The notes of an item are those of its rows.
use Rattle.std.proofs.Common.{Bool, List, None, Option, Some, [], ap, false, if◌then◌else◌, inl, inr, is_some, refl, sym, true, ℕ, ◌+◌, ◌++◌, ◌∙◌, ◌∷◌, ◌≡◌, ◌⊎◌}
use Rattle.beldi_value.specs.declared.place.Place.{Place}
use Rattle.beldi_row.specs.{Log.note_at, Log.place_eq, declared.notes.Note.Note, declared.row.Cell.Cell, declared.row.Row.Row}
use Rattle.beldi_chain.{specs.Chain.Chain, specs.Chain.content, specs.Content.Content, specs.Content.content_in, specs.Content.log_of, proofs.OneRow.no_content}
use Rattle.beldi_links.specs.Links.{IsLinked, LeadsTo, Linked, LinkedFrom, Steps, before}
use Rattle.beldi_links.proofs.{Ways.before_join, Ways.content_is, Ways.join}
use Rattle.beldi_upkeep.specs.Passed.{has_note}

abbrev is_noted : Place → List (Place × Note) → Bool
is_noted p es = is_some (note_at es p)

-- ---- in two lists of notes
noted_after : (es fs : List (Place × Note)) (p : Place) → is_noted p fs ≡ true → is_noted p (es ++ fs) ≡ true
noted_after [] fs p h = h
noted_after (e ∷ es) fs p h = by_test (place_eq e.0 p) (noted_after es fs p h)
  where
    by_test : (b : Bool) → is_noted p (es ++ fs) ≡ true → is_some (if b then Some e.1 else note_at (es ++ fs) p) ≡ true
    by_test true rest = refl
    by_test false rest = rest

noted_before : (es fs : List (Place × Note)) (p : Place) → is_noted p es ≡ true → is_noted p (es ++ fs) ≡ true
noted_before [] fs p h = cc
noted_before (e ∷ es) fs p h = by_test (place_eq e.0 p) h (noted_before es fs p)
  where
    by_test : (b : Bool) → is_some (if b then Some e.1 else note_at es p) ≡ true → (is_noted p es ≡ true → is_noted p (es ++ fs) ≡ true) → is_some (if b then Some e.1 else note_at (es ++ fs) p) ≡ true
    by_test true h rest = refl
    by_test false h rest = rest h

pub noted_in : (es fs : List (Place × Note)) (p : Place) → is_noted p (es ++ fs) ≡ true → (is_noted p es ≡ true) ⊎ (is_noted p fs ≡ true)
noted_in [] fs p h = inr h
noted_in (e ∷ es) fs p h = by_test (place_eq e.0 p) h (noted_in es fs p)
  where
    by_test : (b : Bool) → is_some (if b then Some e.1 else note_at (es ++ fs) p) ≡ true → (is_noted p (es ++ fs) ≡ true → (is_noted p es ≡ true) ⊎ (is_noted p fs ≡ true)) → (is_some (if b then Some e.1 else note_at es p) ≡ true) ⊎ (is_noted p fs ≡ true)
    by_test true h rest = inl refl
    by_test false h rest = rest h

-- ---- a row's own
own_notes : (r : Option Row) → (content_in r).notes ≡ log_of r
own_notes None = refl
own_notes (Some (Row.Cell c)) = refl
own_notes (Some (Row.Intent i)) = refl
own_notes (Some (Row.ReadLog v)) = refl
own_notes (Some (Row.Invoke i)) = refl
own_notes (Some Row.Lockset) = refl

module _ (f : Chain) (p : Place) where
  own_noted : (i : ℕ) → is_noted p (log_of (f i)) ≡ true → has_note p (f i) ≡ true
  own_noted i h = ap (is_noted p) (own_notes (f i)) ∙ h

  -- ---- of rows that are linked
  module _ (l : Linked f) where
    notes_are : (content f).notes ≡ before f 0 l.path.0 ++ l.tail.log
    notes_are = ap (λ (c : Content). c.notes) (content_is f l.path.0 l.last l.tail l.path.1 l.there l.ends l.few)

    -- a note is that of a row on the way
    before_noted : (r : ℕ) (ks : List ℕ) → is_noted p (before f r ks) ≡ true → (i : ℕ) × (has_note p (f i) ≡ true)
    before_noted r [] h = cc
    before_noted r (k ∷ ks) h = elim (noted_in (log_of (f r)) (before f k ks) p h) [
      | inl here ↦ (r, own_noted r here)
      | inr further ↦ before_noted k ks further
    ]

    linked_noted : is_noted p (content f).notes ≡ true → (i : ℕ) × (has_note p (f i) ≡ true)
    linked_noted h = elim (noted_in (before f 0 l.path.0) l.tail.log p (ap (is_noted p) (sym notes_are) ∙ h)) [
      | inl there ↦ before_noted 0 l.path.0 there
      | inr last ↦ (l.last, ap (has_note p) l.there ∙ last)
    ]

    -- the note of a row on the way is one of the item
    on_way : (i : ℕ) (c : Cell) → f i ≡ Some (Row.Cell c) → is_noted p c.log ≡ true → (js : List ℕ) → Steps f 0 js i → (ks : List ℕ) → Steps f i ks l.last → is_noted p (content f).notes ≡ true
    on_way i c is h js to ks further =
        let path : (content f).notes ≡ before f 0 (js ++ ks) ++ l.tail.log = ap (λ (z : Content). z.notes) (content_is f (js ++ ks) l.last l.tail (join f 0 js i ks l.last to further) l.there l.ends l.few) in
        ap (is_noted p) path ∙ by_rest ks further
      where
        by_rest : (ks : List ℕ) → Steps f i ks l.last → is_noted p (before f 0 (js ++ ks) ++ l.tail.log) ≡ true
        by_rest [] at =
            let same : c ≡ l.tail = one (sym is ∙ ap f at ∙ l.there) in
            noted_after (before f 0 (js ++ [])) l.tail.log p (ap (λ (z : Cell). is_noted p z.log) (sym same) ∙ h)
          where
            one : {a b : Cell} → Some (Row.Cell a) ≡ Some (Row.Cell b) → a ≡ b
            one e = cc
        by_rest (k ∷ ks) at = noted_before (before f 0 (js ++ k ∷ ks)) l.tail.log p (ap (is_noted p) (before_join f 0 js i (k ∷ ks) to)
            ∙ noted_after (before f 0 js) (log_of (f i) ++ before f k ks) p (noted_before (log_of (f i)) (before f k ks) p (ap (λ r. is_noted p (log_of r)) is ∙ h)))

    -- .. and the row that is to follow the last has none
    cell_noted : (i : ℕ) (c : Cell) → f i ≡ Some (Row.Cell c) → is_noted p c.log ≡ true → (i ≡ l.last + 1) ⊎ (LeadsTo f 0 i × LeadsTo f i l.last) → is_noted p (content f).notes ≡ true
    cell_noted i c is h (inl after) = let clash = sym h ∙ ap (is_noted p) (l.spare c (ap f (sym after) ∙ is)).log in cc
    cell_noted i c is h (inr path) = on_way i c is h path.0.0 path.0.1 path.1.0 path.1.1

    by_row : (i : ℕ) (r : Option Row) → f i ≡ r → has_note p r ≡ true → is_noted p (content f).notes ≡ true
    by_row i (Some (Row.Cell c)) is h = cell_noted i c is h (l.rest i c is)
    by_row i None is h = cc
    by_row i (Some (Row.Intent x)) is h = cc
    by_row i (Some (Row.ReadLog v)) is h = cc
    by_row i (Some (Row.Invoke x)) is h = cc
    by_row i (Some Row.Lockset) is h = cc

  by_head : (y : Option Row) → f 0 ≡ y → LinkedFrom y f → is_noted p (content f).notes ≡ true → (i : ℕ) × (has_note p (f i) ≡ true)
  by_head None is none h = let clash = sym h ∙ ap (λ (z : Content). is_noted p z.notes) (no_content f is) in cc
  by_head (Some r) is l h = linked_noted l h

  -- a note of the item is that of a row
  pub noted_row : IsLinked f → is_noted p (content f).notes ≡ true → (i : ℕ) × (has_note p (f i) ≡ true)
  noted_row l h = by_head (f 0) refl l h

  none_noted : (i : ℕ) → f i ≡ None → has_note p (f i) ≡ true → ⊥
  none_noted i none h = let clash = sym h ∙ ap (has_note p) none in cc

  from_head : (y : Option Row) → LinkedFrom y f → (i : ℕ) → has_note p (f i) ≡ true → is_noted p (content f).notes ≡ true
  from_head None none i h = absurd (none_noted i (none i) h)
  from_head (Some r) l i h = by_row l i (f i) refl h

  -- .. and that of a row is one of the item
  pub row_noted : IsLinked f → (i : ℕ) → has_note p (f i) ≡ true → is_noted p (content f).notes ≡ true
  row_noted l i h = from_head (f 0) l i h
