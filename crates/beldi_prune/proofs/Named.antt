-- Each entry of a row is of an intent that is looked at.
use Rattle.std.specs.Prelude.{not}
use Rattle.std.proofs.Common.{◌≡◌, ◌⊎◌, inl, inr, Bool, true, false, List, [], ◌∷◌, Option, None, Some, if◌then◌else◌, refl, ap, sym, ◌∙◌}
use Rattle.beldi_value.specs.declared.{id.IntentId.IntentId, place.Place.Place}
use Rattle.beldi_row.{specs.Log.id_eq, specs.declared.notes.Note.Note, proofs.Logs.id_same}
use Rattle.beldi_prune.specs.CellEntries.{HasEntryOf, IsOf, intents_from, intents_of, is_other}

not_false : (b : Bool) → not b ≡ false → b ≡ true
not_false true h = refl
not_false false h = cc

same_before : (o : Option IntentId) (i : IntentId) → is_other o i ≡ false → o ≡ Some i
same_before None i h = cc
same_before (Some j) i h = ap Some (id_same j i (not_false (id_eq j i) h))

module _ (o : Option IntentId) (x : IntentId) (rest : List IntentId) (i : IntentId) where
  named_here : (b : Bool) → is_other o x ≡ b → i ≡ x → IsOf (if b then x ∷ rest else rest) i ⊎ (o ≡ Some i)
  named_here true is h = inl (inl h)
  named_here false is h = inr (same_before o x is ∙ ap Some (sym h))

  named_later : (b : Bool) → IsOf rest i → IsOf (if b then x ∷ rest else rest) i
  named_later true h = inr h
  named_later false h = h

same_id : (x i : IntentId) → Some x ≡ Some i → i ≡ x
same_id x i h = cc

named_from : (o : Option IntentId) (es : List (Place × Note)) (i : IntentId) → HasEntryOf es i → IsOf (intents_from o es) i ⊎ (o ≡ Some i)
named_from o [] i h = absurd h
named_from o (e ∷ es) i (inl h) = named_here o e.0.intent (intents_from (Some e.0.intent) es) i (is_other o e.0.intent) refl h
named_from o (e ∷ es) i (inr h) = by_rest (named_from (Some e.0.intent) es i h)
  where
    by_rest : IsOf (intents_from (Some e.0.intent) es) i ⊎ (Some e.0.intent ≡ Some i) → IsOf (intents_from o (e ∷ es)) i ⊎ (o ≡ Some i)
    by_rest (inl g) = inl (named_later o e.0.intent (intents_from (Some e.0.intent) es) i (is_other o e.0.intent) g)
    by_rest (inr g) = named_here o e.0.intent (intents_from (Some e.0.intent) es) i (is_other o e.0.intent) refl (same_id e.0.intent i g)

at_first : (es : List (Place × Note)) (i : IntentId) → IsOf (intents_of es) i ⊎ (None ≡ Some i) → IsOf (intents_of es) i
at_first es i (inl h) = h
at_first es i (inr h) = cc

pub named : (es : List (Place × Note)) (i : IntentId) → HasEntryOf es i → IsOf (intents_of es) i
named es i h = at_first es i (named_from None es i h)
