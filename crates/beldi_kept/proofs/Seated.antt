-- Each entry of a kept row of an item is of an intent that has its row.
use Rattle.std.specs.FinMap as map
use Rattle.std.proofs.Common.{◌≡◌, inl, inr, ℕ, Bool, true, false, List, [], ◌∷◌, Option, Some, is_some, if◌then◌else◌, refl, ap, sym, ◌∙◌}
use Rattle.beldi_value.specs.declared.{id.IntentId.IntentId, place.Place.Place}
use Rattle.beldi_tree.specs.declared.deployment.Deployment.{Deployment}
use Rattle.beldi_plain.specs.Item.{Item}
use Rattle.beldi_row.specs.{Key.at_row, Log.note_at, Log.place_eq, Table.Rows, declared.notes.Note.Note, declared.row.Cell.Cell, declared.row.Row.Row}
use Rattle.beldi_row.proofs.Logs.{place_self}
use Rattle.beldi_chain.specs.Chain.{chain}
use Rattle.beldi_intent.specs.Intent.{intent_key}
use Rattle.beldi_prune.specs.CellEntries.{HasEntryOf}
use Rattle.beldi_step.specs.HostStep.{Core}
use Rattle.beldi_histories.specs.Contents.{head_key}
use Rattle.beldi_upkeep.specs.{Passed.has_note, Upkeep.Upkeep}
use Rattle.beldi_upkeep.proofs.RowNotes.{row_noted}

-- an entry's intent has a place with a note
pub record HasNotedPlace (es : List (Place × Note)) (i : IntentId) : Type 0 where
  pub place : Place
  pub intent : place.intent ≡ i
  pub noted : is_some (note_at es place) ≡ true

pub noted_place : (es : List (Place × Note)) (i : IntentId) → HasEntryOf es i → HasNotedPlace es i
noted_place [] i of = absurd of
noted_place (e ∷ es) i (inl same) = record { place = e.0; intent = sym same; noted = ap (λ b. is_some (if b then Some e.1 else note_at es e.0)) (place_self e.0) }
noted_place (e ∷ es) i (inr of) = let z = noted_place es i of in record { place = z.place; intent = z.intent; noted = by_test (place_eq e.0 z.place) (note_at es z.place) z.noted }
  where
    by_test : (b : Bool) (o : Option Note) → is_some o ≡ true → is_some (if b then Some e.1 else o) ≡ true
    by_test true o some = refl
    by_test false o some = some

pub entries_have_rows : (d : Deployment) (c : Core) (kept : Rows) → Upkeep d c kept → (x : Item) (r : ℕ) (k : Cell) → map.get kept (at_row (head_key x) r) ≡ Some (Row.Cell k) → (i : IntentId) → HasEntryOf k.log i → is_some (map.get kept (intent_key i x.func)) ≡ true
entries_have_rows d c kept u x r k is i of =
    let z = noted_place k.log i of in
    let noted = row_noted (chain kept (head_key x)) z.place (u.invariant.rows.chains x) r (ap (has_note z.place) is ∙ z.noted) in
    ap (λ j. is_some (map.get kept (intent_key j x.func))) (sym z.intent) ∙ u.seats.noted_has_row x z.place noted
