-- What a turn of the intent collector tells.
use Rattle.std.specs.Option.{option_map}
use Rattle.std.proofs.Common.{◌≡◌, Bool, true, false, if◌then◌else◌, Option, None, Some, refl, ap, sym, ◌∙◌}
use Rattle.beldi_value.specs.declared.id.IntentId.{IntentId}
use Rattle.beldi_row.specs.{Key.RowKey, declared.key.Kind.Kind, declared.row.Body.Body, declared.row.IntentRow.IntentRow, declared.row.Row.Row, Table.Rows, Table.next_row}
use Rattle.beldi_query.proofs.Promises.{turned}
use Rattle.beldi_intent.specs.Intent.{is_ended}
use Rattle.beldi_collect.specs.Cursor.{cursor_asks, cursor_next, cursor_output, goes_on, open_output, row_told, IsUnended, CursorTurn, NextIntentIsTold}
use Rattle.beldi_collect.specs.{declared.intent_cursor.IntentCursor.IntentCursor, Collect.found_output, Collect.open_at, Collect.row_output}

same_intent : (i j : IntentRow) (r : Row) → r ≡ Row.Intent i → r ≡ Row.Intent j → i ≡ j
same_intent i j r a b = cc

module _ (c : IntentCursor) (m : Rows) (k : RowKey) (r : Row) (next : next_row m c.at ≡ Some (k, r)) where
  abbrev Turn : Option (IntentId × Body) → Type 0
  Turn o = CursorTurn c (goes_on c (row_output k o)) m m (open_output o)

  passes : ((id : IntentId) (b : Body) → IsUnended k r id b → ⊥) → Turn None
  passes none = record { rows = refl; said = ((k, r), next, refl, none) }

  stops : (id : IntentId) (i : IntentRow) → k.kind ≡ Kind.Intent id → r ≡ Row.Intent i → (b : Bool) → is_ended i ≡ b → (o : Option Body) → i.body ≡ o
      → Turn (option_map (λ x. (id, x)) (if b then None else o))
  stops id i at is true ended o has = passes (λ j b u. let clash : true ≡ false = sym ended ∙ ap is_ended (same_intent i u.intent r is u.row) ∙ u.lasts in cc)
  stops id i at is false lasts None has = passes (λ j b u. let clash : None ≡ Some b = sym has ∙ ap (λ (z : IntentRow). z.body) (same_intent i u.intent r is u.row) ∙ u.body in cc)
  stops id i at is false lasts (Some b) has = record { rows = refl; said = ((k, r), next, record { intent = i; key = at; row = is; lasts = lasts; body = has }, refl, refl) }

  by_row : (kind : Kind) → k.kind ≡ kind → (s : Row) → r ≡ s → Turn (open_at kind s)
  by_row (Kind.Intent id) at (Row.Intent i) is = stops id i at is (is_ended i) refl i.body refl
  by_row (Kind.Intent id) at s is = passes (λ j b u. let clash = sym is ∙ u.row in cc)
  by_row kind at s is = passes (λ j b u. let clash = sym at ∙ u.key in cc)

made : (c : IntentCursor) (m : Rows) (o : Option (RowKey × Row)) → next_row m c.at ≡ o → CursorTurn c (goes_on c (found_output o)) m m (row_told o)
made c m None is = record { rows = refl; said = (is, refl) }
made c m (Some e) is = by_row c m e.0 e.1 is e.0.kind refl e.1 refl

pub next_is_told : NextIntentIsTold
next_is_told c x now old new s h = turned (cursor_asks c) now (cursor_next c) (cursor_output c) (λ m n z. CursorTurn c z.0 m n z.1) (λ m. made c m (next_row m c.at) refl) c x old new s h
