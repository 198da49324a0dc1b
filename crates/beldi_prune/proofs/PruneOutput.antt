-- What the turns of a log collector say, and what they leave.
use Rattle.std.specs.FinMap as map
use Rattle.std.specs.Prelude.{nat_lt, not, is_some, ◌&&◌}
use Rattle.std.proofs.lemmas.Bool.{eqb-true, ltb-true, not-true}
use Rattle.std.proofs.Common.{◌≡◌, ℕ, Bool, true, false, Option, None, Some, refl, ap, sym, ◌∙◌, subst}
use Rattle.beldi_row.specs.declared.act.Act.TheVariants.{DropIntent, DropRow, MarkCell, SkipCell, DangleCell, DropCell}
use Rattle.beldi_row.specs.Act.{act, dangle_by, is_adrift, is_left_row, is_old_row, leads_from, mark_by, removed_reply, skip_by, stays_unless}
use Rattle.beldi_row.specs.{Key.RowKey, Key.at_row, Key.row_of, declared.row.Cell.Cell, Table.Rows, Table.next_row, Table.set_row, declared.row.Row.Row}
use Rattle.beldi_row.proofs.{Unchanged.looked, Unchanged.unchanged}
use Rattle.beldi_query.specs.Query.{replied, found}
use Rattle.beldi_intent.specs.Intent.{intent_key}
use Rattle.beldi_prune.specs.{Seat.seat, Prune.before_output, Prune.mark_output, Prune.prune_output, Prune.output_if, Changed.HasSkipped, Unlink.is_did, Unlink.told_marked}
use Rattle.beldi_prune.specs.PruneLaws.{TurnsSayWhatTheyDid, IsOutputOf, rows_turned, told}
use Rattle.beldi_prune.specs.declared.collector.{LogCollector.LogCollector, GcOutput.TheVariants.Removed, GcOutput.TheVariants.Skipped, GcOutput.TheVariants.Dangled}
use Rattle.beldi_prune.specs.declared.collector.CollectorAt.{CollectorAt, TheVariants.Before, TheVariants.ToDropIntent, TheVariants.ToLook, TheVariants.ToDrop, TheVariants.ToProve, TheVariants.ToMark, TheVariants.ToLead, TheVariants.ToSkip, TheVariants.ToDangle, TheVariants.ToDropCell}

found_said : (life now : ℕ) (c : RowKey) (m : Rows) (o : Option (RowKey × Row)) → next_row m c ≡ o → IsOutputOf life now (record { cursor = c; at = Before }) m m (before_output (found o))
found_said life now c m None h = (refl, refl, h)
found_said life now c m (Some e) h = refl

module _ (life now : ℕ) (c : RowKey) (m : Rows) (k : RowKey) where
  kept_row : (r : Row) → map.get m k ≡ Some r → (n : Rows) → n ≡ set_row m k (Some r) → n ≡ m
  kept_row r h n is = is ∙ unchanged m k (Some r) (sym h)

  intent_said : (r : Row) → map.get m k ≡ Some r → (b : Bool) → is_old_row life now r ≡ b → (n : Rows) → n ≡ set_row m k (stays_unless b (r, removed_reply b)).0
      → IsOutputOf life now (record { cursor = c; at = ToDropIntent k }) m n (output_if Removed (is_did (replied (stays_unless b (r, removed_reply b)).1)))
  intent_said r h true old n is = record { key = k; row = r; there = h; goes = (refl, old); gone = is }
  intent_said r h false old n is = kept_row r h n is

  left_said : (r : Row) → map.get m k ≡ Some r → (b : Bool) → (n : Rows) → n ≡ set_row m k (stays_unless b (r, removed_reply b)).0
      → IsOutputOf life now (record { cursor = c; at = ToDrop k }) m n (output_if Removed (is_did (replied (stays_unless b (r, removed_reply b)).1)))
  left_said r h true n is = record { key = k; row = r; there = h; goes = refl; gone = is }
  left_said r h false n is = kept_row r h n is

  drops_intent : (o : Option Row) → map.get m k ≡ o → (n : Rows) → n ≡ set_row m k (act (DropIntent life) now o).0
      → IsOutputOf life now (record { cursor = c; at = ToDropIntent k }) m n (output_if Removed (is_did (replied (act (DropIntent life) now o).1)))
  drops_intent None h n is = is ∙ unchanged m k None (sym h)
  drops_intent (Some r) h n is = intent_said r h (is_old_row life now r) refl n is

  drops_left : (o : Option Row) → map.get m k ≡ o → (n : Rows) → n ≡ set_row m k (act DropRow now o).0
      → IsOutputOf life now (record { cursor = c; at = ToDrop k }) m n (output_if Removed (is_did (replied (act DropRow now o).1)))
  drops_left None h n is = is ∙ unchanged m k None (sym h)
  drops_left (Some r) h n is = left_said r h (is_left_row r) n is

-- ---- the cells of an item
both : (x y : Bool) → (x && y) ≡ true → (x ≡ true) × (y ≡ true)
both true y h = (refl, h)
both false y h = cc

next_is : (f : ℕ) (o : Option ℕ) → leads_from f o ≡ true → o ≡ Some f
next_is f None h = cc
next_is f (Some n) h = ap Some (eqb-true n f h)

none_there : (o : Option ℕ) → is_some o ≡ false → o ≡ None
none_there None h = refl
none_there (Some n) h = cc

module _ (life now : ℕ) (c : RowKey) (m : Rows) (k : RowKey) where
  mark_cell : (x : Cell) → map.get m k ≡ Some (Row.Cell x) → (o : Option ℕ) → x.next ≡ o → (n : Rows) → n ≡ set_row m k (Some (Row.Cell (mark_by o x).0))
      → IsOutputOf life now (record { cursor = c; at = ToMark k }) m n (mark_output (told_marked (replied (mark_by o x).1)))
  mark_cell x h None next n is = kept_row life now c m k (Row.Cell x) h n is
  mark_cell x h (Some to) next n is = record { key = k; cell = x; to = to; begun = refl; there = h; next = next; done = is }

  marks : (o : Option Row) → map.get m k ≡ o → (n : Rows) → n ≡ set_row m k (act MarkCell now o).0
      → IsOutputOf life now (record { cursor = c; at = ToMark k }) m n (mark_output (told_marked (replied (act MarkCell now o).1)))
  marks None h n is = is ∙ unchanged m k None (sym h)
  marks (Some (Row.Cell x)) h n is = mark_cell x h x.next refl n is
  marks (Some (Row.Intent i)) h n is = kept_row life now c m k (Row.Intent i) h n is
  marks (Some (Row.ReadLog v)) h n is = kept_row life now c m k (Row.ReadLog v) h n is
  marks (Some (Row.Invoke v)) h n is = kept_row life now c m k (Row.Invoke v) h n is
  marks (Some Row.Lockset) h n is = kept_row life now c m k Row.Lockset h n is

  dangle_cell : (x : Cell) → map.get m k ≡ Some (Row.Cell x) → (b : Bool) → (x.marked && not (is_some x.dangled)) ≡ b → (n : Rows) → n ≡ set_row m k (Some (Row.Cell (dangle_by b now x).0))
      → IsOutputOf life now (record { cursor = c; at = ToDangle k }) m n (output_if Dangled (is_did (replied (dangle_by b now x).1)))
  dangle_cell x h true so n is = let e = both x.marked (not (is_some x.dangled)) so in
      record { key = k; cell = x; begun = refl; there = h; marked = e.0; fresh = none_there x.dangled (not-true (is_some x.dangled) e.1); done = is }
  dangle_cell x h false so n is = kept_row life now c m k (Row.Cell x) h n is

  dangles : (o : Option Row) → map.get m k ≡ o → (n : Rows) → n ≡ set_row m k (act DangleCell now o).0
      → IsOutputOf life now (record { cursor = c; at = ToDangle k }) m n (output_if Dangled (is_did (replied (act DangleCell now o).1)))
  dangles None h n is = is ∙ unchanged m k None (sym h)
  dangles (Some (Row.Cell x)) h n is = dangle_cell x h (x.marked && not (is_some x.dangled)) refl n is
  dangles (Some (Row.Intent i)) h n is = kept_row life now c m k (Row.Intent i) h n is
  dangles (Some (Row.ReadLog v)) h n is = kept_row life now c m k (Row.ReadLog v) h n is
  dangles (Some (Row.Invoke v)) h n is = kept_row life now c m k (Row.Invoke v) h n is
  dangles (Some Row.Lockset) h n is = kept_row life now c m k Row.Lockset h n is

  adrift_said : (r : Row) → map.get m k ≡ Some r → (b : Bool) → is_adrift life now r ≡ b → (n : Rows) → n ≡ set_row m k (stays_unless b (r, removed_reply b)).0
      → IsOutputOf life now (record { cursor = c; at = ToDropCell k }) m n (output_if Removed (is_did (replied (stays_unless b (r, removed_reply b)).1)))
  adrift_said r h true adrift n is = record { key = k; row = r; there = h; goes = (refl, adrift); gone = is }
  adrift_said r h false adrift n is = kept_row life now c m k r h n is

  drops_adrift : (o : Option Row) → map.get m k ≡ o → (n : Rows) → n ≡ set_row m k (act (DropCell life) now o).0
      → IsOutputOf life now (record { cursor = c; at = ToDropCell k }) m n (output_if Removed (is_did (replied (act (DropCell life) now o).1)))
  drops_adrift None h n is = is ∙ unchanged m k None (sym h)
  drops_adrift (Some r) h n is = adrift_said r h (is_adrift life now r) refl n is

  -- a row leads past that of the key
  module _ (to at : ℕ) where
    skip_cell : (x : Cell) → map.get m (at_row k at) ≡ Some (Row.Cell x) → (b : Bool) → (not x.marked && leads_from (row_of k.kind) x.next && nat_lt (row_of k.kind) to) ≡ b → (n : Rows) → n ≡ set_row m (at_row k at) (Some (Row.Cell (skip_by b to x).0))
        → IsOutputOf life now (record { cursor = c; at = ToSkip k to at }) m n (output_if Skipped (is_did (replied (skip_by b to x).1)))
    skip_cell x h true so n is =
        let e = both (not x.marked && leads_from (row_of k.kind) x.next) (nat_lt (row_of k.kind) to) so in
        let g = both (not x.marked) (leads_from (row_of k.kind) x.next) e.0 in
        record { key = k; to = to; at = at; cell = x; begun = refl; there = h; unmarked = not-true x.marked g.0; next = next_is (row_of k.kind) x.next g.1; rises = ltb-true (row_of k.kind) to e.1; done = is }
    skip_cell x h false so n is = kept_row life now c m (at_row k at) (Row.Cell x) h n is

    skips : (o : Option Row) → map.get m (at_row k at) ≡ o → (n : Rows) → n ≡ set_row m (at_row k at) (act (SkipCell (row_of k.kind) to) now o).0
        → IsOutputOf life now (record { cursor = c; at = ToSkip k to at }) m n (output_if Skipped (is_did (replied (act (SkipCell (row_of k.kind) to) now o).1)))
    skips None h n is = is ∙ unchanged m (at_row k at) None (sym h)
    skips (Some (Row.Cell x)) h n is = skip_cell x h (not x.marked && leads_from (row_of k.kind) x.next && nat_lt (row_of k.kind) to) refl n is
    skips (Some (Row.Intent i)) h n is = kept_row life now c m (at_row k at) (Row.Intent i) h n is
    skips (Some (Row.ReadLog v)) h n is = kept_row life now c m (at_row k at) (Row.ReadLog v) h n is
    skips (Some (Row.Invoke v)) h n is = kept_row life now c m (at_row k at) (Row.Invoke v) h n is
    skips (Some Row.Lockset) h n is = kept_row life now c m (at_row k at) Row.Lockset h n is

by_at : (life now : ℕ) (m : Rows) (c : RowKey) (a : CollectorAt) → let w : LogCollector = record { cursor = c; at = a } in IsOutputOf life now w m (rows_turned life now w m) (prune_output w (told life now w m))
by_at life now m c Before = found_said life now c m (next_row m c) refl
by_at life now m c (ToDropIntent k) = drops_intent life now c m k (map.get m k) refl (rows_turned life now (record { cursor = c; at = ToDropIntent k }) m) refl
by_at life now m c (ToLook k) = looked now (seat k) m
by_at life now m c (ToDrop k) = drops_left life now c m k (map.get m k) refl (rows_turned life now (record { cursor = c; at = ToDrop k }) m) refl
by_at life now m c (ToProve k i is) = looked now (intent_key i k.home) m
by_at life now m c (ToMark k) = marks life now c m k (map.get m k) refl (rows_turned life now (record { cursor = c; at = ToMark k }) m) refl
by_at life now m c (ToLead k to at) = looked now (at_row k at) m
by_at life now m c (ToSkip k to at) = skips life now c m k to at (map.get m (at_row k at)) refl (rows_turned life now (record { cursor = c; at = ToSkip k to at }) m) refl
by_at life now m c (ToDangle k) = dangles life now c m k (map.get m k) refl (rows_turned life now (record { cursor = c; at = ToDangle k }) m) refl
by_at life now m c (ToDropCell k) = drops_adrift life now c m k (map.get m k) refl (rows_turned life now (record { cursor = c; at = ToDropCell k }) m) refl

-- a cell that has the next of a row leads past that, where it says so
pub skips_so : (life now : ℕ) (c k : RowKey) (to at : ℕ) (m : Rows) → is_did (told life now (record { cursor = c; at = ToSkip k to at }) m) ≡ true → HasSkipped (ToSkip k to at) m (rows_turned life now (record { cursor = c; at = ToSkip k to at }) m)
skips_so life now c k to at m is = let w : LogCollector = record { cursor = c; at = ToSkip k to at } in
    subst (λ b. IsOutputOf life now w m (rows_turned life now w m) (output_if Skipped b)) is (by_at life now m c (ToSkip k to at))

pub say_what_they_did : TurnsSayWhatTheyDid
say_what_they_did life now w m = by_at life now m w.cursor w.at
