-- Turns of a log collector over a row of an item: where it stands after each, and which rows it leaves.
use Rattle.std.specs.Prelude.{◌==◌, nat_lt, not, is_some, ◌&&◌}
use Rattle.std.specs.FinMap as map
use Rattle.std.proofs.Common.{◌≡◌, ℕ, ◌<◌, Bool, true, false, List, [], ◌∷◌, Option, None, Some, refl, ap, ◌∙◌, arith, inl, inr, eq-eqb, ne_eqb, lt-ltb, le-ltb}
use Rattle.beldi_value.specs.declared.id.IntentId.{IntentId}
use Rattle.beldi_row.specs.declared.act.Act.TheVariants.{Look, MarkCell, SkipCell, DangleCell, DropCell}
use Rattle.beldi_row.specs.Act.{act, dangle_by, is_past, leads_from, mark_by, removed_reply, skip_by, stays_unless}
use Rattle.beldi_row.specs.{Key.RowKey, Key.at_row, Key.row_of, Table.Rows, Table.set_row, declared.row.Cell.Cell, declared.row.Row.Row}
use Rattle.beldi_row.proofs.Unchanged.{looked}
use Rattle.beldi_query.specs.Query.{replied}
use Rattle.beldi_intent.specs.Intent.{intent_key}
use Rattle.beldi_prune.specs.Prune.{at_next, is_recyclable, led_next, mark_output, marked_next, past, output_if, stand, stand_if, to_prove}
use Rattle.beldi_prune.specs.{CellEntries.IsOf, PruneLaws.IsOldAt, Unlink.is_did, Unlink.lead_to, Unlink.step_to, Unlink.told_marked, Unlink.told_next}
use Rattle.beldi_prune.specs.declared.collector.{GcOutput.GcOutput, GcOutput.TheVariants.Skipped, GcOutput.TheVariants.Dangled, GcOutput.TheVariants.Removed}
use Rattle.beldi_prune.specs.declared.collector.CollectorAt.{CollectorAt, TheVariants.ToProve, TheVariants.ToMark, TheVariants.ToLead, TheVariants.ToSkip, TheVariants.ToDangle, TheVariants.ToDropCell}
use Rattle.beldi_sweep.specs.Sweep.{Sweep, is_round}
use Rattle.beldi_sweep.proofs.Going.{Comes, Turns, sweep, turn_then}

-- ---- none but one before a row ends the round
not_round_if : (s : GcOutput) → is_round s ≡ false → (b : Bool) → is_round (output_if s b) ≡ false
not_round_if s h true = h
not_round_if s h false = refl

not_round_marked : (o : Option ℕ) → is_round (mark_output o) ≡ false
not_round_marked None = refl
not_round_marked (Some to) = refl

-- ---- what a look at an intent that is gone or old tells
pub old_recyclable : (life now : ℕ) (o : Option Row) → IsOldAt life now o → is_recyclable life now (replied (act Look now o).1) ≡ true
old_recyclable life now None old = refl
old_recyclable life now (Some (Row.Intent i)) old = old
old_recyclable life now (Some r) old = absurd old

module _ (newest life now : ℕ) (cursor : RowKey) where
  abbrev pub stands : CollectorAt → Rows → Sweep
  stands a m = sweep (stand cursor a) m

  module _ (m : Rows) (k : RowKey) where
    -- ---- its intents are looked at
    proves_one : (i : IntentId) (is : List IntentId) → IsOldAt life now (map.get m (intent_key i k.home)) → Turns newest life now (stands (ToProve k i is) m) (stands (to_prove k is) m)
    proves_one i is old = let recyclable = old_recyclable life now (map.get m (intent_key i k.home)) old in record {
      goes_on = refl;
      leads = λ j. sweep (ap (stand_if cursor k (to_prove k is)) recyclable j) (looked now (intent_key i k.home) m j);
    }

    pub proves : (is : List IntentId) → ((i : IntentId) → IsOf is i → IsOldAt life now (map.get m (intent_key i k.home))) → (t : Sweep) → Comes newest life now (stands (ToMark k) m) t
        → Comes newest life now (stands (to_prove k is) m) t
    proves [] old t path = path
    proves (i ∷ is) old t path =
        turn_then newest life now (stands (ToProve k i is) m) (stands (to_prove k is) m) t (proves_one i is (old i (inl refl))) (proves is (λ j of. old j (inr of)) t path)

    -- ---- a cell with a next is marked
    pub marks : (c : Cell) (to : ℕ) → map.get m k ≡ Some (Row.Cell c) → c.next ≡ Some to → Turns newest life now (stands (ToMark k) m) (stands (ToLead k to 0) (set_row m k (Some (Row.Cell (record c { marked = true })))))
    marks c to there next = record {
      goes_on = not_round_marked (told_marked (replied (act MarkCell now (map.get m k)).1));
      leads = ap (λ o. sweep (at_next newest life now cursor (ToMark k) (replied (act MarkCell now o).1)) (set_row m k (act MarkCell now o).0)) there
          ∙ ap (λ o. sweep (marked_next cursor k (told_marked (replied (mark_by o c).1))) (set_row m k (Some (Row.Cell (mark_by o c).0)))) next;
    }

    -- ---- the first row leads to it, or past it
    module _ (to : ℕ) (c : Cell) (y : ℕ) (there : map.get m (at_row k 0) ≡ Some (Row.Cell c)) (next : c.next ≡ Some y) where
      leads_by : (same below : Bool) → (y == row_of k.kind) ≡ same → nat_lt y (row_of k.kind) ≡ below → Turns newest life now (stands (ToLead k to 0) m) (stands (step_to k to 0 y same below) m)
      leads_by same below is less = record {
        goes_on = refl;
        leads = (λ j. sweep (led_next cursor k to 0 (told_next (replied (act Look now (there j)).1))) (looked now (at_row k 0) m j))
            ∙ ap (λ o. stands (lead_to k to 0 o) m) next
            ∙ (λ j. stands (step_to k to 0 y (is j) (less j)) m);
      }

      pub leads_there : y ≡ row_of k.kind → Turns newest life now (stands (ToLead k to 0) m) (stands (ToSkip k to 0) m)
      leads_there is = leads_by true (nat_lt y (row_of k.kind)) (eq-eqb y (row_of k.kind) is) refl

      pub leads_past : row_of k.kind < y → Turns newest life now (stands (ToLead k to 0) m) (stands (ToDangle k) m)
      leads_past less = leads_by false false (ne_eqb y (row_of k.kind) (λ same. omega (arith, same, less))) (le-ltb y (row_of k.kind) (omega (arith, less)))

    -- ---- .. and then leads past it
    pub skips : (to : ℕ) (c : Cell) → map.get m (at_row k 0) ≡ Some (Row.Cell c) → c.marked ≡ false → c.next ≡ Some (row_of k.kind) → row_of k.kind < to
        → Turns newest life now (stands (ToSkip k to 0) m) (stands (ToDangle k) (set_row m (at_row k 0) (Some (Row.Cell (record c { next = Some to })))))
    skips to c there unmarked next less =
        let may : (not c.marked && leads_from (row_of k.kind) c.next && nat_lt (row_of k.kind) to) ≡ true =
        (λ j. not (unmarked j) && leads_from (row_of k.kind) (next j) && lt-ltb (row_of k.kind) to less j) ∙ ap (λ b. b && true) (eq-eqb (row_of k.kind) (row_of k.kind) refl) in
        record {
          goes_on = not_round_if Skipped refl (is_did (replied (act (SkipCell (row_of k.kind) to) now (map.get m (at_row k 0))).1));
          leads = ap (λ o. sweep (at_next newest life now cursor (ToSkip k to 0) (replied (act (SkipCell (row_of k.kind) to) now o).1)) (set_row m (at_row k 0) (act (SkipCell (row_of k.kind) to) now o).0)) there
              ∙ ap (λ b. sweep (stand_if cursor k (ToDangle k) (is_did (replied (skip_by b to c).1))) (set_row m (at_row k 0) (Some (Row.Cell (skip_by b to c).0)))) may;
        }

    -- ---- it is adrift from now on
    pub dangles : (c : Cell) → map.get m k ≡ Some (Row.Cell c) → c.marked ≡ true → c.dangled ≡ None → Turns newest life now (stands (ToDangle k) m) (sweep (past k) (set_row m k (Some (Row.Cell (record c { dangled = Some now })))))
    dangles c there marked fresh =
        let may : (c.marked && not (is_some c.dangled)) ≡ true = λ j. marked j && not (is_some (fresh j)) in
        record {
          goes_on = not_round_if Dangled refl (is_did (replied (act DangleCell now (map.get m k)).1));
          leads = ap (λ o. sweep (past k) (set_row m k (act DangleCell now o).0)) there ∙ ap (λ b. sweep (past k) (set_row m k (Some (Row.Cell (dangle_by b now c).0)))) may;
        }

    -- ---- one that is so for more than a life goes
    pub drops : (c : Cell) → map.get m k ≡ Some (Row.Cell c) → is_past life now c.dangled ≡ true → Turns newest life now (stands (ToDropCell k) m) (sweep (past k) (set_row m k None))
    drops c there old = record {
      goes_on = not_round_if Removed refl (is_did (replied (act (DropCell life) now (map.get m k)).1));
      leads = ap (λ o. sweep (past k) (set_row m k (act (DropCell life) now o).0)) there ∙ ap (λ b. sweep (past k) (set_row m k (stays_unless b (Row.Cell c, removed_reply b)).0)) old;
    }
