-- No row that a collector leaves adrift is so since a later moment than that of its turn.
use Rattle.std.specs.FinMap as map
use Rattle.std.specs.Ordering.{is_eq}
use Rattle.std.proofs.Common.{◌≡◌, ℕ, zero, suc, ◌+◌, ◌<◌, ◌≤◌, Bool, true, false, cond, is_some, Option, None, Some, refl, ap, sym, ◌∙◌, subst, arith, lt-ltb}
use Rattle.beldi_row.specs.{Act.is_past, Key.RowKey, Key.at_row, Key.key_cmp, Table.Rows, Table.set_row, declared.row.Cell.Cell, declared.row.Row.Row}
use Rattle.beldi_row.proofs.Gets.{got}
use Rattle.beldi_links.proofs.Ways.{one_cell}
use Rattle.beldi_prune.specs.{PruneLaws.IsOutputOf, PruneLaws.rows_turned, PruneLaws.told, Prune.prune_output}
use Rattle.beldi_prune.specs.declared.collector.{LogCollector.LogCollector, GcOutput.GcOutput, GcOutput.TheVariants.Going, GcOutput.TheVariants.Marked, GcOutput.TheVariants.Skipped, GcOutput.TheVariants.Dangled, GcOutput.TheVariants.Removed, GcOutput.TheVariants.Round}
use Rattle.beldi_prune.proofs.PruneOutput.{say_what_they_did}
use Rattle.beldi_sweep.specs.{SweptRows.AreAdriftBy, SweptRows.AreLongAdrift, Sweep.GoesTo, Sweep.Sweep, Sweep.after_turn}

module _ (now : ℕ) (m : Rows) (by : AreAdriftBy now m) where
  -- a cell that is set has a moment that it had, or this one
  cell_set : (l : RowKey) (d : Cell) → ((since : ℕ) → d.dangled ≡ Some since → since ≤ now) → (n : Rows) → n ≡ set_row m l (Some (Row.Cell d)) → AreAdriftBy now n
  cell_set l d early n is k c since there at = by_key (is_eq (key_cmp k l)) (sym (ap (λ x. map.get x k) is ∙ got m l k (Some (Row.Cell d))) ∙ there)
    where
      by_key : (b : Bool) → cond b (Some (Row.Cell d)) (map.get m k) ≡ Some (Row.Cell c) → since ≤ now
      by_key true same = early since (ap (λ (z : Cell). z.dangled) (one_cell d c same) ∙ at)
      by_key false same = by k c since same at

  row_gone : (l : RowKey) (n : Rows) → n ≡ set_row m l None → AreAdriftBy now n
  row_gone l n is k c since there at = by_key (is_eq (key_cmp k l)) (sym (ap (λ x. map.get x k) is ∙ got m l k None) ∙ there)
    where
      by_key : (b : Bool) → cond b None (map.get m k) ≡ Some (Row.Cell c) → since ≤ now
      by_key true same = cc
      by_key false same = by k c since same at

  by_said : (life : ℕ) (w : LogCollector) (n : Rows) (s : GcOutput) → IsOutputOf life now w m n s → AreAdriftBy now n
  by_said life w n Going h = subst (AreAdriftBy now) (sym h) by
  by_said life w n Marked h = cell_set h.key (record h.cell { marked = true }) (λ since at. by h.key h.cell since h.there at) n h.done
  by_said life w n Skipped h = cell_set (at_row h.key h.at) (record h.cell { next = Some h.to }) (λ since at. by (at_row h.key h.at) h.cell since h.there at) n h.done
  by_said life w n Dangled h = cell_set h.key (record h.cell { dangled = Some now }) (λ since at. let same : now ≡ since = cc in omega (arith, same)) n h.done
  by_said life w n Removed h = row_gone h.key n h.gone
  by_said life w n Round h = subst (AreAdriftBy now) (sym h.0) by

pub adrift_by_then : (life now : ℕ) (w : LogCollector) (m : Rows) → AreAdriftBy now m → AreAdriftBy now (rows_turned life now w m)
adrift_by_then life now w m by = by_said now m by life w (rows_turned life now w m) (prune_output w (told life now w m)) (say_what_they_did life now w m)

pub adrift_by_there : (newest life now n : ℕ) (s t : Sweep) → GoesTo newest life now n s t → AreAdriftBy now s.rows → AreAdriftBy now t.rows
adrift_by_there newest life now zero s t path by = subst (λ (x : Sweep). AreAdriftBy now x.rows) (sym path) by
adrift_by_there newest life now (suc n) s t path by = adrift_by_there newest life now n (after_turn newest life now s) t path.1 (adrift_by_then life now s.collector s.rows by)

-- more than a life later each is so for more than a life
pub long_after : (life moment now : ℕ) (m : Rows) → moment + life < now → AreAdriftBy moment m → AreLongAdrift life now m
long_after life moment now m later by k c there adrift = by_moment c.dangled refl adrift
  where
    by_moment : (o : Option ℕ) → c.dangled ≡ o → is_some o ≡ true → is_past life now o ≡ true
    by_moment None at some = cc
    by_moment (Some since) at some = let early = by k c since there at in lt-ltb (since + life) now (omega (arith, early, later))
