-- Rows are ordered where they are sound, and stay so whatever turn a collector takes.
use Rattle.std.specs.Ordering.{is_eq}
use Rattle.std.specs.FinMap as map
use Rattle.std.proofs.Common.{◌≡◌, ℕ, Bool, true, false, cond, List, Some, refl, ap, sym, ◌∙◌, subst, arith}
use Rattle.beldi_row.specs.{declared.key.Kind.Kind, declared.row.Cell.Cell, declared.row.Row.Row, Key.RowKey, Key.at_row, Key.key_cmp, Key.kind_at, Key.row_of, Table.Rows, Table.set_row}
use Rattle.beldi_row.proofs.Gets.{got, key_same}
use Rattle.beldi_chain.specs.Chain.{chain}
use Rattle.beldi_links.proofs.Ways.{one_cell}
use Rattle.beldi_prune.specs.{PruneLaws.IsOutputOf, PruneLaws.rows_turned, PruneLaws.told, Prune.prune_output}
use Rattle.beldi_prune.specs.declared.collector.{LogCollector.LogCollector, GcOutput.GcOutput, GcOutput.TheVariants.Going, GcOutput.TheVariants.Marked, GcOutput.TheVariants.Skipped, GcOutput.TheVariants.Dangled, GcOutput.TheVariants.Removed, GcOutput.TheVariants.Round}
use Rattle.beldi_prune.proofs.PruneOutput.{say_what_they_did}
use Rattle.beldi_sweep.specs.{Rounds.AreOrdered, Rounds.IsOrdered, Rounds.OrderedStayOrdered, Rounds.SoundAreOrdered}
use Rattle.beldi_sweep.proofs.{CellsSound.few_entries, SweptPlaces.gone_less}

-- ---- sound rows are
pub sound_ordered : SoundAreOrdered
sound_ordered m sound k t n q c kind there =
    let here : at_row (at_row k 0) n ≡ k = λ i. record { home = k.home; kind = (ap (λ z. kind_at (kind_at z 0) n) kind ∙ sym kind) i } in
    let item = sound.items k t n q kind in
    let is : chain m (at_row k 0) n ≡ Some (Row.Cell c) = ap (map.get m) here ∙ there in
    record { rises = λ to next. item.rises n to c is next; short = few_entries (chain m (at_row k 0)) item n c is }

-- ---- a cell is set to one that is ordered where that was
module _ (m : Rows) (ordered : AreOrdered m) (k : RowKey) (c d : Cell) (there : map.get m k ≡ Some (Row.Cell c)) (so : (n : ℕ) → IsOrdered n c → IsOrdered n d) where
  set_by : (l : RowKey) (t n : ℕ) (q : List ℕ) (x : Cell) → l.kind ≡ Kind.Data t q n → (b : Bool) → is_eq (key_cmp l k) ≡ b → cond b (Some (Row.Cell d)) (map.get m l) ≡ Some (Row.Cell x) → IsOrdered n x
  set_by l t n q x kind true same is = subst (IsOrdered n) (one_cell d x is) (so n (ordered l t n q c kind (ap (map.get m) (key_same l k same) ∙ there)))
  set_by l t n q x kind false other is = ordered l t n q x kind is

  cell_set : (n : Rows) → n ≡ set_row m k (Some (Row.Cell d)) → AreOrdered n
  cell_set n is l t x q y kind here = set_by l t x q y kind (is_eq (key_cmp l k)) refl (sym (ap (λ z. map.get z l) is ∙ got m k l (Some (Row.Cell d))) ∙ here)

-- ---- whatever a turn said
by_said : (life now : ℕ) (w : LogCollector) (m n : Rows) → AreOrdered m → (s : GcOutput) → IsOutputOf life now w m n s → AreOrdered n
by_said life now w m n ordered Going h = subst AreOrdered (sym h) ordered
by_said life now w m n ordered Marked h = cell_set m ordered h.key h.cell (record h.cell { marked = true }) h.there (λ x o. record { rises = o.rises; short = o.short }) n h.done
by_said life now w m n ordered Skipped h =
    cell_set m ordered (at_row h.key h.at) h.cell (record h.cell { next = Some h.to }) h.there
    (λ x o. record { rises = λ to next. let below = o.rises (row_of h.key.kind) h.next in let above = h.rises in let same : h.to ≡ to = cc in omega (arith, below, above, same); short = o.short }) n h.done
by_said life now w m n ordered Dangled h = cell_set m ordered h.key h.cell (record h.cell { dangled = Some now }) h.there (λ x o. record { rises = o.rises; short = o.short }) n h.done
by_said life now w m n ordered Removed h = λ k t x q c kind there. ordered k t x q c kind (gone_less m h.key k (Row.Cell c) (sym (ap (λ z. map.get z k) h.gone) ∙ there))
by_said life now w m n ordered Round h = subst AreOrdered (sym h.0) ordered

pub ordered_stay : OrderedStayOrdered
ordered_stay life now w m ordered = by_said life now w m (rows_turned life now w m) ordered (prune_output w (told life now w m)) (say_what_they_did life now w m)
