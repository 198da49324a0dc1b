-- Over rows that are all there no turn of a log collector leads past a row, or leaves one adrift.
use Rattle.std.specs.FinMap as map
use Rattle.std.specs.Prelude.{Result, Ok, Err, IfOk}
use Rattle.std.specs.declared.alloc.AllocError.{AllocError}
use Rattle.std.proofs.Common.{◌≡◌, ℕ, true, false, Option, Some, None, is_some, refl, sym, ◌∙◌, subst, arith}
use Rattle.beldi_tree.specs.declared.deployment.Deployment.{Deployment}
use Rattle.beldi_plain.specs.Item.{Item}
use Rattle.beldi_row.specs.{Key.RowKey, Key.at_row, Key.row_of, Table.Rows, declared.row.Cell.Cell, declared.row.Row.Row, declared.table.TableErr.TableErr}
use Rattle.beldi_chain.specs.Chain.{Chain, chain}
use Rattle.beldi_links.specs.Links.{Linked}
use Rattle.beldi_links.proofs.Meets.{rows_below}
use Rattle.beldi_splice.proofs.{Alike.before_last, Alike.fits_at, Both.there_linked}
use Rattle.beldi_prune.specs.{Changed.HasDangled, Changed.HasSkipped, Collectors.collector_at, Prune.prune_output}
use Rattle.beldi_prune.specs.PruneLaws.{IsBegun, IsOutputOf, TurnedOn, is_behind, rows_turned, told}
use Rattle.beldi_prune.specs.declared.collector.{LogCollector.LogCollector, GcOutput.GcOutput, GcOutput.TheVariants.Going, GcOutput.TheVariants.Marked, GcOutput.TheVariants.Skipped, GcOutput.TheVariants.Dangled, GcOutput.TheVariants.Removed, GcOutput.TheVariants.Round}
use Rattle.beldi_prune.specs.declared.collector.CollectorAt.{TheVariants.ToSkip}
use Rattle.beldi_prune.proofs.PruneOutput.{say_what_they_did}
use Rattle.beldi_step.specs.{HostStep.Core, Prunes.PrunesOnBy, Prunes.bar_of, Prunes.pruned_by, Prunes.output_pruned, declared.event.Pruned.Pruned}
use Rattle.beldi_histories.specs.Contents.{head_key}
use Rattle.beldi_upkeep.specs.Upkeep.{Upkeep}
use Rattle.beldi_kept.specs.{KeptRows.HasKept, Safe.Collects, Safe.Found, Safe.IsMarkedTo, Safe.IsSafe, Safe.PruningsLeaveWhole, Safe.takes}
use Rattle.beldi_kept.proofs.{Collecting.by_taken, Collecting.prunings_move, Collecting.upkept, Passing.behind_item}

-- ---- rows that are all there
module _ (d : Deployment) (c : Core) (m : Rows) (u : Upkeep d c m) where
  -- none is marked
  unmarked_at : (x : Item) (r : ℕ) (v : Cell) → map.get m (at_row (head_key x) r) ≡ Some (Row.Cell v) → v.marked ≡ false
  unmarked_at x r v is = let f : Chain = chain m (head_key x) in (fits_at f (there_linked f (u.invariant.rows.chains x) r (Row.Cell v) is) r v is).marked

  not_marked : (k : RowKey) → is_behind k.kind ≡ true → (v : Cell) → map.get m k ≡ Some (Row.Cell v) → v.marked ≡ true → ⊥
  not_marked k behind = behind_item k (λ q. (v : Cell) → map.get m q ≡ Some (Row.Cell v) → v.marked ≡ true → ⊥) behind (λ x r later v is marked. let clash = sym marked ∙ unmarked_at x r v is in cc)

  -- and a row that one leads to is there
  marked_row : (to : ℕ) (o : Option Row) → is_some o ≡ true → IsMarkedTo to o → (v : Cell) × (o ≡ Some (Row.Cell v)) × (v.marked ≡ true)
  marked_row to (Some (Row.Cell v)) there mark = (v, refl, mark.0)
  marked_row to None there mark = cc
  marked_row to (Some r) there mark = absurd mark

  not_led : (k : RowKey) → is_behind k.kind ≡ true → (at to : ℕ) (v : Cell) → map.get m (at_row k at) ≡ Some (Row.Cell v) → v.next ≡ Some (row_of k.kind) → IsMarkedTo to (map.get m k) → ⊥
  not_led k behind = behind_item k (λ q. (at to : ℕ) (v : Cell) → map.get m (at_row q at) ≡ Some (Row.Cell v) → v.next ≡ Some (row_of q.kind) → IsMarkedTo to (map.get m q) → ⊥) behind
      (λ x r later at to v is next mark.
      let f : Chain = chain m (head_key x) in
      let l : Linked f = there_linked f (u.invariant.rows.chains x) at (Row.Cell v) is in
      let one = l.numbers at v r is next in
      let low = before_last f l at v r is next in
      let z = marked_row to (f r) (rows_below f l l.last r (Row.Cell l.tail) l.there (omega (arith, one, low))) mark in
      let clash = sym z.2 ∙ unmarked_at x r z.0 z.1 in cc)

  module _ (h : HasKept d c m) (w : LogCollector) (has : Collects d c m h w) (n : Rows) where
    at_right : (r : HasSkipped w.at m n) → IsBegun c.newest w.cursor (ToSkip r.key r.to r.at)
    at_right r = subst (IsBegun c.newest w.cursor) r.begun has.invariant

    no_skip : HasSkipped w.at m n → ⊥
    no_skip r = not_led r.key (at_right r).1 r.at r.to r.cell r.there r.next (subst (Found d c m h) r.begun has.found).1

    no_dangle : HasDangled c.now w.at m n → ⊥
    no_dangle r = not_marked r.key (subst (IsBegun c.newest w.cursor) r.begun has.invariant).1 r.cell r.there r.marked

    same_said : (s : GcOutput) → IsOutputOf d.life c.now w m n s → takes (output_pruned s) ≡ false → n ≡ m
    same_said Going is none = is
    same_said Marked is none = cc
    same_said Skipped is none = absurd (no_skip is)
    same_said Dangled is none = absurd (no_dangle is)
    same_said Removed is none = cc
    same_said Round is none = is.0

module _ (d : Deployment) (k : ℕ) (c : Core) (m : Rows) (h : IsSafe d c m) (u : Upkeep d c m) (t old new : ℕ) (b : Core) (n : Rows) (x : Result Pruned AllocError) where
  abbrev w : LogCollector
  w = collector_at c.collectors k

  said_whole : (s : Result GcOutput TableErr) (y : LogCollector) → TurnedOn c.newest d.life c.now w y m n s → x ≡ pruned_by s → IfOk x (λ y. takes y ≡ false) → n ≡ m
  said_whole (Ok s) y turn is none =
      turn.1 ∙ same_said d c m u h.has w (h.collects k) (rows_turned d.life c.now w m) (prune_output w (told d.life c.now w m)) (say_what_they_did d.life c.now w m)
      (subst (λ z. takes (output_pruned z) ≡ false) turn.2 (subst (λ z. IfOk z (λ y. takes y ≡ false)) is none))
  said_whole (Err TableErr.OutOfMemory) y turn is none = turn.1
  said_whole (Err TableErr.Failed) y turn is none = turn.1
  said_whole (Err (TableErr.Full live room)) y turn is none = absurd turn

  whole_by : (o : Option Pruned) → PrunesOnBy o d old new k (record c { taken = t }) m b n x → IfOk x (λ y. takes y ≡ false) → n ≡ m
  whole_by (Some y) s none = s.2
  whole_by None s none = said_whole s.0 s.1 s.2 s.4 none

pub prunings_leave_whole : PruningsLeaveWhole
prunings_leave_whole d old new k c b m n x h s none u =
    let moves = prunings_move d old new k c b m n x s in
    let same = by_taken d old new k c b m n x (IfOk x (λ y. takes y ≡ false) → n ≡ m) (λ t. whole_by d k c m h u t old new b n x (bar_of c)) s none in
    subst (λ z. Upkeep d z n) (sym moves.is) (subst (Upkeep d (record c { taken = moves.taken; collectors = moves.collectors })) (sym same) (upkept d c m u c.cursor moves.taken moves.collectors))
