use Rattle.std.specs.Ordering.{is_lt}
use Rattle.std.proofs.Common.{◌≡◌, ℕ, ◌+◌, ◌-◌, ◌<◌, ◌≤◌, true, false, length, slice_index_or}
use Rattle.beldi_region.specs.{Region.find, SlotOrder.side, declared.region.SlotId.SlotId}
use Rattle.beldi_region.proofs.block.Block.past.Given as goal

abbrev pub invariant-loop-low : goal.invariant-loop-low
invariant-loop-low l =
    let ids = l.ids in
    record {
      some : 0 < l.low;
      ordered : l.low ≤ l.high;
      fits : l.high ≤ length ids;
      below : (j : ℕ) (d : SlotId) → j + 1 ≡ l.low → is_lt (side l.key (find l.region (slice_index_or ids j d))) ≡ false;
      above : (d : SlotId) → l.high < length ids → is_lt (side l.key (find l.region (slice_index_or ids l.high d))) ≡ true;
    }

abbrev pub decreases-loop-low : goal.decreases-loop-low
decreases-loop-low l = l.high - l.low
