use Rattle.std.proofs.Common.{◌≡◌, ℕ, ◌+◌, ◌-◌, ◌<◌, ◌≤◌, true, false, length}
use Rattle.beldi_region.specs.{Blocks.block_at, SlotOrder.begins_past}
use Rattle.beldi_region.proofs.order.Order.block_past.Given as goal

abbrev pub invariant-loop-low : goal.invariant-loop-low
invariant-loop-low l =
    let bs = l.self.blocks.lists in
    record {
      ordered : l.low ≤ l.high;
      fits : l.high ≤ length bs;
      below : (j : ℕ) → j + 1 ≡ l.low → begins_past l.region l.key (block_at bs j) ≡ false;
      above : l.high < length bs → begins_past l.region l.key (block_at bs l.high) ≡ true;
    }

abbrev pub decreases-loop-low : goal.decreases-loop-low
decreases-loop-low l = l.high - l.low
