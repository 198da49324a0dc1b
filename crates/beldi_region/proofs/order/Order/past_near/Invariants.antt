use Rattle.beldi_region.specs.SlotOrder.{IsBehind}
use Rattle.beldi_region.proofs.order.Order.past_near.Given as goal

abbrev pub invariant-loop-left : goal.invariant-loop-left
invariant-loop-left l = record { behind : IsBehind l.region l.self.blocks.lists l.key l.before l.spot }

abbrev pub decreases-loop-left : goal.decreases-loop-left
decreases-loop-left l = l.left
