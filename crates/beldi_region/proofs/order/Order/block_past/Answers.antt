use Rattle.std.proofs.Common.{◌≡◌, true, subst, arith}
use Rattle.beldi_region.specs.{Blocks.block_at, SlotOrder.begins_past}
use Rattle.beldi_region.proofs.order.Order.block_past.Goals as goal

pub returns : goal.returns
returns c =
    let kept = c.loop-low.invariant in
    let bs = c.args.self.now.blocks.lists in
    let ordered = kept.ordered in
    let met : c.loop-low.high ≡ c.loop-low.low = omega (arith, ordered) in
    let long = kept.fits in
    record {
      fits = omega (arith, long, met);
      below = kept.below;
      above = λ l. subst (λ n. begins_past c.args.region.now c.args.key.now (block_at bs n) ≡ true) met (kept.above (omega (arith, l, met)));
    }
