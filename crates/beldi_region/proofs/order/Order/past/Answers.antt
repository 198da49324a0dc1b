use Rattle.std.proofs.Common.{◌-◌, subst, arith}
use Rattle.beldi_region.specs.{Blocks.half_room, SlotOrder.IsPast}
use Rattle.beldi_region.proofs.Spots.{past_in}
use Rattle.beldi_region.proofs.order.Order.past.Goals as goal

pub returns-clause-past : goal.returns-clause-past
returns-clause-past c =
    let o = c.args.self.now in
    let behind = c.block_past-behind.result in
    let some = c.if-behind-eq0.false in
    past_in c.args.region.now c.args.key.now half_room o.blocks.lists behind (behind - 1) c.past.result o.tight (omega (arith, some)) c.block_past-behind.ensures
    (subst (λ b. IsPast c.args.region.now b c.args.key.now c.past.result) c.get.ensures c.past.ensures.past) c.past.ensures.some
