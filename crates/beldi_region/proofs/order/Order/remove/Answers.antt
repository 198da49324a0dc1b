use Rattle.std.proofs.Common.{arith}
use Rattle.beldi_region.proofs.{RegionKept.removes, Spots.at_within}
use Rattle.beldi_region.proofs.order.Order.remove.Goals as goal

pub overflow_sub-self : goal.overflow_sub-self
overflow_sub-self c =
    let o = c.args.self.now in
    let some = at_within o.blocks.lists c.args.spot c.requires in
    let count = o.count in
    omega (arith, some, count)

pub invariant_of-self : goal.invariant_of-self
invariant_of-self c =
    let o = c.args.self.now in
    let gone = removes o.blocks c.remove.new.self c.close_up.new.self c.args.spot o.tight c.requires c.remove.ensures c.close_up.ensures in
    let less = gone.less in
    let all = gone.count in
    let count = o.count in
    let wide = o.wide in
    record { tight = gone.tight; count = omega (arith, less, count); wide = omega (arith, wide, all) }

pub returns-clause-ids : goal.returns-clause-ids
returns-clause-ids c =
    let o = c.args.self.now in
    (removes o.blocks c.remove.new.self c.close_up.new.self c.args.spot o.tight c.requires c.remove.ensures c.close_up.ensures).same
