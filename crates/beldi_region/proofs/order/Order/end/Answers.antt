use Rattle.std.proofs.Common.{◌-◌, ◌+◌, ap, ◌∙◌, length, arith}
use Rattle.beldi_region.specs.Blocks.{before}
use Rattle.beldi_region.proofs.Spots.{at_end}
use Rattle.beldi_region.proofs.order.Order.end.Goals as goal

pub returns-clause-place : goal.returns-clause-place
returns-clause-place c =
    let bs = c.args.self.now.blocks.lists in
    let n = c.len-blocks.result - 1 in
    let some = c.if-blocks-eq0.false in
    let long = c.len-blocks.ensures in
    ap (λ m. before bs n + m) (c.len.ensures.len ∙ ap length c.get.ensures) ∙ at_end bs n (omega (arith, some, long))
