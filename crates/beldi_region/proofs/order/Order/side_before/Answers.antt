use Rattle.std.proofs.Common.{sym, ◌∙◌, arith}
use Rattle.beldi_region.proofs.Near.{behind_slot}
use Rattle.beldi_region.proofs.order.Order.side_before.Goals as goal

pub returns-in-Some : goal.returns-in-Some
returns-in-Some c =
    let first = c.if-spot-eq0.false in
    behind_slot c.args.region.now c.args.self.now.blocks.lists c.args.key.now c.args.spot c.side.result c.in-Some.id (omega (arith, first)) (sym c.slot.ensures.slot ∙ c.in-Some.is) (sym c.side.ensures)
