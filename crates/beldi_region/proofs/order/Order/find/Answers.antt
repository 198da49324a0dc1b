use Rattle.std.proofs.Common.{sym, ap, ◌∙◌}
use Rattle.beldi_region.specs.{Region.find, SlotOrder.side}
use Rattle.beldi_region.proofs.Spots.{slot_is}
use Rattle.beldi_region.proofs.order.Order.find.Goals as goal

pub returns-in-Some-clause-finds : goal.returns-in-Some-clause-finds
returns-in-Some-clause-finds c =
    ap (λ x. side c.args.key.now (find c.args.region.now x)) (sym (slot_is c.args.self.now.blocks.lists c.in-Ok.spot c.in-Some.id c.in-Some.id (sym c.slot.ensures.slot ∙ c.in-Some.is)))
    ∙ c.in-Ok.ensures.places.1 c.in-Some.id
