use Rattle.std.proofs.Common.{Err, subst, sym, ap}
use Rattle.beldi_region.specs.{SlotOrder.IsWithout, SlotOrder.Places, Ids.ids_of, Ids.place_of, Ids.placed}
use Rattle.beldi_region.proofs.{Held.nowhere, Gone.none_less, Gone.one_less}
use Rattle.beldi_region.proofs.order.Order.forget.Goals as goal

pub returns-in-Ok-clause-less : goal.returns-in-Ok-clause-less
returns-in-Ok-clause-less c =
    let r = c.args.region.now in
    let ids = ids_of c.args.self.now in
    let there = c.in-Ok.ensures.places in
    subst (IsWithout r c.args.key.now ids) (sym c.remove.ensures.ids) (one_less r c.args.key.now ids (place_of c.args.self.now c.in-Ok.spot) c.requires there.0 (there.1 nowhere))

pub returns-in_default-clause-less : goal.returns-in_default-clause-less
returns-in_default-clause-less c =
    let r = c.args.region.now in
    let ids = ids_of c.args.self.now in
    let gap = subst (λ x. Places r ids c.args.key.now (placed c.args.self.now x)) c.in_default.is c.place_of.ensures.places in
    none_less r c.args.key.now ids (place_of c.args.self.now c.in_default.field-0) c.requires gap
