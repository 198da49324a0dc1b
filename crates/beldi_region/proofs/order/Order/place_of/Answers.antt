use Rattle.std.specs.{Cmp.Equal-is, Ordering.is_eq}
use Rattle.std.proofs.Common.{◌≡◌, ◌-◌, Some, slice_index_or, sym, ap, ◌∙◌, arith}
use Rattle.beldi_region.specs.{Region.find, Blocks.slot_at, SlotOrder.side, Ids.ids_of, Ids.place_of, declared.blocks.Spot.Spot}
use Rattle.beldi_region.proofs.{Held.gap_before, Held.gap_past, Spots.at_slot, Spots.at_within, Spots.slot_is, Spots.one_before}
use Rattle.beldi_region.proofs.order.Order.place_of.Goals as goal

pub returns-then-is_eq-clause-places : goal.returns-then-is_eq-clause-places
returns-then-is_eq-clause-places c =
    let bs = c.args.self.now.blocks.lists in
    let last : Spot = record { block = c.past-spot.result.block; at = c.past-spot.result.at - 1 } in
    let here : slot_at bs last ≡ Some c.in-Some.id = sym c.slot.ensures.slot ∙ c.in-Some.is in (
      at_within bs last (at_slot bs last c.in-Some.id here),
      λ d. ap (λ x. side c.args.key.now (find c.args.region.now x)) (slot_is bs last c.in-Some.id d here) ∙ sym c.side.ensures ∙ (Equal-is c.side.result).0 (sym c.is_eq.ensures ∙ c.if-is_eq.true),
    )

pub returns-else-is_eq-clause-places : goal.returns-else-is_eq-clause-places
returns-else-is_eq-clause-places c =
    let o = c.args.self.now in
    let bs = o.blocks.lists in
    let spot = c.past-spot.result in
    let last : Spot = record { block = spot.block; at = spot.at - 1 } in
    let here : slot_at bs last ≡ Some c.in-Some.id = sym c.slot.ensures.slot ∙ c.in-Some.is in
    let some = c.if-spot-gt0.true in
    let before : place_of o spot - 1 ≡ place_of o last = omega (arith, some) in
    gap_before c.args.region.now (ids_of o) c.args.key.now (place_of o spot) c.in-Some.id c.past-spot.ensures.past (omega (arith, some))
    (sym (ap (λ i. slice_index_or (ids_of o) i c.in-Some.id) before ∙ slot_is bs last c.in-Some.id c.in-Some.id here))
    (ap is_eq (sym c.side.ensures) ∙ sym c.is_eq.ensures ∙ c.if-is_eq.false)

pub returns-in_default-clause-places : goal.returns-in_default-clause-places
returns-in_default-clause-places c = absurd (one_before c.args.self.now.blocks.lists c.past-spot.result c.past-spot.ensures.spot c.if-spot-gt0.true (sym c.slot.ensures.slot ∙ c.in_default.is))

pub returns-else-spot-gt0-clause-places : goal.returns-else-spot-gt0-clause-places
returns-else-spot-gt0-clause-places c =
    let o = c.args.self.now in
    let none = c.if-spot-gt0.false in
    let first = c.past-spot.ensures.first (omega (arith, none)) in
    gap_past c.args.region.now (ids_of o) c.args.key.now (place_of o c.past-spot.result) c.past-spot.ensures.past (λ j d e. absurd (omega (arith, e, first)))
