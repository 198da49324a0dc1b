use Rattle.std.specs.Ordering.{is_lt}
use Rattle.std.proofs.Common.{◌≡◌, true, false, slice_index_or, subst, ap, ◌∙◌, arith}
use Rattle.beldi_region.specs.{Region.find, SlotOrder.side, SlotOrder.begins_past, SlotOrder.IsPast}
use Rattle.beldi_region.proofs.Spots.{first_slot, some_slot}
use Rattle.beldi_region.proofs.block.Block.past.Goals as goal

pub loop-low-init : goal.loop-low-init
loop-low-init c =
    let r = c.args.region.now in
    let k = c.args.key.now in
    let ids = c.as_slice-ids.result.now in
    let begins : begins_past r k ids ≡ false = ap (begins_past r k) (c.as_slice-ids.ensures.value ∙ c.self.view_is) ∙ c.requires in
    let some = some_slot r k ids begins in
    record {
      some = omega arith;
      ordered = omega (arith, some);
      fits = omega arith;
      below = λ j d e. first_slot r k ids j d begins e;
      above = λ d l. absurd (omega (arith, l));
    }

pub returns-clause-past : goal.returns-clause-past
returns-clause-past c =
    let kept = c.loop-low.invariant in
    let ids = c.as_slice-ids.result.now in
    let ordered = kept.ordered in
    let over = c.loop-low-test.false in
    let met : c.loop-low.high ≡ c.loop-low.low = omega (arith, ordered, over) in
    let long = kept.fits in
    subst (λ js. IsPast c.args.region.now js c.args.key.now c.loop-low.low) (c.as_slice-ids.ensures.value ∙ c.self.view_is) (record {
      fits = omega (arith, long, met);
      below = kept.below;
      above = λ d l. subst (λ n. is_lt (side c.args.key.now (find c.args.region.now (slice_index_or ids n d))) ≡ true) met (kept.above d (omega (arith, l, met)));
    })
