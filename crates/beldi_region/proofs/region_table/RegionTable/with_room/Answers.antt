use Rattle.std.proofs.Common.{rules, sym, subst, ◌∙◌}
use Rattle.beldi_region.specs.SlotOrder.{IsHeld, AreListed}
use Rattle.beldi_region.proofs.{Held.held_none, Listed.listed_none}
use Rattle.beldi_region.proofs.region_table.RegionTable.with_room.Goals as goal

pub invariant_of-result-clause-held : goal.invariant_of-result-clause-held
invariant_of-result-clause-held c =
    let r = c.in_ok-region.region in
    let told = c.in_ok-region.ensures in
    subst (IsHeld r) (search rules) (held_none r told.empty (told.spaces ∙ sym told.room))

pub invariant_of-result-clause-listed : goal.invariant_of-result-clause-listed
invariant_of-result-clause-listed c =
    let r = c.in_ok-region.region in
    subst (AreListed (λ id. Unit {0}) r) (sym c.in-Ok.ensures.ids) (listed_none r c.in_ok-region.ensures.empty)
