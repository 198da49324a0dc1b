use Rattle.beldi_value.proofs.Names.{take, ◌≡◌}
use Rattle.beldi_value.proofs.parts.items_of.Given as goal

abbrev pub invariant-loop-item : goal.invariant-loop-item
invariant-loop-item l = l.copies.items ≡ take l.item-index l.items
