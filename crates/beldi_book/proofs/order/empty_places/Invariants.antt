use Rattle.beldi_book.proofs.Names.{[], drop, empty_places, map, ◌++◌, ◌≡◌}
use Rattle.beldi_book.proofs.order.empty_places.Given as goal

abbrev pub invariant-loop-change : goal.invariant-loop-change
invariant-loop-change l = l.places.items ++ map (λ c. []) (drop l._change-index l.changes) ≡ empty_places l.changes
