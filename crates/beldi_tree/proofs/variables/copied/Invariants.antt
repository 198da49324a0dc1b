use Rattle.beldi_tree.proofs.Names.{take, ◌≡◌}
use Rattle.beldi_tree.proofs.variables.copied.Given as goal

abbrev pub invariant-loop-entry : goal.invariant-loop-entry
invariant-loop-entry l = l.copies.items ≡ take l.entry-index l.entries
