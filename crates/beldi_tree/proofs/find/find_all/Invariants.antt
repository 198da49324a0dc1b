use Rattle.beldi_tree.proofs.Names.{◌≡◌}
use Rattle.beldi_tree.proofs.find.find_all.Given as goal

abbrev pub invariant-loop-place : goal.invariant-loop-place
invariant-loop-place l = l.funcs.items ≡ l.fn.funcs.items
