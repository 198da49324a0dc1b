use Rattle.beldi_tree.specs.Bindings.{AreOthers}
use Rattle.beldi_tree.proofs.variables.place_of.Given as goal

abbrev pub invariant-loop-i : goal.invariant-loop-i
invariant-loop-i l = AreOthers l.entries l.name l.i
