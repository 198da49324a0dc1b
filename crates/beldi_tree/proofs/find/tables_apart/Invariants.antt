use Rattle.beldi_tree.proofs.Aparts.{AreFirst}
use Rattle.beldi_tree.proofs.find.tables_apart.Given as goal

abbrev pub invariant-loop-i : goal.invariant-loop-i
invariant-loop-i l = AreFirst (λ x. x.name) l.tables l.i
