use Rattle.beldi_check.proofs.Names.{IsRow, edge}
use Rattle.beldi_check.proofs.calls.edges_from.Given as goal

abbrev pub invariant-loop-j : goal.invariant-loop-j
invariant-loop-j l = IsRow l.j (edge l.link l.all l.i) l.row
