use Rattle.beldi_check.proofs.Names.{IsGrid, edge, length}
use Rattle.beldi_check.proofs.calls.edges.Given as goal

abbrev pub invariant-loop-i : goal.invariant-loop-i
invariant-loop-i l = IsGrid l.i (length l.all) (edge l.link l.all) l.rows.items
