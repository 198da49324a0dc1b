use Rattle.beldi_check.{proofs.Names.IsGrid, proofs.Names.edge, proofs.Names.length, proofs.Names.◌+◌, specs.CallGraph.through}
use Rattle.beldi_check.proofs.calls.reach.Given as goal

abbrev pub invariant-loop-by : goal.invariant-loop-by
invariant-loop-by l = IsGrid (length l.all + 1) (length l.all) (through (edge l.fn.link l.all) l.by) l.rows.items
