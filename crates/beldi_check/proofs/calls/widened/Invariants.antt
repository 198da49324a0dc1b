use Rattle.beldi_check.proofs.Names.{IsGrid, cell, length, over, row_at}
use Rattle.beldi_check.proofs.calls.widened.Given as goal

abbrev pub invariant-loop-i : goal.invariant-loop-i
invariant-loop-i l = IsGrid l.i (length (row_at l.rows l.by)) (over (cell l.rows) l.by) l.wider.items
