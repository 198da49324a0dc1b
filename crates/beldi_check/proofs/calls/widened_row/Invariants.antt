use Rattle.beldi_check.proofs.Names.{IsRow, at, ◌&&◌, ◌||◌}
use Rattle.beldi_check.proofs.calls.widened_row.Given as goal

abbrev pub invariant-loop-j : goal.invariant-loop-j
invariant-loop-j l = IsRow l.j (λ j. at l.row j || (at l.row l.by && at l.led j)) l.wider
