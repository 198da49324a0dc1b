use Rattle.beldi_check.proofs.Names.{drop, first_cycle, ◌≡◌}
use Rattle.beldi_check.proofs.rules.no_cycle.Given as goal

abbrev pub invariant-loop-i : goal.invariant-loop-i
invariant-loop-i l = first_cycle l.all l.i (drop l.i l.all) ≡ first_cycle l.all 0 l.all
