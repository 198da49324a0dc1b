use Rattle.beldi_check.proofs.Names.{drop, first_from, first_statement, ◌≡◌}
use Rattle.beldi_check.proofs.rules.kept.Given as goal

abbrev pub invariant-loop-i : goal.invariant-loop-i
invariant-loop-i l = first_from l.rule l.all l.i (drop l.i l.all) ≡ first_statement l.rule l.all
