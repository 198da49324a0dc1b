use Rattle.beldi_check.proofs.Names.{drop, first_broken, ◌≡◌}
use Rattle.beldi_check.proofs.rules.all_kept.Given as goal

abbrev pub invariant-loop-rule : goal.invariant-loop-rule
invariant-loop-rule l = first_broken l.all (drop l.rule-index l.rules) ≡ first_broken l.all l.rules
