use Rattle.beldi_check.proofs.Names.{drop, past_most, ◌≡◌}
use Rattle.beldi_check.proofs.rules.within_most.Given as goal

abbrev pub invariant-loop-i : goal.invariant-loop-i
invariant-loop-i l = past_most l.i (drop l.i l.all) ≡ past_most 0 l.all
