use Rattle.beldi_check.proofs.Names.{[], double_name, drop, take, ◌≡◌}
use Rattle.beldi_check.proofs.rules.no_double_name.Given as goal

abbrev pub invariant-loop-i : goal.invariant-loop-i
invariant-loop-i l = double_name (take l.i l.all) (drop l.i l.all) ≡ double_name [] l.all
