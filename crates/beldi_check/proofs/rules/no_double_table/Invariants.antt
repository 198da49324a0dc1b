use Rattle.beldi_check.proofs.Names.{[], double_table, drop, take, ◌≡◌}
use Rattle.beldi_check.proofs.rules.no_double_table.Given as goal

abbrev pub invariant-loop-i : goal.invariant-loop-i
invariant-loop-i l = double_table (take l.i l.tables) (drop l.i l.tables) ≡ double_table [] l.tables
