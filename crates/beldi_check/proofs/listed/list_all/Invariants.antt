use Rattle.beldi_check.proofs.Names.{take, ◌≡◌}
use Rattle.beldi_check.proofs.listed.list_all.Given as goal

abbrev pub invariant-loop-func : goal.invariant-loop-func
invariant-loop-func l = l.all.items ≡ take l.func-index l.funcs
