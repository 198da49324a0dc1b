use Rattle.beldi_check.proofs.{Names.arith, Names.length, Names.◌≤◌, Firsts.few_of_checked}
use Rattle.beldi_check.proofs.accept.Checked.func.Goals as goal

pub overflow_cast-result : goal.overflow_cast-result
overflow_cast-result c =
    let few : length c.self.inside.code.funcs ≤ 64 = few_of_checked c.self.inside.code.funcs c.self.invariant in
    omega (arith, few, c.in_ok-place.ensures.within)

pub overflow_add-result : goal.overflow_add-result
overflow_add-result c =
    let few : length c.self.inside.code.funcs ≤ 64 = few_of_checked c.self.inside.code.funcs c.self.invariant in
    omega (arith, few, c.in_ok-place.ensures.within)
