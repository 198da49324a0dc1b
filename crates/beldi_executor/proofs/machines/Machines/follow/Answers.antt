use Rattle.beldi_executor.proofs.Names.{FinMap, Follows, Machine, Passes, id_cmp, subst, sym}
use Rattle.beldi_executor.proofs.machines.Machines.follow.Goals as goal

pub returns-in-Tells : goal.returns-in-Tells
returns-in-Tells c =
    subst (Follows c.args.code.now c.args.self.now c.answer.new.self c.args.id c.args.machine) (sym c.in-Tells.is)
    (subst (λ (a : FinMap id_cmp Machine). Passes c.args.code.now a c.answer.new.self c.in-Tells.waiter c.in-Tells.answer) c.end-in-Tells.ensures c.answer.ensures)
