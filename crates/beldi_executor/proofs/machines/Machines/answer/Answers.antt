use Rattle.beldi_executor.proofs.Names.{inr, rules}
use Rattle.beldi_executor.proofs.machines.Machines.answer.Goals as goal

pub returns-then-is_answered : goal.returns-then-is_answered
returns-then-is_answered c = inr (c.in-Some.machine, search rules, search rules, search rules)
