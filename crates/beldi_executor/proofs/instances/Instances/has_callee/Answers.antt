use Rattle.beldi_executor.proofs.{Names.AllShort, Names.rules, Names.subst, Made.no_callee}
use Rattle.beldi_executor.proofs.instances.Instances.has_callee.Goals as goal

pub returns-then-not-has_callees : goal.returns-then-not-has_callees
returns-then-not-has_callees c = no_callee c.args.self.now c.args.id.now c.args.step (subst AllShort c.self.view_is c.self.invariant) (search rules)
