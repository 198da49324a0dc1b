use Rattle.beldi_core.proofs.{Names.rules, Least.is_first}
use Rattle.beldi_core.proofs.runs.Runs.next_after.Goals as goal

pub returns-clause-first : goal.returns-clause-first
returns-clause-first c = is_first c.args.number c.args.self.now.runs c.next_after.result (search rules)
