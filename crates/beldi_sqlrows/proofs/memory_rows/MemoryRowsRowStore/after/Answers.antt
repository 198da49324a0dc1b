use Rattle.beldi_sqlrows.proofs.LateFailure.{none_after}
use Rattle.beldi_sqlrows.proofs.memory_rows.MemoryRowsRowStore.after.Goals as goal

pub returns-in-None-clause-steps : goal.returns-in-None-clause-steps
returns-in-None-clause-steps c = none_after _ c.args.self.now.rows c.args.key.now c.in-None.is
