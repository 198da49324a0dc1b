use Rattle.beldi_sqlrows.proofs.LateFailure.{none_removed}
use Rattle.beldi_sqlrows.proofs.memory_rows.MemoryRowsRowStore.remove.Goals as goal

pub returns-in-None : goal.returns-in-None
returns-in-None c = none_removed _ c.args.self.now.rows c.args.key.now c.in-None.is
