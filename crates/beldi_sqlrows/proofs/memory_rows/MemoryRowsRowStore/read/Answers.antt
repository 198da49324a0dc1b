use Rattle.beldi_sqlrows.proofs.LateFailure.{none_read}
use Rattle.beldi_sqlrows.proofs.memory_rows.MemoryRowsRowStore.read.Goals as goal

pub returns-in-None-clause-reads : goal.returns-in-None-clause-reads
returns-in-None-clause-reads c = none_read _ c.args.self.now.rows c.args.key.now c.in-None.is
