use Rattle.sqlite.proofs.Callers.{memory_is_clean}
use Rattle.beldi_blobs.proofs.memory.MemoryBlobs.new.Goals as goal

pub invariant_of-result : goal.invariant_of-result
invariant_of-result c = (c.in-Ok.ensures (memory_is_clean c.make.new.conn) c.in_ok-conn.ensures.empty).table

pub returns-in-Ok : goal.returns-in-Ok
returns-in-Ok c = (c.in-Ok.ensures (memory_is_clean c.make.new.conn) c.in_ok-conn.ensures.empty).entries
