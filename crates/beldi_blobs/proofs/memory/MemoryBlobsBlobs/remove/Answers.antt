use Rattle.std.proofs.Common.{subst, refl}
use Rattle.sqlite.specs.Held.{state}
use Rattle.sqlite.specs.Steps.{over_memory}
use Rattle.sqlite.proofs.Callers.{memory_is_clean}
use Rattle.beldi_blobs.specs.BlobEntries.{entries_in}
use Rattle.beldi_blobs.specs.BlobCalls.{Removes}
use Rattle.beldi_blobs.proofs.Answered.{remove_table, remove_entries}
use Rattle.beldi_blobs.proofs.memory.MemoryBlobsBlobs.remove.Goals as goal

pub invariant_of-self : goal.invariant_of-self
invariant_of-self c = remove_table (state over_memory c.self.inside.conn) (state over_memory c.remove.new.conn) c.args.key.now c.remove.result (c.remove.ensures (memory_is_clean c.remove.new.conn) refl c.self.invariant)

pub returns : goal.returns
returns c =
    subst (λ m. Removes c.args.key.now m (entries_in (state over_memory c.remove.new.conn)) c.remove.result) c.self.view_is
    (remove_entries (state over_memory c.self.inside.conn) (state over_memory c.remove.new.conn) c.args.key.now c.remove.result (c.remove.ensures (memory_is_clean c.remove.new.conn) refl c.self.invariant))
