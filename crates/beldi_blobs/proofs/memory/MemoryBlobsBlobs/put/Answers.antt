use Rattle.std.proofs.Common.{subst, refl}
use Rattle.sqlite.specs.Held.{state}
use Rattle.sqlite.specs.Steps.{over_memory}
use Rattle.sqlite.proofs.Callers.{memory_is_clean}
use Rattle.beldi_blobs.specs.BlobEntries.{entries_in}
use Rattle.beldi_blobs.specs.BlobCalls.{Puts}
use Rattle.beldi_blobs.proofs.Answered.{put_table, put_entries}
use Rattle.beldi_blobs.proofs.memory.MemoryBlobsBlobs.put.Goals as goal

pub invariant_of-self : goal.invariant_of-self
invariant_of-self c = put_table (state over_memory c.self.inside.conn) (state over_memory c.put.new.conn) c.args.key.now c.args.value.now c.put.result (c.put.ensures (memory_is_clean c.put.new.conn) refl c.self.invariant)

pub returns : goal.returns
returns c =
    subst (λ m. Puts c.args.key.now c.args.value.now m (entries_in (state over_memory c.put.new.conn)) c.put.result) c.self.view_is
    (put_entries (state over_memory c.self.inside.conn) (state over_memory c.put.new.conn) c.args.key.now c.args.value.now c.put.result (c.put.ensures (memory_is_clean c.put.new.conn) refl c.self.invariant))
