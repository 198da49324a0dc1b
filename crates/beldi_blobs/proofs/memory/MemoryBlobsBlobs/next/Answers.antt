use Rattle.std.proofs.Common.{subst, refl}
use Rattle.sqlite.specs.Held.{state}
use Rattle.sqlite.specs.Steps.{over_memory}
use Rattle.sqlite.proofs.Callers.{memory_is_clean}
use Rattle.beldi_blobs.specs.BlobEntries.{entries_in}
use Rattle.beldi_blobs.specs.BlobCalls.{Nexts}
use Rattle.beldi_blobs.proofs.Answered.{same_entries}
use Rattle.beldi_blobs.proofs.memory.MemoryBlobsBlobs.next.Goals as goal

pub invariant_of-self : goal.invariant_of-self
invariant_of-self c = (c.next.ensures.kept (memory_is_clean c.next.new.conn) refl c.self.invariant).table

pub returns : goal.returns
returns c =
    subst (λ m. Nexts c.args.key.now m (entries_in (state over_memory c.next.new.conn)) c.next.result) c.self.view_is
    (same_entries (state over_memory c.self.inside.conn) (state over_memory c.next.new.conn) (c.next.ensures.kept (memory_is_clean c.next.new.conn) refl c.self.invariant), c.next.ensures.found (memory_is_clean c.next.new.conn) c.self.invariant)
