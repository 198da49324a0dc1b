use Rattle.std.proofs.Common.{◌∙◌}
use Rattle.beldi_sqlrows.proofs.StoredRows.{held_without, told_without, told_still}
use Rattle.beldi_sqlrows.proofs.blob_rows.BlobRowsRowStore.remove.Goals as goal

pub invariant_of-self : goal.invariant_of-self
invariant_of-self g c =
    let s = c.args.self.now in record {
      held = held_without c.args.key.now c.as_slice.result.now (g.B.Blobs.entries s.blobs) (g.B.Blobs.entries c.remove-removed.new.self) c.remove-removed.result
          (c.as_slice.ensures.value ∙ c.in-Ok.ensures.bytes) s.held c.remove-removed.ensures;
    }

pub returns-in-Ok-removed : goal.returns-in-Ok-removed
returns-in-Ok-removed g c =
    let s = c.args.self.now in
    told_without c.args.key.now c.as_slice.result.now (g.B.Blobs.entries s.blobs) (g.B.Blobs.entries c.remove-removed.new.self) s.held _
    (c.as_slice.ensures.value ∙ c.in-Ok.ensures.bytes) c.in-Ok-removed.ensures

pub returns-in-Err : goal.returns-in-Err
returns-in-Err g c =
    let s = c.args.self.now in
    told_still (g.B.Blobs.entries s.blobs) (g.B.Blobs.entries c.remove-removed.new.self) s.held _ c.in-Err.ensures
