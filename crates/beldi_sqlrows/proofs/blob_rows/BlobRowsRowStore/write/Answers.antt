use Rattle.std.proofs.Common.{◌∙◌}
use Rattle.beldi_sqlrows.proofs.StoredRows.{held_then, told_then, told_still}
use Rattle.beldi_sqlrows.proofs.blob_rows.BlobRowsRowStore.write.Goals as goal

pub invariant_of-self : goal.invariant_of-self
invariant_of-self g c =
    let s = c.args.self.now in record {
      held = held_then c.args.key.now c.args.row.now c.as_slice.result.now c.as_slice-2.result.now (g.B.Blobs.entries s.blobs) (g.B.Blobs.entries c.put-put.new.self) c.put-put.result
          (c.as_slice.ensures.value ∙ c.in-Ok.ensures.bytes) (c.as_slice-2.ensures.value ∙ c.in-Ok-write_row.ensures.bytes) s.held c.put-put.ensures;
    }

pub returns-in-Ok-put : goal.returns-in-Ok-put
returns-in-Ok-put g c =
    let s = c.args.self.now in
    told_then c.args.key.now c.args.row.now c.as_slice.result.now c.as_slice-2.result.now (g.B.Blobs.entries s.blobs) (g.B.Blobs.entries c.put-put.new.self) s.held _
    (c.as_slice.ensures.value ∙ c.in-Ok.ensures.bytes) (c.as_slice-2.ensures.value ∙ c.in-Ok-write_row.ensures.bytes) c.in-Ok-put.ensures

pub returns-in-Err : goal.returns-in-Err
returns-in-Err g c =
    let s = c.args.self.now in
    told_still (g.B.Blobs.entries s.blobs) (g.B.Blobs.entries c.put-put.new.self) s.held _ c.in-Err.ensures
