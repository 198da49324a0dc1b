use Rattle.std.proofs.Common.{Ok, Err, ◌∙◌}
use Rattle.beldi_sqlrows.proofs.StoredRows.{got_same, same_told, reads}
use Rattle.beldi_sqlrows.proofs.blob_rows.BlobRowsRowStore.read.Goals as goal

pub returns-in-Ok-found-clause-kept : goal.returns-in-Ok-found-clause-kept
returns-in-Ok-found-clause-kept g c =
    let s = c.args.self.now in
    let before = g.B.Blobs.entries s.blobs in
    let after = g.B.Blobs.entries c.get-found.new.self in
    same_told before after s.held _ (got_same c.as_slice.result.now before after (Ok c.in-Ok-found.value) c.in-Ok-found.ensures)

pub returns-in-Err-clause-kept : goal.returns-in-Err-clause-kept
returns-in-Err-clause-kept g c =
    let s = c.args.self.now in
    let before = g.B.Blobs.entries s.blobs in
    let after = g.B.Blobs.entries c.get-found.new.self in
    same_told before after s.held _ (got_same c.as_slice.result.now before after (Err c.in-Err.why) c.in-Err.ensures)

pub returns-in-Ok-found-clause-reads : goal.returns-in-Ok-found-clause-reads
returns-in-Ok-found-clause-reads g c =
    let s = c.args.self.now in
    reads c.args.key.now c.as_slice.result.now (g.B.Blobs.entries s.blobs) (g.B.Blobs.entries c.get-found.new.self) s.held c.in-Ok-found.value c.row_found.result
    (c.as_slice.ensures.value ∙ c.in-Ok.ensures.bytes) c.in-Ok-found.ensures c.row_found.ensures
