use Rattle.beldi_sqlrows.proofs.StoredRows.{held_none, empty_told}
use Rattle.beldi_sqlrows.proofs.blob_rows.BlobRows.new.Goals as goal

pub invariant_of-result : goal.invariant_of-result
invariant_of-result g c = record { held = held_none (g.B.Blobs.entries c.args.blobs) c.requires }

pub returns-clause-rows : goal.returns-clause-rows
returns-clause-rows g c = empty_told (g.B.Blobs.entries c.args.blobs) _ c.requires
