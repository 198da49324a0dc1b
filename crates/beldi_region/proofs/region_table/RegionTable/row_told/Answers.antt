use Rattle.std.proofs.Common.{sym, ap}
use Rattle.beldi_row.specs.Act.{change_reply}
use Rattle.beldi_region.specs.Ids.{ids_of}
use Rattle.beldi_region.proofs.Held.{row_found}
use Rattle.beldi_region.proofs.region_table.RegionTable.row_told.Goals as goal

pub returns-in-Ok : goal.returns-in-Ok
returns-in-Ok c =
    let t = c.args.self.now in
    ap (change_reply c.args.change) (sym (row_found t.region (ids_of t.index) c.args.id c.args.key.now c.in-Ok.entry.now t.held c.requires c.in-Ok.ensures.found))
