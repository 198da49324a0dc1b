use Rattle.std.proofs.Common.{refl, rules}
use Rattle.beldi_table.{proofs.Changes.none_added}
use Rattle.beldi_region.{specs.RegionTable.rows_of, specs.Ids.ids_of, specs.Ids.place_of, proofs.Held.no_row}
use Rattle.beldi_region.proofs.region_table.RegionTable.add.Goals as goal

pub returns-then-is_look-clause-rows : goal.returns-then-is_look-clause-rows
returns-then-is_look-clause-rows c =
    let t = c.args.self.now in
    none_added c.args.act c.args.now c.args.key t.room (rows_of t) (rows_of t) c.missing-said.result
    refl (no_row t.region (ids_of t.index) c.args.key (place_of t.index c.args.spot) t.held c.requires.gap) (c.is_look.ensures.none c.args.now (search rules)) (c.missing-said.ensures c.args.now)
