use Rattle.std.proofs.Common.{subst, sym}
use Rattle.beldi_row.specs.Table.{NoneOpenTo}
use Rattle.beldi_region.specs.{SlotOrder.pair_of, Ids.ids_of, Ids.place_of, RegionTable.rows_of}
use Rattle.beldi_region.proofs.Listed.{none_open, none_open_to}
use Rattle.beldi_region.proofs.region_table.RegionTableTable.opens.Goals as goal

pub returns-in_default : goal.returns-in_default
returns-in_default c =
    let t = c.args.self.now in
    none_open t.region (ids_of t.index) (ids_of t.opened) t.held t.listed c.args.after.now (place_of t.opened c.past-spot.result) c.past-spot.ensures.past (sym c.in_default.ensures.slot)

pub returns-in-Ok : goal.returns-in-Ok
returns-in-Ok c =
    let t = c.args.self.now in
    subst (λ e. NoneOpenTo (rows_of t) c.args.after.now (pair_of e).0) c.in-Ok.ensures.found
    (none_open_to t.region (ids_of t.index) (ids_of t.opened) t.held t.listed c.args.after.now (place_of t.opened c.past-spot.result) _ c.past-spot.ensures.past (sym c.in-Some.ensures.slot))
