use Rattle.std.proofs.Common.{Some, sym, ap, ◌∙◌, option_map}
use Rattle.beldi_region.{specs.SlotOrder.pair_at, specs.SlotOrder.pair_of, specs.Ids.ids_of, specs.Ids.place_of, proofs.Held.next_is, proofs.Held.taken_at}
use Rattle.beldi_region.proofs.region_table.RegionTable.row_past.Goals as goal

pub returns-in_default : goal.returns-in_default
returns-in_default c =
    let t = c.args.self.now in
    let place = place_of t.index c.args.spot in
    sym (next_is t.region (ids_of t.index) c.args.after.now place t.held.ordered c.requires.past ∙ ap (option_map (pair_at t.region)) (sym c.in_default.ensures.slot))

pub returns-in-Ok : goal.returns-in-Ok
returns-in-Ok c =
    let t = c.args.self.now in
    let place = place_of t.index c.args.spot in
    sym
    (next_is t.region (ids_of t.index) c.args.after.now place t.held.ordered c.requires.past
    ∙ ap (option_map (pair_at t.region)) (sym c.in-Some.ensures.slot)
    ∙ ap (λ e. Some (pair_of e)) c.in-Ok.ensures.found)

pub returns-in-Err : goal.returns-in-Err
returns-in-Err c =
    let t = c.args.self.now in
    absurd (taken_at t.region (ids_of t.index) (place_of t.index c.args.spot) c.in-Some.id t.held.ordered (sym c.in-Some.ensures.slot) c.in-Err.ensures.none)
