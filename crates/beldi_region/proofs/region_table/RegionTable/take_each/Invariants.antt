use Rattle.std.proofs.Common.{◌≡◌, ◌-◌, take, length}
use Rattle.beldi_region.{specs.Blocks.IsSpot, specs.Ids.ids_of, specs.Ids.place_of, specs.SlotOrder.pairs, proofs.Moved.StillThere}
use Rattle.beldi_region.proofs.region_table.RegionTable.take_each.Given as goal

abbrev pub invariant-loop-id : goal.invariant-loop-id
invariant-loop-id l =
    let r = l.fn.region in
    let place = place_of l.index l.spot in
    record {
      spot : IsSpot l.index.blocks.lists l.spot;
      pairs : pairs l.self.region (ids_of l.self.index) ≡ take place (pairs r (ids_of l.index));
      still : StillThere r l.region (ids_of l.index) place;
      room : l.self.room ≡ l.fn.self.room;
    }

abbrev pub decreases-loop-id : goal.decreases-loop-id
decreases-loop-id l = length (ids_of l.index) - place_of l.index l.spot
