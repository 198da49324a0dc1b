use lib.ListN.{length-map}
use Rattle.std.specs.FinMap.{from_entries}
use Rattle.std.proofs.lemmas.List.{take_all}
use Rattle.std.proofs.lemmas.Option.{slice_get_within, get_or_from_slice_get}
use Rattle.std.proofs.Common.{◌≡◌, ◌+◌, Some, refl, sym, ap, subst, ◌∙◌, take, insert, slice_get, slice_index_or, arith}
use Rattle.beldi_row.specs.Key.{key_cmp}
use Rattle.beldi_region.specs.{SlotOrder.pair_at, SlotOrder.pairs, SlotOrder.IsGap, Ids.ids_of, Ids.place_of}
use Rattle.beldi_region.proofs.{Moved.StillThere, Moved.gap_at_end, Moved.moved_length, Moved.pairs_moved, Moved.still_later, Moved.not_gone, Spots.none_behind}
use Rattle.beldi_region.proofs.region_table.RegionTable.take_each.Goals as goal

pub loop-id-init : goal.loop-id-init
loop-id-init c =
    let r = c.args.region.now in
    let o = c.args.index.now in
    record {
      spot = c.start-spot.ensures.spot;
      pairs = ap (pairs c.args.self.now.region) c.requires.empty ∙ ap (λ n. take n (pairs r (ids_of o))) (sym c.start-spot.ensures.place);
      still = λ j d from less. refl;
      room = refl;
    }

pub put-requires-clause-gap : goal.put-requires-clause-gap
put-requires-clause-gap c =
    let r = c.args.region.now in
    let o = c.args.index.now in
    let ids = ids_of o in
    let s = c.loop-id.self in
    let kept = c.loop-id.invariant in
    let place = place_of o c.loop-id.spot in
    let at : slice_get ids place ≡ Some c.in-Some.id = sym c.in-Some.ensures.slot in
    subst (IsGap s.region (ids_of s.index) c.in-Ok.entry.key) (sym c.end-end.ensures.place)
    (gap_at_end r c.loop-id.region c.take.new.self ids place c.in-Some.id c.in-Ok.entry c.requires.held (slice_get_within ids place c.in-Some.id at) (sym (get_or_from_slice_get ids place c.in-Some.id c.in-Some.id at)) kept.still c.in-Ok.ensures.ok s.region (ids_of s.index) s.held kept.pairs)

pub put-requires-clause-room : goal.put-requires-clause-room
put-requires-clause-room c =
    let r = c.args.region.now in
    let o = c.args.index.now in
    let ids = ids_of o in
    let s = c.loop-id.self in
    let place = place_of o c.loop-id.spot in
    let fits = slice_get_within ids place c.in-Some.id (sym c.in-Some.ensures.slot) in
    let long = moved_length r s.region ids (ids_of s.index) place (omega (arith, fits)) c.loop-id.invariant.pairs in
    let room = c.loop-id.invariant.room in
    let enough = c.requires.room in
    omega (arith, fits, long, room, enough)

pub unreachable-requires : goal.unreachable-requires
unreachable-requires c =
    let r = c.args.region.now in
    let o = c.args.index.now in
    let ids = ids_of o in
    let place = place_of o c.loop-id.spot in
    let at : slice_get ids place ≡ Some c.in-Some.id = sym c.in-Some.ensures.slot in
    not_gone r c.loop-id.region ids place c.in-Some.id c.requires.held (slice_get_within ids place c.in-Some.id at) (sym (get_or_from_slice_get ids place c.in-Some.id c.in-Some.id at)) c.loop-id.invariant.still c.in-Err.ensures.none

pub loop-id-preserved : goal.loop-id-preserved
loop-id-preserved c =
    let r = c.args.region.now in
    let o = c.args.index.now in
    let ids = ids_of o in
    let s = c.loop-id.self in
    let kept = c.loop-id.invariant in
    let place = place_of o c.loop-id.spot in
    let at : slice_get ids place ≡ Some c.in-Some.id = sym c.in-Some.ensures.slot in
    let fits = slice_get_within ids place c.in-Some.id at in
    let is : c.in-Some.id ≡ slice_index_or ids place c.in-Some.id = sym (get_or_from_slice_get ids place c.in-Some.id c.in-Some.id at) in
    let step : place + 1 ≡ place_of o c.in-Some.next = sym c.in-Some.ensures.place in
    let now = c.put.new.self in
    record {
      spot = c.in-Some.ensures.spot;
      pairs = subst (λ n. pairs now.region (ids_of now.index) ≡ take n (pairs r ids)) step
          (pairs_moved r c.loop-id.region c.take.new.self ids place c.in-Some.id c.in-Ok.entry c.requires.held fits is kept.still c.in-Ok.ensures.ok
          (ids_of s.index) (pairs s.region (ids_of s.index)) (pairs now.region (ids_of now.index)) (sym (length-map (ids_of s.index) (pair_at s.region))) kept.pairs
          (c.put.ensures.pairs ∙ ap (λ n. insert (pairs s.region (ids_of s.index)) n (c.in-Ok.entry.key, c.in-Ok.entry.row)) c.end-end.ensures.place));
      still = subst (StillThere r c.take.new.self ids) step (still_later r c.loop-id.region c.take.new.self ids place c.in-Some.id c.in-Ok.entry c.requires.held fits is kept.still c.in-Ok.ensures.ok);
      room = c.put.ensures.room ∙ kept.room;
    }

pub loop-id-smaller : goal.loop-id-smaller
loop-id-smaller c =
    let r = c.args.region.now in
    let o = c.args.index.now in
    let fits = slice_get_within (ids_of o) (place_of o c.loop-id.spot) c.in-Some.id (sym c.in-Some.ensures.slot) in
    let step = c.in-Some.ensures.place in
    omega (arith, fits, step)

pub returns-clause-rows : goal.returns-clause-rows
returns-clause-rows c =
    let r = c.args.region.now in
    let o = c.args.index.now in
    let ids = ids_of o in
    let place = place_of o c.loop-id.spot in
    let over = none_behind ids place (sym c.in_default.ensures.slot) in
    let all = length-map ids (pair_at r) in
    ap (λ es. from_entries {R = key_cmp} es) (c.loop-id.invariant.pairs ∙ take_all place (pairs r ids) (omega (arith, over, all)))
