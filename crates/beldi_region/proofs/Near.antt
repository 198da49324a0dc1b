-- The place behind a key, looked for from one slot to the next.
use Rattle.std.specs.{Ordering.is_lt, Ordering.is_eq, declared.cmp.Ordering.Ordering}
use Rattle.std.proofs.lemmas.Option.{get_or_from_slice_get}
use Rattle.std.proofs.Common.{◌≡◌, ◌+◌, ◌-◌, ◌<◌, ◌≤◌, true, false, List, [], ◌∷◌, length, Some, None, ap, sym, ◌∙◌, slice_index_or, slice_get, arith}
use Rattle.beldi_row.specs.Key.{RowKey}
use Rattle.beldi_region.specs.{Region.ViewedRegion, Region.find, Blocks.flat, Blocks.place_in, Blocks.IsSpot, Blocks.slot_at, SlotOrder.side, SlotOrder.IsBehind, SlotOrder.IsPast, SlotOrder.IsGap, declared.region.SlotId.SlotId, declared.blocks.Spot.Spot, declared.order.Entry.Entry}
use Rattle.beldi_region.proofs.{Flat.within, Held.gap_past, Spots.at_slot, Spots.none_behind, Spots.slot_is, Spots.spot_in}

fits : (bs : List (List SlotId)) (p : Spot) → IsSpot bs p → place_in bs p ≤ length (flat bs)
fits [] p h = let at = h.1 in omega (arith, at)
fits (b ∷ bs) p h = let all = within (b ∷ bs) p.block h.block in let at = h.at in omega (arith, all, at)

module _ (r : ViewedRegion Entry) (bs : List (List SlotId)) (k : RowKey) (p : Spot) (o : Ordering) where
  -- a slot stands before the place in its block
  pub behind_slot : (id : SlotId) → 0 < p.at → slot_at bs (record { block = p.block; at = p.at - 1 }) ≡ Some id → side k (find r id) ≡ o → is_lt o ≡ false → IsBehind r bs k o p
  behind_slot id some here so not_less =
      let last : Spot = record { block = p.block; at = p.at - 1 } in
      let is = at_slot bs last id here in
      let at = is.at in
      record {
        spot = spot_in bs p is.block (omega (arith, at, some));
        not_less = not_less;
        below = λ j d e.
            let same : place_in bs last ≡ j = omega (arith, e, some) in
            ap (λ i. side k (find r (slice_index_or (flat bs) i d))) (sym same) ∙ ap (λ x. side k (find r x)) (slot_is bs last id d here) ∙ so;
      }

  module _ (h : IsBehind r bs k o p) where
    -- no slot stands behind it, or one with a greater key
    pub past_at_end : slice_get (flat bs) (place_in bs p) ≡ None → IsPast r (flat bs) k (place_in bs p)
    past_at_end none =
        let out = none_behind (flat bs) (place_in bs p) none in
        record { fits = fits bs p h.spot; below = λ j d e. ap is_lt (h.below j d e) ∙ h.not_less; above = λ d l. absurd (omega (arith, l, out)) }

    pub past_before_slot : (id : SlotId) → slice_get (flat bs) (place_in bs p) ≡ Some id → is_lt (side k (find r id)) ≡ true → IsPast r (flat bs) k (place_in bs p)
    past_before_slot id here less =
        record {
          fits = fits bs p h.spot;
          below = λ j d e. ap is_lt (h.below j d e) ∙ h.not_less;
          above = λ d l. ap (λ x. is_lt (side k (find r x))) (get_or_from_slice_get (flat bs) (place_in bs p) id d here) ∙ less;
        }

    -- the slot before it has another key
    pub gap_behind : IsPast r (flat bs) k (place_in bs p) → is_eq o ≡ false → IsGap r (flat bs) k (place_in bs p)
    gap_behind past other = gap_past r (flat bs) k (place_in bs p) past (λ j d e. ap is_eq (h.below j d e) ∙ other)

    -- the slot behind it has no greater key either
    pub behind_next : (q : Spot) (id : SlotId) (s : Ordering) → slice_get (flat bs) (place_in bs p) ≡ Some id → side k (find r id) ≡ s → is_lt s ≡ false → IsSpot bs q → place_in bs q ≡ place_in bs p + 1 → IsBehind r bs k s q
    behind_next q id s here so not_less spot place =
        record {
          spot = spot;
          not_less = not_less;
          below = λ j d e.
              let same : place_in bs p ≡ j = omega (arith, e, place) in
              ap (λ i. side k (find r (slice_index_or (flat bs) i d))) (sym same) ∙ ap (λ x. side k (find r x)) (get_or_from_slice_get (flat bs) (place_in bs p) id d here) ∙ so;
        }
