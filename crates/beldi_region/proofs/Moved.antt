-- Rows that are moved, the first one first, to another region.
use Rattle.std.specs.{Map.keys_of, declared.cmp.Ordering.TheVariants.Less, Ordering.ordering_reverse}
use Rattle.std.proofs.lemmas.Cmp.{tied_itself}
use Rattle.std.proofs.lemmas.List.{take_more, get_or-map, get_or-take, get_or_default, length-take-le, take-map}
use Rattle.std.proofs.lemmas.Map.Keys.{Less-from_sorted}
use lib.ListN.{length-map}
use Rattle.std.proofs.Common.{◌≡◌, ℕ, ◌+◌, ◌<◌, ◌≤◌, false, List, [], ◌∷◌, ◌++◌, length, take, Some, None, is_some, IsTrue, refl, subst, ap, sym, ◌∙◌, slice_index_or, insert, arith, true≢false}
use Rattle.beldi_row.{specs.Key.RowKey, specs.Key.key_cmp, specs.KeyOrder.key_total, specs.declared.row.Row.Row}
use Rattle.beldi_region.specs.{Region.ViewedRegion, Region.find, Region.Taken, SlotOrder.pair_of, SlotOrder.pair_at, SlotOrder.pairs, SlotOrder.side, SlotOrder.IsGap, SlotOrder.IsHeld, declared.region.SlotId.SlotId, declared.order.Entry.Entry}
use Rattle.beldi_region.proofs.Held.{nowhere, key_of, length_keys, side_of}

at_end : {A : Type 0} (xs : List A) (x : A) → insert xs (length xs) x ≡ xs ++ x ∷ []
at_end [] x = refl
at_end (y ∷ ys) x = ap (λ zs. y ∷ zs) (at_end ys x)

-- the slots from one on have the rows that they had
abbrev pub StillThere : ViewedRegion Entry → ViewedRegion Entry → List SlotId → ℕ → Type 0
StillThere r now ids i = (j : ℕ) (d : SlotId) → i ≤ j → j < length ids → find now (slice_index_or ids j d) ≡ find r (slice_index_or ids j d)

pub moved_length : (r s : ViewedRegion Entry) (ids js : List SlotId) (i : ℕ) → i ≤ length ids → pairs s js ≡ take i (pairs r ids) → length js ≡ i
moved_length r s ids js i fits moved =
    let all = length-map ids (pair_at r) in
    sym (length-map js (pair_at s)) ∙ ap length moved ∙ length-take-le i (pairs r ids) (omega (arith, fits, all))

-- it is still there
pub not_gone : (r now : ViewedRegion Entry) (ids : List SlotId) (i : ℕ) (id : SlotId) → IsHeld r ids → i < length ids → id ≡ slice_index_or ids i id → StillThere r now ids i → find now id ≡ None → ⊥
not_gone r now ids i id l fits at still gone =
    let there : IsTrue (is_some (find r (slice_index_or ids i id))) = l.ordered.taken i id fits in
    let none : is_some (find r (slice_index_or ids i id)) ≡ false = ap is_some (sym (still i id (omega arith) fits) ∙ ap (find now) (sym at) ∙ gone) in
    true≢false (sym there ∙ none)

-- the next one is taken out of a region now, which was r
module _ (r now rest : ViewedRegion Entry) (ids : List SlotId) (i : ℕ) (id : SlotId) (x : Entry) (l : IsHeld r ids) (fits : i < length ids) (at : id ≡ slice_index_or ids i id) (still : StillThere r now ids i) (out : Taken now rest id x) where
  here : (d : SlotId) → slice_index_or ids i d ≡ id
  here d = get_or_default ids i d id fits ∙ sym at

  was : find r id ≡ Some x
  was = sym (ap (find r) (here id)) ∙ sym (still i id (omega arith) fits) ∙ ap (find now) (here id) ∙ out.was

  key_here : (d : RowKey) → slice_index_or (keys_of (pairs r ids)) i d ≡ x.key
  key_here d = key_of r ids i d fits ∙ ap (λ j. (pair_at r j).0) (here nowhere) ∙ ap (λ e. (pair_of e).0) was

  key_less : (j : ℕ) (d : RowKey) → j < i → key_cmp (slice_index_or (keys_of (pairs r ids)) j d) x.key ≡ Less
  key_less j d less = let long = length_keys r ids in subst (λ k. key_cmp (slice_index_or (keys_of (pairs r ids)) j d) k ≡ Less) (key_here d) (Less-from_sorted key_cmp (keys_of (pairs r ids)) j i d l.ordered.rising less (omega (arith, long, fits)))

  pub still_later : StillThere r rest ids (i + 1)
  still_later j d from less =
      out.frame.others (slice_index_or ids j d) (λ e.
      let long = length_keys r ids in
      let above = Less-from_sorted key_cmp (keys_of (pairs r ids)) i j x.key l.ordered.rising (omega (arith, from)) (omega (arith, long, less)) in
      let same : slice_index_or (keys_of (pairs r ids)) j x.key ≡ x.key = key_of r ids j x.key less ∙ ap (λ k. (pair_at r k).0) (get_or_default ids j nowhere d less ∙ e) ∙ ap (λ z. (pair_of z).0) was in
      let clash = sym (tied_itself key_total x.key) ∙ subst (λ k. key_cmp k x.key ≡ Less) (key_here x.key) (subst (λ k. key_cmp (slice_index_or (keys_of (pairs r ids)) i x.key) k ≡ Less) same above) in
      cc)
      ∙ still j d (omega (arith, from)) less

  -- it stands behind those that were moved
  pub gap_at_end : (s : ViewedRegion Entry) (js : List SlotId) → IsHeld s js → pairs s js ≡ take i (pairs r ids) → IsGap s js x.key (length js)
  gap_at_end s js m moved =
      let long = moved_length r s ids js i (omega (arith, fits)) moved in
      record {
        fits = omega arith;
        below = λ j d e.
            let less : j < length js = omega (arith, e) in
            ap (λ k. side x.key (find s k)) (get_or_default js j d nowhere less)
            ∙ side_of x.key (find s (slice_index_or js j nowhere)) (m.ordered.taken j nowhere less)
            ∙ ap (key_cmp x.key) (sym (key_of s js j x.key less) ∙ ap (λ ks. slice_index_or ks j x.key) (ap keys_of moved ∙ sym (take-map (λ (e : RowKey × Row). e.0) i (pairs r ids))) ∙ get_or-take i (keys_of (pairs r ids)) j x.key (omega (arith, long, less)))
            ∙ (key_total.antisymm x.key (slice_index_or (keys_of (pairs r ids)) j x.key) ∙ ap ordering_reverse (key_less j x.key (omega (arith, long, less))));
        above = λ d less. absurd (omega (arith, less));
      }

  pub pairs_moved : (js : List SlotId) (old new : List (RowKey × Row)) → length js ≡ length old → old ≡ take i (pairs r ids) → new ≡ insert old (length js) (x.key, x.row) → new ≡ take (i + 1) (pairs r ids)
  pairs_moved js old new long moved put =
      let all = length-map ids (pair_at r) in
      put ∙ ap (λ n. insert old n (x.key, x.row)) long ∙ at_end old (x.key, x.row)
      ∙ ap (λ es. es ++ (x.key, x.row) ∷ []) moved
      ∙ ap (λ e. take i (pairs r ids) ++ e ∷ []) (sym (get_or-map (pair_at r) ids i id (x.key, x.row) fits ∙ ap (pair_at r) (here id) ∙ ap pair_of was))
      ∙ sym (take_more (pairs r ids) i (x.key, x.row) (omega (arith, fits, all)))
