-- A row is taken away.
use Rattle.std.specs.{List.AllByRecursion, List.Sorted.IsStrictlySortedBy, Map.lookup, Map.keys_of, BTreeMap.is_at, Cmp.eq_by_cmp_equiv, declared.cmp.Ordering.TheVariants.Equal}
use Rattle.std.specs.FinMap as fin
use Rattle.std.proofs.lemmas.List.{get_or-map}
use Rattle.std.proofs.lemmas.List.Elements.{All-from_recursion}
use Rattle.std.proofs.Common.{◌≡◌, ◌≢◌, ℕ, ◌+◌, ◌<◌, true, false, cond, List, [], ◌∷◌, length, map, Option, Some, None, is_some, IsTrue, refl, subst, ap, sym, ◌∙◌, slice_index_or, remove, option_map, arith, if◌then◌else◌}
use Rattle.beldi_row.{specs.Key.RowKey, specs.Key.key_cmp, specs.KeyOrder.key_total, specs.KeyOrder.key_exact, specs.declared.row.Row.Row, proofs.TableRows.one_gone}
use Rattle.beldi_region.specs.{Region.ViewedRegion, Region.find, Region.Released, SlotOrder.pair_of, SlotOrder.pair_at, SlotOrder.pairs, SlotOrder.rows_in, SlotOrder.seat, SlotOrder.slot_of, SlotOrder.side, SlotOrder.IsGap, SlotOrder.IsOrdered, SlotOrder.IsHeld, SlotOrder.IsListed, SlotOrder.IsWithout, declared.region.SlotId.SlotId, declared.order.Entry.Entry}
use Rattle.beldi_region.proofs.{RegionLists.all_map, RegionLists.all_both, RegionLists.map_same, RegionLists.map_removed, RegionLists.all_removed, RegionLists.length_removed, RegionLists.rising_removed, RegionLists.lookup_removed, RegionLists.lookup_gone, RegionLists.lookup_here, RegionLists.unpassed, Held.nowhere, Held.not_none, Held.some_same, Held.tied, Held.tied_self, Held.side_of, Held.some_of, Held.taken_all, Held.absent_slot, Held.by_slot, Held.keys_seats, Held.length_keys, Held.key_of}

abbrev counted : Option SlotId → ℕ
counted o = if is_some o then 1 else 0

-- ---- the slots without that of a key
module _ (r : ViewedRegion Entry) (k : RowKey) where
  -- no slot has the key
  apart : (ids : List SlotId) → slot_of r ids k ≡ None → AllByRecursion (λ j. is_at (key_cmp k) (pair_at r j).0 ≡ false) ids
  apart [] h = tt
  apart (i ∷ ids) h = let n = unpassed (is_at (key_cmp k) (pair_at r i).0) i (slot_of r ids k) h in (n.0, apart ids n.1)

  pub none_less : (ids : List SlotId) (p : ℕ) → IsOrdered r ids → IsGap r ids k p → IsWithout r k ids ids
  none_less ids p o g =
      let none = absent_slot r ids k p o g in
      let zero_more = ap counted none in
      record { ordered = o; none = none; others = λ q n. refl; count = omega (arith, zero_more) }

  length_seats : (ids : List SlotId) → length (map (seat r) ids) ≡ length ids
  length_seats [] = refl
  length_seats (i ∷ ids) = let h = length_seats ids in omega (arith, h)

  pub one_less : (ids : List SlotId) (p : ℕ) → IsOrdered r ids → p < length ids → side k (find r (slice_index_or ids p nowhere)) ≡ Equal → IsWithout r k ids (remove ids p)
  one_less ids p o less tie =
      record {
        ordered = record {
          taken = All-from_recursion (λ j. IsTrue (is_some (find r j))) (remove ids p) (all_removed (λ j. IsTrue (is_some (find r j))) p ids (taken_all r ids o));
          rising = subst (IsStrictlySortedBy key_cmp) (sym (ap keys_of (map_removed (pair_at r) p ids) ∙ map_removed (λ (e : RowKey × Row). e.0) p (pairs r ids))) (rising_removed key_total p (keys_of (pairs r ids)) o.rising);
        };
        none =
            ap (lookup (is_at (key_cmp k))) (map_removed (seat r) p ids)
            ∙ ap (λ q. lookup (is_at (key_cmp q)) (remove (map (seat r) ids) p)) (sym (key_there k))
            ∙ lookup_gone key_total p (map (seat r) ids) k sorted (subst (λ n. p < n) (sym long) less);
        others = λ q n. ap (lookup (is_at (key_cmp q))) (map_removed (seat r) p ids) ∙ lookup_removed key_total q p (map (seat r) ids) (λ d l. ap (is_at (key_cmp q)) (key_there d) ∙ n);
        count = let one = length_removed p ids less in let was = ap counted found in omega (arith, one, was);
      }
    where
      here : SlotId
      here = slice_index_or ids p nowhere

      key : k ≡ (pair_at r here).0
      key = key_exact k (pair_at r here).0 (sym (side_of k (find r here) (o.taken p nowhere less)) ∙ tie)

      key_there : (d : RowKey) → slice_index_or (keys_of (map (seat r) ids)) p d ≡ k
      key_there d = ap (λ ks. slice_index_or ks p d) (keys_seats r ids) ∙ key_of r ids p d less ∙ sym key

      sorted : IsStrictlySortedBy key_cmp (keys_of (map (seat r) ids))
      sorted = subst (IsStrictlySortedBy key_cmp) (sym (keys_seats r ids)) o.rising

      long : length (keys_of (map (seat r) ids)) ≡ length ids
      long = ap length (keys_seats r ids) ∙ length_keys r ids

      found : slot_of r ids k ≡ Some here
      found =
          let many = length_seats ids in
          let is : slice_index_or (map (seat r) ids) p (seat r nowhere) ≡ seat r here = get_or-map (seat r) ids p nowhere (seat r nowhere) less in
          ap (slot_of r ids) key ∙ sym (ap (λ z. slot_of r ids z.0) is) ∙ lookup_here key_total p (map (seat r) ids) (seat r nowhere) sorted (omega (arith, less, many)) ∙ ap (λ z. Some z.1) is

-- ---- the row of a slot was taken out
module _ (r s : ViewedRegion Entry) (ids less : List SlotId) (id : SlotId) (x : Entry) (out : Released r s id x) (w : IsWithout r x.key ids less) where
  others_stay : AllByRecursion (λ j. find s j ≡ find r j) less
  others_stay =
      all_map {P = λ j. is_at (key_cmp x.key) (pair_at r j).0 ≡ false} {Q = λ j. find s j ≡ find r j}
      (λ j a. out.frame.others j (λ e. let clash : false ≡ true = sym a ∙ ap (λ i. is_at (key_cmp x.key) (pair_at r i).0) e ∙ ap (λ o. is_at (key_cmp x.key) (pair_of o).0) out.was ∙ tied_self x.key in cc))
      less (apart r x.key less w.none)

  pairs_stay : pairs s less ≡ pairs r less
  pairs_stay = map_same {P = λ j. find s j ≡ find r j} (pair_at s) (pair_at r) (λ j e. ap pair_of e) less others_stay

  slots_stay : (q : RowKey) → slot_of s less q ≡ slot_of r less q
  slots_stay q = ap (lookup (is_at (key_cmp q))) (map_same {P = λ j. find s j ≡ find r j} (seat s) (seat r) (λ j e. ap (λ z. ((pair_of z).0, j)) e) less others_stay)

  ordered_still : IsOrdered s less
  ordered_still =
      record {
        taken = All-from_recursion (λ j. IsTrue (is_some (find s j))) less
            (all_map {P = λ j. IsTrue (is_some (find r j)) × (find s j ≡ find r j)} {Q = λ j. IsTrue (is_some (find s j))} (λ j b. ap is_some b.1 ∙ b.0) less
            (all_both (λ j. IsTrue (is_some (find r j))) (λ j. find s j ≡ find r j) less (taken_all r less w.ordered) others_stay));
        rising = subst (IsStrictlySortedBy key_cmp) (sym (ap keys_of pairs_stay)) w.ordered.rising;
      }

  other : (j : SlotId) (e : Entry) → find s j ≡ Some e → j ≢ id
  other j e at = λ same. not_none e (sym out.gone ∙ ap (find s) (sym same) ∙ at)

  was_there : (j : SlotId) (e : Entry) → find s j ≡ Some e → find r j ≡ Some e
  was_there j e at = sym (out.frame.others j (other j e at)) ∙ at

  key_apart : (all : List SlotId) → IsHeld r all → (j : SlotId) (e : Entry) → find s j ≡ Some e → is_at (key_cmp e.key) x.key ≡ false
  key_apart all h j e at = (elim (is_at (key_cmp e.key) x.key) as (λ b. is_at (key_cmp e.key) x.key ≡ b → b ≡ false) [
    | true ↦ λ t. absurd (other j e at (some_same j id (sym (h.seated j e (was_there j e at)) ∙ ap (slot_of r all) (tied e.key x.key t) ∙ h.seated id x out.was)))
    | false ↦ λ t. refl
  ]) refl

  pub held_gone : IsHeld r ids → IsHeld s less
  held_gone h =
      let one = out.spaces in
      let all = h.count in
      let room = out.frame.room in
      let long = w.count in
      let was = ap counted (h.seated id x out.was) in
      record {
        ordered = ordered_still;
        seated = λ j e at. slots_stay e.key ∙ w.others e.key (key_apart ids h j e at) ∙ h.seated j e (was_there j e at);
        count = omega (arith, one, all, room, long, was);
      }

  pub listed_gone : (all : List SlotId) → IsHeld r all → IsListed r ids → IsListed s less
  listed_gone all h l =
      record {
        ordered = ordered_still;
        listed = λ j e m at live. slots_stay e.key ∙ w.others e.key (key_apart all h j e at) ∙ l.listed j e tt (was_there j e at) live;
      }

  rows_gone : (q : RowKey) → lookup (is_at (key_cmp q)) (pairs s less) ≡ cond (is_at (key_cmp x.key) q) None (lookup (is_at (key_cmp q)) (pairs r ids))
  rows_gone q =
      ap (lookup (is_at (key_cmp q))) pairs_stay
      ∙ by_slot r less q
      ∙ (elim (is_at (key_cmp x.key) q) as (λ b. is_at (key_cmp x.key) q ≡ b → option_map (λ j. (pair_at r j).1) (slot_of r less q) ≡ cond b None (lookup (is_at (key_cmp q)) (pairs r ids))) [
        | true ↦ λ e. ap (option_map (λ j. (pair_at r j).1)) (ap (slot_of r less) (sym (tied x.key q e)) ∙ w.none)
        | false ↦ λ e. ap (option_map (λ j. (pair_at r j).1)) (w.others q ((eq_by_cmp_equiv key_total).symm q x.key ∙ e)) ∙ sym (by_slot r ids q)
      ]) refl

  pub map_gone : rows_in s less ≡ fin.remove (rows_in r ids) x.key
  map_gone = one_gone key_total key_exact (pairs r ids) (pairs s less) x.key rows_gone
