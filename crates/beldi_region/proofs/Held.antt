-- The slots of a table through a change of one row and the putting of one.
use Rattle.std.specs.{List.AllByRecursion, List.Sorted.IsStrictlySortedBy, Map.lookup, Map.keys_of, BTreeMap.is_at, Cmp.eq_by_cmp_equiv, Cmp.Equal-is, Ordering.is_eq, Ordering.is_lt, declared.cmp.Ordering.Ordering, declared.cmp.Ordering.TheVariants.Less, declared.cmp.Ordering.TheVariants.Equal, declared.cmp.Ordering.TheVariants.Greater}
use Rattle.std.specs.FinMap as fin
use Rattle.std.proofs.lemmas.Bool.{cases_eq}
use Rattle.std.proofs.lemmas.Cmp.{tied_itself}
use Rattle.std.proofs.lemmas.List.{get_or-map}
use Rattle.std.proofs.lemmas.Option.{slice_get-map, slice_get_within, get_or_from_slice_get}
use lib.ListN.{length-map}
use Rattle.std.proofs.lemmas.List.Elements.{All-from_recursion, recursion_from_All}
use Rattle.std.proofs.Common.{◌≡◌, ◌≢◌, ◌⊎◌, inl, inr, ℕ, ◌+◌, ◌-◌, ◌<◌, Bool, true, false, cond, List, [], ◌∷◌, length, map, Option, Some, None, Ok, is_some, IsTrue, IfSome, refl, subst, ap, sym, ◌∙◌, slice_index_or, slice_get, insert, option_map, arith, true≢false}
use Rattle.beldi_row.{specs.Key.RowKey, specs.Key.key_cmp, specs.KeyOrder.key_total, specs.KeyOrder.key_exact, specs.Table.first_above, specs.Table.next_row, specs.Table.LeadsOn, specs.Act.Changes, specs.Act.drops, specs.declared.row.Row.Row, specs.declared.act.Act.Act, specs.declared.act.Change.Change, proofs.TableRows.get_rows, proofs.TableRows.one_set, proofs.TableRows.entries_rows, proofs.TableRows.len_rows}
use Rattle.beldi_value.specs.declared.place.Place.{Place}
use Rattle.beldi_table.{specs.MapTable.ChangedOn, proofs.Changes.there}
use Rattle.beldi_region.specs.{Region.ViewedRegion, Region.find, Region.spaces, Region.PutAt, Region.Changed, SlotOrder.pair_of, SlotOrder.pair_at, SlotOrder.pairs, SlotOrder.rows_in, SlotOrder.seat, SlotOrder.slot_of, SlotOrder.side, SlotOrder.IsPast, SlotOrder.IsGap, SlotOrder.IsOrdered, SlotOrder.IsHeld, Follows.Follows, declared.region.SlotId.SlotId, declared.order.Entry.Entry}
use Rattle.beldi_region.proofs.{Viewed.same_id, RegionLists.all_map, RegionLists.any_default, RegionLists.map_same, RegionLists.map_inserted, RegionLists.all_inserted, RegionLists.length_inserted, RegionLists.IsBetween, RegionLists.rising_inserted, RegionLists.absent, RegionLists.lookup_inserted, Past.IsFirstPast, Past.first_at, Past.less_of}

pub nowhere : SlotId
nowhere = record { slot = 0; generation = 0 }

pub same_or : (a b : SlotId) → (a ≡ b) ⊎ (a ≢ b)
same_or a b = elim (cases_eq a.slot b.slot) [
  | inl e ↦ elim (cases_eq a.generation b.generation) [
    | inl f ↦ inl (same_id a b e f)
    | inr n ↦ inr (λ h. n (ap (λ i. i.generation) h))
  ]
  | inr n ↦ inr (λ h. n (ap (λ i. i.slot) h))
]

pub not_none : {A : Type 0} (a : A) → None ≡ Some a → ⊥
not_none a h = cc

pub some_same : {A : Type 0} (a b : A) → Some a ≡ Some b → a ≡ b
some_same a b h = cc

-- a key that ties with another one is that one
pub tied : (k q : RowKey) → is_at (key_cmp k) q ≡ true → k ≡ q
tied k q h = key_exact k q ((Equal-is (key_cmp k q)).0 h)

pub tied_self : (k : RowKey) → is_at (key_cmp k) k ≡ true
tied_self k = ap is_eq (tied_itself key_total k)

pub by_side : (k : RowKey) (e : Option Entry) → side k e ≡ Equal → (x : Entry) × (e ≡ Some x) × (k ≡ x.key)
by_side k None h = cc
by_side k (Some x) h = (x, refl, key_exact k x.key h)

pub side_self : (x : Entry) → side x.key (Some x) ≡ Equal
side_self x = tied_itself key_total x.key

pub side_of : (k : RowKey) (e : Option Entry) → IsTrue (is_some e) → side k e ≡ key_cmp k (pair_of e).0
side_of k None h = cc
side_of k (Some x) h = refl

pub some_of : (e : Option Entry) → IsTrue (is_some e) → (x : Entry) × (e ≡ Some x)
some_of None h = cc
some_of (Some x) h = (x, refl)

pub taken_all : (r : ViewedRegion Entry) (ids : List SlotId) → IsOrdered r ids → AllByRecursion (λ j. IsTrue (is_some (find r j))) ids
taken_all r ids h = recursion_from_All (λ j. IsTrue (is_some (find r j))) ids h.taken

-- a slot that stands at a place has a row
pub taken_at : (r : ViewedRegion Entry) (ids : List SlotId) (i : ℕ) (id : SlotId) → IsOrdered r ids → slice_get ids i ≡ Some id → find r id ≡ None → ⊥
taken_at r ids i id h at gone =
    let there : IsTrue (is_some (find r (slice_index_or ids i id))) = h.taken i id (slice_get_within ids i id at) in
    let none : is_some (find r (slice_index_or ids i id)) ≡ false = ap (λ j. is_some (find r j)) (get_or_from_slice_get ids i id id at) ∙ ap is_some gone in
    true≢false (sym there ∙ none)

greater : (o : Ordering) → is_lt o ≡ false → is_eq o ≡ false → o ≡ Greater
greater Less h n = cc
greater Equal h n = cc
greater Greater h n = refl

-- a place past a key, where the slot before it has not this key
pub gap_past : (r : ViewedRegion Entry) (ids : List SlotId) (k : RowKey) (p : ℕ) → IsPast r ids k p → ((j : ℕ) (d : SlotId) → j + 1 ≡ p → is_eq (side k (find r (slice_index_or ids j d))) ≡ false) → IsGap r ids k p
gap_past r ids k p h n =
    record {
      fits = h.fits;
      below = λ j d e. greater _ (h.below j d e) (n j d e);
      above = λ d l. less_of _ (h.above d l);
    }

pub gap_before : (r : ViewedRegion Entry) (ids : List SlotId) (k : RowKey) (p : ℕ) (id : SlotId) → IsPast r ids k p → 0 < p → id ≡ slice_index_or ids (p - 1) id → is_eq (side k (find r id)) ≡ false → IsGap r ids k p
gap_before r ids k p id h some at n =
    gap_past r ids k p h (λ j d e.
    let fits = h.fits in
    let j_is : p - 1 ≡ j = omega (arith, e, some) in
    ap (λ i. is_eq (side k (find r i))) (any_default ids j d id (omega (arith, e, fits)) ∙ sym (at ∙ ap (λ i. slice_index_or ids i id) j_is)) ∙ n)

module _ (r : ViewedRegion Entry) where
  -- the row with a key is that of the slot with it
  pub by_slot : (ids : List SlotId) (q : RowKey) → lookup (is_at (key_cmp q)) (pairs r ids) ≡ option_map (λ id. (pair_at r id).1) (slot_of r ids q)
  by_slot [] q = refl
  by_slot (i ∷ ids) q = ap (cond (is_at (key_cmp q) (pair_at r i).0) (Some (pair_at r i).1)) (by_slot ids q) ∙ outside (is_at (key_cmp q) (pair_at r i).0)
    where
      outside : (b : Bool) → cond b (Some (pair_at r i).1) (option_map (λ id. (pair_at r id).1) (slot_of r ids q)) ≡ option_map (λ id. (pair_at r id).1) (cond b (Some i) (slot_of r ids q))
      outside true = refl
      outside false = refl

  -- the slot with a key has this key
  pub slot_tied : (ids : List SlotId) (q : RowKey) (j : SlotId) → slot_of r ids q ≡ Some j → is_at (key_cmp q) (pair_at r j).0 ≡ true
  slot_tied [] q j h = absurd (not_none j h)
  slot_tied (i ∷ ids) q j h = (elim (is_at (key_cmp q) (pair_at r i).0) as (λ b. is_at (key_cmp q) (pair_at r i).0 ≡ b → cond b (Some i) (slot_of r ids q) ≡ Some j → is_at (key_cmp q) (pair_at r j).0 ≡ true) [
    | true ↦ λ e g. subst (λ x. is_at (key_cmp q) (pair_at r x).0 ≡ true) (some_same i j g) e
    | false ↦ λ e g. slot_tied ids q j g
  ]) refl h

  pub keys_seats : (ids : List SlotId) → keys_of (map (seat r) ids) ≡ keys_of (pairs r ids)
  keys_seats [] = refl
  keys_seats (i ∷ ids) = ap (λ ks. (pair_at r i).0 ∷ ks) (keys_seats ids)

  pub length_keys : (ids : List SlotId) → length (keys_of (pairs r ids)) ≡ length ids
  length_keys [] = refl
  length_keys (i ∷ ids) = let h = length_keys ids in omega (arith, h)

  pub key_of : (ids : List SlotId) (j : ℕ) (d : RowKey) → j < length ids → slice_index_or (keys_of (pairs r ids)) j d ≡ (pair_at r (slice_index_or ids j nowhere)).0
  key_of ids j d h = let long = length_keys ids in get_or-map (λ (e : RowKey × Row). e.0) (pairs r ids) j (pair_at r nowhere) d (omega (arith, h, length_pairs ids)) ∙ ap (λ (e : RowKey × Row). e.0) (get_or-map (pair_at r) ids j nowhere (pair_at r nowhere) h)
    where
      length_pairs : (ids : List SlotId) → length (pairs r ids) ≡ length ids
      length_pairs [] = refl
      length_pairs (i ∷ ids) = let g = length_pairs ids in omega (arith, g)

  pub between : (ids : List SlotId) (k : RowKey) (p : ℕ) → IsOrdered r ids → IsGap r ids k p → IsBetween key_total k p (keys_of (pairs r ids))
  between ids k p h g =
      let long = length_keys ids in
      let side_at = λ (j : ℕ) (less : j < length ids). side_of k (find r (slice_index_or ids j nowhere)) (h.taken j nowhere less) in
      record {
        fits = omega (arith, long, g.fits);
        below = λ j d e.
            let less : j < length ids = omega (arith, e, g.fits) in
            ap (key_cmp k) (key_of ids j d less) ∙ sym (side_at j less) ∙ g.below j nowhere e;
        above = λ d l.
            let less : p < length ids = omega (arith, l, long) in
            ap (key_cmp k) (key_of ids p d less) ∙ sym (side_at p less) ∙ g.above nowhere less;
      }

  -- no row has a key that has a place of its own
  pub absent_row : (ids : List SlotId) (k : RowKey) (p : ℕ) → IsOrdered r ids → IsGap r ids k p → lookup (is_at (key_cmp k)) (pairs r ids) ≡ None
  absent_row ids k p h g = absent key_total k p (pairs r ids) h.rising (between ids k p h g)

  pub absent_slot : (ids : List SlotId) (k : RowKey) (p : ℕ) → IsOrdered r ids → IsGap r ids k p → slot_of r ids k ≡ None
  absent_slot ids k p h g =
      absent key_total k p (map (seat r) ids) (subst (IsStrictlySortedBy key_cmp) (sym (keys_seats ids)) h.rising) (subst (IsBetween key_total k p) (sym (keys_seats ids)) (between ids k p h g))

  -- the row past a key
  pub first_past : (ids : List SlotId) (k : RowKey) (p : ℕ) → IsOrdered r ids → IsPast r ids k p → IsFirstPast k p (keys_of (pairs r ids))
  first_past ids k p h g =
      let long = length_keys ids in
      let lt_at = λ (j : ℕ) (d : RowKey) (less : j < length ids).
      ap (λ q. is_lt (key_cmp k q)) (key_of ids j d less) ∙ sym (ap is_lt (side_of k (find r (slice_index_or ids j nowhere)) (h.taken j nowhere less))) in
      record {
        fits = omega (arith, long, g.fits);
        below = λ j d e. lt_at j d (omega (arith, e, g.fits)) ∙ g.below j nowhere e;
        above = λ d l. let less : p < length ids = omega (arith, l, long) in lt_at p d less ∙ g.above nowhere less;
      }

  pub next_is : (ids : List SlotId) (k : RowKey) (p : ℕ) → IsOrdered r ids → IsPast r ids k p → next_row (rows_in r ids) k ≡ option_map (pair_at r) (slice_get ids p)
  next_is ids k p h g =
      ap (first_above k) (entries_rows key_total key_exact (pairs r ids) h.rising)
      ∙ first_at k p (pairs r ids) h.rising (first_past ids k p h g)
      ∙ slice_get-map (pair_at r) ids p

  -- how many rows there are
  pub len_is : (ids : List SlotId) → IsOrdered r ids → fin.len (rows_in r ids) ≡ length ids
  len_is ids h = len_rows key_total key_exact (pairs r ids) h.rising ∙ length-map ids (pair_at r)

  -- the row of a slot that is taken
  pub row_at : (ids : List SlotId) (id : SlotId) (x : Entry) → IsHeld r ids → find r id ≡ Some x → lookup (is_at (key_cmp x.key)) (pairs r ids) ≡ Some x.row
  row_at ids id x h at = by_slot ids x.key ∙ ap (option_map (λ i. (pair_at r i).1)) (h.seated id x at) ∙ ap (λ e. Some (pair_of e).1) at

-- no slot is taken
pub held_none : (r : ViewedRegion Entry) → ((id : SlotId) → find r id ≡ None) → spaces r ≡ r.room → IsHeld r []
unfolding IsStrictlySortedBy
held_none r none all =
    record {
      ordered = record { taken = λ j d l. absurd (omega (arith, l)); rising = tt };
      seated = λ id x at. absurd (not_none x (sym (none id) ∙ at));
      count = omega (arith, all);
    }

-- ---- one row is changed
module _ (r s : ViewedRegion Entry) (ids : List SlotId) (id : SlotId) (x y : Entry) (h : IsHeld r ids) (was : find r id ≡ Some x) (c : Changed r s id y) (same : y.key ≡ x.key) where
  here : pair_at s id ≡ (x.key, y.row)
  here = ap pair_of c.found ∙ ap (λ k. (k, y.row)) same

  pub key_kept : (j : SlotId) → (pair_at s j).0 ≡ (pair_at r j).0
  key_kept j = elim (same_or j id) [
    | inl e ↦ ap (λ i. (pair_at s i).0) e ∙ ap (λ p. p.0) here ∙ sym (ap (λ p. (pair_of p).0) was) ∙ ap (λ i. (pair_at r i).0) (sym e)
    | inr n ↦ ap (λ p. (pair_of p).0) (c.frame.others j n)
  ]

  slots_kept : (q : RowKey) → slot_of s ids q ≡ slot_of r ids q
  slots_kept q = λ i. lookup (is_at (key_cmp q)) (map (λ j. (key_kept j i, j)) ids)

  keys_kept : (js : List SlotId) → keys_of (pairs s js) ≡ keys_of (pairs r js)
  keys_kept [] = refl
  keys_kept (j ∷ js) = λ i. key_kept j i ∷ keys_kept js i

  pub taken_kept : (j : SlotId) → is_some (find s j) ≡ is_some (find r j)
  taken_kept j = elim (same_or j id) [
    | inl e ↦ ap (λ i. is_some (find s i)) e ∙ ap is_some c.found ∙ sym (ap is_some was) ∙ ap (λ i. is_some (find r i)) (sym e)
    | inr n ↦ ap is_some (c.frame.others j n)
  ]

  pub held_changed : IsHeld s ids
  held_changed =
      record {
        ordered = record {
          taken = All-from_recursion (λ j. IsTrue (is_some (find s j))) ids (all_map {P = λ j. IsTrue (is_some (find r j))} {Q = λ j. IsTrue (is_some (find s j))} (λ j t. taken_kept j ∙ t) ids (taken_all r ids h.ordered));
          rising = subst (IsStrictlySortedBy key_cmp) (sym (keys_kept ids)) h.ordered.rising;
        };
        seated = λ j e at. slots_kept e.key ∙ (elim (same_or j id) [
          | inl g ↦ ap (slot_of r ids) (some_key e y (sym at ∙ ap (find s) g ∙ c.found) ∙ same) ∙ h.seated id x was ∙ ap (λ i. Some i) (sym g)
          | inr n ↦ h.seated j e (sym (c.frame.others j n) ∙ at)
        ]);
        count = ap (λ n. length ids + n) c.spaces ∙ h.count ∙ sym c.frame.room;
      }
    where
      some_key : (a b : Entry) → Some a ≡ Some b → a.key ≡ b.key
      some_key a b e = ap (λ z. z.key) (some_same a b e)

  pub rows_changed : (q : RowKey) → lookup (is_at (key_cmp q)) (pairs s ids) ≡ cond (is_at (key_cmp x.key) q) (Some y.row) (lookup (is_at (key_cmp q)) (pairs r ids))
  rows_changed q = by_slot s ids q ∙ ap (option_map (λ j. (pair_at s j).1)) (slots_kept q) ∙ (elim (is_at (key_cmp x.key) q) as (λ b. is_at (key_cmp x.key) q ≡ b → option_map (λ j. (pair_at s j).1) (slot_of r ids q) ≡ cond b (Some y.row) (lookup (is_at (key_cmp q)) (pairs r ids))) [
    | true ↦ λ e. ap (λ k. option_map (λ j. (pair_at s j).1) (slot_of r ids k)) (sym (tied x.key q e)) ∙ ap (option_map (λ j. (pair_at s j).1)) (h.seated id x was) ∙ ap (λ p. Some p.1) here
    | false ↦ λ e. elsewhere e (slot_of r ids q) refl ∙ sym (by_slot r ids q)
  ]) refl
    where
      elsewhere : is_at (key_cmp x.key) q ≡ false → (o : Option SlotId) → slot_of r ids q ≡ o → option_map (λ j. (pair_at s j).1) o ≡ option_map (λ j. (pair_at r j).1) o
      elsewhere e None at = refl
      elsewhere e (Some j) at = elim (same_or j id) [
        | inl g ↦
            let ties : is_at (key_cmp q) x.key ≡ true = sym (ap (λ p. is_at (key_cmp q) (pair_of p).0) (ap (find r) g ∙ was)) ∙ slot_tied r ids q j at in
            let clash : true ≡ false = sym ties ∙ (eq_by_cmp_equiv key_total).symm q x.key ∙ e in cc
        | inr n ↦ ap (λ p. Some (pair_of p).1) (c.frame.others j n)
      ]

-- ---- one row is put
module _ (r s : ViewedRegion Entry) (ids : List SlotId) (id : SlotId) (x : Entry) (p : ℕ) (h : IsHeld r ids) (put : PutAt r s id x) (g : IsGap r ids x.key p) where
  pub stays : (j : SlotId) → IsTrue (is_some (find r j)) → find s j ≡ find r j
  stays j t = put.frame.others j (λ e. let none : true ≡ false = sym t ∙ ap (λ i. is_some (find r i)) e ∙ ap is_some put.was_new in cc)

  pub pairs_put : pairs s (insert ids p id) ≡ insert (pairs r ids) p (x.key, x.row)
  pairs_put =
      map_inserted (pair_at s) p id ids
      ∙ (λ i. insert (map_same {P = λ j. IsTrue (is_some (find r j))} (pair_at s) (pair_at r) (λ j t. ap pair_of (stays j t)) ids (taken_all r ids h.ordered) i) p (pair_of (put.found i)))

  slot_put : (q : RowKey) → slot_of s (insert ids p id) q ≡ cond (is_at (key_cmp q) x.key) (Some id) (slot_of r ids q)
  slot_put q =
      ap (lookup (is_at (key_cmp q)))
      (map_inserted (seat s) p id ids
      ∙ (λ i. insert (map_same {P = λ j. IsTrue (is_some (find r j))} (seat s) (seat r) (λ j t. ap (λ e. ((pair_of e).0, j)) (stays j t)) ids (taken_all r ids h.ordered) i) p ((pair_of (put.found i)).0, id)))
      ∙ lookup_inserted key_total q (x.key, id) p (map (seat r) ids) (absent_slot r ids x.key p h.ordered g)

  pub held_put : IsHeld s (insert ids p id)
  held_put =
      record {
        ordered = record {
          taken = All-from_recursion (λ j. IsTrue (is_some (find s j))) (insert ids p id) (all_inserted (λ j. IsTrue (is_some (find s j))) p id ids (ap is_some put.found) (all_map {P = λ j. IsTrue (is_some (find r j))} {Q = λ j. IsTrue (is_some (find s j))} (λ j t. ap is_some (stays j t) ∙ t) ids (taken_all r ids h.ordered)));
          rising = subst (IsStrictlySortedBy key_cmp) (sym (ap keys_of pairs_put ∙ map_inserted (λ (e : RowKey × Row). e.0) p (x.key, x.row) (pairs r ids))) (rising_inserted key_total x.key p (keys_of (pairs r ids)) h.ordered.rising (between r ids x.key p h.ordered g));
        };
        seated = λ j e at. slot_put e.key ∙ (elim (same_or j id) [
          | inl f ↦
              let is : e ≡ x = some_same e x (sym at ∙ ap (find s) f ∙ put.found) in
              ap (λ b. cond b (Some id) (slot_of r ids e.key)) (ap (λ z. is_at (key_cmp e.key) z.key) (sym is) ∙ tied_self e.key) ∙ ap (λ i. Some i) (sym f)
          | inr n ↦ apart j e (h.seated j e (sym (put.frame.others j n) ∙ at))
        ]);
        count = let long = length_inserted p id ids in let one = put.spaces in let all = h.count in let room = put.frame.room in omega (arith, long, one, all, room);
      }
    where
      apart : (j : SlotId) (e : Entry) → slot_of r ids e.key ≡ Some j → cond (is_at (key_cmp e.key) x.key) (Some id) (slot_of r ids e.key) ≡ Some j
      apart j e at = (elim (is_at (key_cmp e.key) x.key) as (λ b. is_at (key_cmp e.key) x.key ≡ b → cond b (Some id) (slot_of r ids e.key) ≡ Some j) [
        | true ↦ λ t. absurd (not_none j (sym (ap (slot_of r ids) (tied e.key x.key t) ∙ absent_slot r ids x.key p h.ordered g) ∙ at))
        | false ↦ λ t. at
      ]) refl

  pub rows_put : (q : RowKey) → lookup (is_at (key_cmp q)) (pairs s (insert ids p id)) ≡ cond (is_at (key_cmp x.key) q) (Some x.row) (lookup (is_at (key_cmp q)) (pairs r ids))
  rows_put q =
      ap (lookup (is_at (key_cmp q))) pairs_put
      ∙ lookup_inserted key_total q (x.key, x.row) p (pairs r ids) (absent_row r ids x.key p h.ordered g)
      ∙ ap (λ b. cond b (Some x.row) (lookup (is_at (key_cmp q)) (pairs r ids))) ((eq_by_cmp_equiv key_total).symm q x.key)

-- ---- the same, of the rows as a map
pub row_found : (r : ViewedRegion Entry) (ids : List SlotId) (id : SlotId) (k : RowKey) (x : Entry) → IsHeld r ids → side k (find r id) ≡ Equal → find r id ≡ Some x → fin.get (rows_in r ids) k ≡ Some x.row
row_found r ids id k x h at is =
    get_rows key_total key_exact (pairs r ids) k ∙ ap (λ q. lookup (is_at (key_cmp q)) (pairs r ids)) (key_exact k x.key (ap (side k) (sym is) ∙ at)) ∙ row_at r ids id x h is

pub no_row : (r : ViewedRegion Entry) (ids : List SlotId) (k : RowKey) (p : ℕ) → IsHeld r ids → IsGap r ids k p → fin.get (rows_in r ids) k ≡ None
no_row r ids k p h g = get_rows key_total key_exact (pairs r ids) k ∙ absent_row r ids k p h.ordered g

pub map_put : (r s : ViewedRegion Entry) (ids : List SlotId) (id : SlotId) (x : Entry) (p : ℕ) → IsHeld r ids → PutAt r s id x → IsGap r ids x.key p → rows_in s (insert ids p id) ≡ fin.insert (rows_in r ids) x.key x.row
map_put r s ids id x p h put g = one_set key_total key_exact (pairs r ids) (pairs s (insert ids p id)) x.key x.row (rows_put r s ids id x p h put g)

pub map_changed : (r s : ViewedRegion Entry) (ids : List SlotId) (id : SlotId) (x y : Entry) → IsHeld r ids → find r id ≡ Some x → Changed r s id y → y.key ≡ x.key → rows_in s ids ≡ fin.insert (rows_in r ids) x.key y.row
map_changed r s ids id x y h was c same = one_set key_total key_exact (pairs r ids) (pairs s ids) x.key y.row (rows_changed r s ids id x y h was c same)

-- an act on the row of a slot
pub changed_on : (a : Act) (now : ℕ) (k : RowKey) (room : ℕ) (r s : ViewedRegion Entry) (ids : List SlotId) (id : SlotId) (x y : Entry) (c : Change) → IsHeld r ids → drops a ≡ false → side k (find r id) ≡ Equal → find r id ≡ Some x → Changed r s id y → y.key ≡ x.key
    → Changes a now x.row y.row c → ChangedOn a now k room (rows_in r ids) (rows_in s ids) (fin.get (rows_in s ids) k) (Ok c)
changed_on a now k room r s ids id x y c h keeps at was change same done =
    let key : x.key ≡ k = sym (key_exact k x.key (ap (side k) (sym was) ∙ at)) in
    there a now k room (rows_in r ids) (rows_in s ids) x.row y.row c keeps (row_found r ids id k x h at was) (map_changed r s ids id x y h was change same ∙ ap (λ q. fin.insert (rows_in r ids) q y.row) key) done

-- the row that follows the one in a slot
pub leads : (r : ViewedRegion Entry) (ids : List SlotId) (id : SlotId) (k : RowKey) (x : Entry) (p : Option Place) (o : Option ℕ) → IsHeld r ids → side k (find r id) ≡ Equal → find r id ≡ Some x → IfSome o (Follows x.row p) → IfSome o (λ n. LeadsOn (rows_in r ids) k p n)
leads r ids id k x p None h at is f = tt
leads r ids id k x p (Some n) h at is f =
    record { cell = f.cell; here = row_found r ids id k x h at is ∙ ap (λ w. Some w) f.is; followed = f.followed; lacks = f.lacks }
