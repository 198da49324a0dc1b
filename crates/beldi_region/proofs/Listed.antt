-- The slots of open intents: through a change of a row and the putting of one, and where a slot is listed or not.
use Rattle.std.specs.{List.AllByRecursion, List.Sorted.IsStrictlySortedBy, Map.lookup, Map.keys_of, BTreeMap.is_at, declared.cmp.Ordering.TheVariants.Less, declared.cmp.Ordering.TheVariants.Equal}
use Rattle.std.specs.FinMap as fin
use Rattle.std.proofs.lemmas.Cmp.{tied_itself}
use Rattle.std.proofs.lemmas.List.{get_or-map}
use Rattle.std.proofs.lemmas.List.Elements.{All-from_recursion}
use Rattle.std.proofs.lemmas.Map.Keys.{sorted_head, sorted_tail}
use Rattle.std.proofs.Common.{◌≡◌, ◌≢◌, ◌⊎◌, inl, inr, ℕ, ◌<◌, ◌≤◌, Bool, true, false, cond, ◌||◌, List, [], ◌∷◌, length, map, Option, Some, None, is_some, IsTrue, refl, subst, ap, sym, ◌∙◌, slice_index_or, slice_get, insert, remove, option_map, arith}
use Rattle.beldi_row.{specs.Key.RowKey, specs.Key.key_cmp, specs.KeyOrder.key_total, specs.KeyOrder.key_exact, specs.Table.IsNext, specs.Table.NoneOpen, specs.Table.NoneOpenTo, specs.Table.is_open, specs.declared.row.Row.Row, proofs.TableRows.get_rows, proofs.Least.next_row_least}
use Rattle.beldi_region.specs.{Region.ViewedRegion, Region.find, Region.PutAt, Region.Changed, SlotOrder.pair_of, SlotOrder.pair_at, SlotOrder.pairs, SlotOrder.rows_in, SlotOrder.seat, SlotOrder.slot_of, SlotOrder.side, SlotOrder.IsPast, SlotOrder.IsGap, SlotOrder.IsOrdered, SlotOrder.IsHeld, SlotOrder.AreListed, SlotOrder.IsListed, SlotOrder.IsListedBut, SlotOrder.IsWithin, declared.region.SlotId.SlotId, declared.order.Entry.Entry}
use Rattle.beldi_region.proofs.{RegionLists.all_map, RegionLists.map_inserted, RegionLists.all_inserted, RegionLists.length_inserted, RegionLists.map_removed, RegionLists.all_removed, RegionLists.rising_inserted, RegionLists.rising_removed, RegionLists.lookup_inserted, RegionLists.lookup_removed, RegionLists.lookup_here, Held.nowhere, Held.same_or, Held.not_none, Held.some_same, Held.tied, Held.tied_self, Held.side_of, Held.some_of, Held.taken_all, Held.between, Held.absent_slot, Held.slot_tied, Held.by_slot, Held.keys_seats, Held.length_keys, Held.key_of, Held.next_is, Held.stays, Held.taken_kept, Held.key_kept}

-- ---- how many slots a list in order may have
-- whether a key stands in a list
abbrev stands : RowKey → List RowKey → Bool
stands k [] = false
stands k (y ∷ ys) = is_at (key_cmp k) y || stands k ys

or_parts : (b c : Bool) → (b || c) ≡ true → (b ≡ true) ⊎ ((b ≡ false) × (c ≡ true))
or_parts true c h = inl refl
or_parts false c h = inr (refl, h)

past_first : (y k : RowKey) (ys : List RowKey) → AllByRecursion (λ z. key_cmp y z ≡ Less) ys → stands k ys ≡ true → key_cmp y k ≡ Less
past_first y k [] a h = absurd (let none : false ≡ true = h in cc)
past_first y k (z ∷ zs) a h = elim (or_parts (is_at (key_cmp k) z) (stands k zs) h) [
  | inl e ↦ subst (λ q. key_cmp y q ≡ Less) (sym (tied k z e)) a.0
  | inr n ↦ past_first y k zs a.1 n.1
]

-- a key past the first one stands in the rest
in_rest : (y k : RowKey) (ys : List RowKey) → key_cmp y k ≡ Less → stands k (y ∷ ys) ≡ true → stands k ys ≡ true
in_rest y k ys less h = elim (or_parts (is_at (key_cmp k) y) (stands k ys) h) [
  | inl e ↦ absurd (let clash : Less ≡ Equal = sym less ∙ ap (key_cmp y) (tied k y e) ∙ tied_itself key_total y in cc)
  | inr n ↦ n.1
]

all_in_rest : (y : RowKey) (ys ks : List RowKey) → AllByRecursion (λ k. key_cmp y k ≡ Less) ks → AllByRecursion (λ k. stands k (y ∷ ys) ≡ true) ks → AllByRecursion (λ k. stands k ys ≡ true) ks
all_in_rest y ys [] a b = tt
all_in_rest y ys (k ∷ ks) a b = (in_rest y k ys a.0 b.0, all_in_rest y ys ks a.1 b.1)

fewer : (xs ys : List RowKey) → IsStrictlySortedBy key_cmp xs → IsStrictlySortedBy key_cmp ys → AllByRecursion (λ x. stands x ys ≡ true) xs → length xs ≤ length ys
fewer [] ys s t a = omega arith
fewer (x ∷ xs) [] s t a = absurd (let none : false ≡ true = a.0 in cc)
fewer (x ∷ xs) (y ∷ ys) s t a = elim (or_parts (is_at (key_cmp x) y) (stands x ys) a.0) [
  | inl e ↦
      let rest = fewer xs ys (sorted_tail key_cmp x xs s) (sorted_tail key_cmp y ys t) (all_in_rest y ys xs (subst (λ q. AllByRecursion (λ k. key_cmp q k ≡ Less) xs) (tied x y e) (sorted_head key_cmp x xs s)) a.1) in
      omega (arith, rest)
  | inr n ↦
      let first = past_first y x ys (sorted_head key_cmp y ys t) n.1 in
      let others = all_map {P = λ k. key_cmp x k ≡ Less} {Q = λ k. key_cmp y k ≡ Less} (λ k. key_total.trans y x k first) xs (sorted_head key_cmp x xs s) in
      let rest = fewer (x ∷ xs) ys s (sorted_tail key_cmp y ys t) (n.1, all_in_rest y ys xs others a.1) in
      omega (arith, rest)
]

module _ (r : ViewedRegion Entry) where
  slot_stands : (ids : List SlotId) (k : RowKey) (id : SlotId) → slot_of r ids k ≡ Some id → stands k (keys_of (pairs r ids)) ≡ true
  slot_stands [] k id h = absurd (not_none id h)
  slot_stands (i ∷ ids) k id h = (elim (is_at (key_cmp k) (pair_at r i).0) as (λ b. is_at (key_cmp k) (pair_at r i).0 ≡ b → (b || stands k (keys_of (pairs r ids))) ≡ true) [
    | true ↦ λ e. refl
    | false ↦ λ e. slot_stands ids k id (sym (ap (λ b. cond b (Some i) (slot_of r ids k)) e) ∙ h)
  ]) refl

  all_stand : (ids js : List SlotId) → IsHeld r ids → AllByRecursion (λ j. IsTrue (is_some (find r j))) js → AllByRecursion (λ k. stands k (keys_of (pairs r ids)) ≡ true) (keys_of (pairs r js))
  all_stand ids [] h a = tt
  all_stand ids (j ∷ js) h a =
      let x = some_of (find r j) a.0 in
      (subst (λ e. stands (pair_of e).0 (keys_of (pairs r ids)) ≡ true) (sym x.1) (slot_stands ids x.0.key j (h.seated j x.0 x.1)), all_stand ids js h a.1)

  -- of the slots that are taken, no more can be listed than there are rows, and each has a key of its own
  pub within : (ids : List SlotId) (most : ℕ) → IsHeld r ids → r.room ≤ most → IsWithin r most
  within ids most h room =
      record {
        few = λ js o.
            let few = fewer (keys_of (pairs r js)) (keys_of (pairs r ids)) o.rising h.ordered.rising (all_stand ids js h (taken_all r js o)) in
            let mine = length_keys r js in
            let all = length_keys r ids in
            let count = h.count in
            omega (arith, few, mine, all, count, room);
        alone = λ a b x y p q same. some_same a b (sym (h.seated a x p) ∙ ap (slot_of r ids) same ∙ h.seated b y q);
      }

-- ---- a row is changed or put: the slots that were listed are so in order
module _ (r s : ViewedRegion Entry) where
  abbrev pub Stays : SlotId → Type 0
  Stays j = IsTrue (is_some (find s j)) × ((pair_at s j).0 ≡ (pair_at r j).0)

  keys_same : (js : List SlotId) → AllByRecursion Stays js → keys_of (pairs s js) ≡ keys_of (pairs r js)
  keys_same [] a = refl
  keys_same (j ∷ js) a = λ i. a.0.1 i ∷ keys_same js a.1 i

  slots_same : (js : List SlotId) (q : RowKey) → AllByRecursion Stays js → slot_of s js q ≡ slot_of r js q
  slots_same [] q a = refl
  slots_same (j ∷ js) q a = λ i. cond (is_at (key_cmp q) (a.0.1 i)) (Some j) (slots_same js q a.1 i)

  pub listed_still : {meant may : SlotId → Type 0} (js : List SlotId) → ((j : SlotId) → IsTrue (is_some (find r j)) → Stays j) → AreListed meant r js
      → ((j : SlotId) (e : Entry) → may j → find s j ≡ Some e → is_open e.key.kind e.row ≡ true → meant j × ((x : Entry) × (find r j ≡ Some x) × (x.key ≡ e.key) × (is_open x.key.kind x.row ≡ true))) → AreListed may s js
  listed_still {meant} {may} js stays l was =
      let all = all_map {P = λ j. IsTrue (is_some (find r j))} {Q = Stays} stays js (taken_all r js l.ordered) in
      record {
        ordered = record {
          taken = All-from_recursion (λ j. IsTrue (is_some (find s j))) js (all_map {P = Stays} {Q = λ j. IsTrue (is_some (find s j))} (λ j t. t.0) js all);
          rising = subst (IsStrictlySortedBy key_cmp) (sym (keys_same js all)) l.ordered.rising;
        };
        listed = λ j e m at o.
            let w = was j e m at o in
            slots_same js e.key all ∙ ap (slot_of r js) (sym w.1.2) ∙ l.listed j w.1.0 w.0 w.1.1 w.1.3;
      }

-- a row was put
pub listed_put : (r s : ViewedRegion Entry) (ids js : List SlotId) (id : SlotId) (x : Entry) (p : ℕ) (h : IsHeld r ids) (put : PutAt r s id x) (g : IsGap r ids x.key p) → IsListed r js → IsListedBut id s js
listed_put r s ids js id x p h put g l =
    listed_still r s js
    (λ j t. let same = stays r s ids id x p h put g j t in (ap is_some same ∙ t, ap (λ e. (pair_of e).0) same))
    l
    (λ j e n at live. (tt, (e, sym (put.frame.others j n) ∙ at, refl, live)))

-- a row was changed
module _ (r s : ViewedRegion Entry) (ids js : List SlotId) (id : SlotId) (x y : Entry) (h : IsHeld r ids) (was : find r id ≡ Some x) (c : Changed r s id y) (same : y.key ≡ x.key) (l : IsListed r js) where
  there : (j : SlotId) → IsTrue (is_some (find r j)) → Stays r s j
  there j t = (taken_kept r s ids id x y h was c same j ∙ t, key_kept r s ids id x y h was c same j)

  pub listed_changed : IsListedBut id s js
  listed_changed = listed_still r s js there l (λ j e n at live. (tt, (e, sym (c.frame.others j n) ∙ at, refl, live)))

  -- .. and is as open as it was
  pub listed_unchanged : is_open x.key.kind y.row ≡ is_open x.key.kind x.row → IsListed s js
  listed_unchanged alike = listed_still r s js there l (λ j e m at live. elim (same_or j id) [
    | inl g ↦
        let is : y ≡ e = some_same y e (sym c.found ∙ ap (find s) (sym g) ∙ at) in
        let key : x.key ≡ e.key = sym same ∙ ap (λ z. z.key) is in
        let shows : is_open x.key.kind y.row ≡ true = ap (λ k. is_open k.kind y.row) key ∙ ap (λ z. is_open e.key.kind z.row) is ∙ live in
        (tt, (x, ap (find r) g ∙ was, key, sym alike ∙ shows))
    | inr n ↦ (tt, (e, sym (c.frame.others j n) ∙ at, refl, live))
  ])

-- ---- a slot is listed, or is not
module _ (r : ViewedRegion Entry) (js : List SlotId) (id : SlotId) (x : Entry) (at : find r id ≡ Some x) (l : IsListedBut id r js) where
  others_or : (ks : List SlotId) → ((j : SlotId) (e : Entry) → j ≢ id → find r j ≡ Some e → slot_of r ks e.key ≡ slot_of r js e.key) → IsOrdered r ks → (is_open x.key.kind x.row ≡ true → slot_of r ks x.key ≡ Some id) → IsListed r ks
  others_or ks same o own =
      record {
        ordered = o;
        listed = λ j e m found live. elim (same_or j id) [
          | inl g ↦
              let is : x ≡ e = some_same x e (sym at ∙ ap (find r) (sym g) ∙ found) in
              subst (λ z. slot_of r ks z.key ≡ Some j) is (own (subst (λ z. is_open z.key.kind z.row ≡ true) (sym is) live) ∙ ap (λ i. Some i) (sym g))
          | inr n ↦ same j e n found ∙ l.listed j e n found live
        ];
      }

  key_apart : {most : ℕ} → IsWithin r most → (j : SlotId) (e : Entry) → j ≢ id → find r j ≡ Some e → is_at (key_cmp e.key) x.key ≡ false
  key_apart w j e n found = (elim (is_at (key_cmp e.key) x.key) as (λ b. is_at (key_cmp e.key) x.key ≡ b → b ≡ false) [
    | true ↦ λ t. absurd (n (w.alone j id e x found at (tied e.key x.key t)))
    | false ↦ λ t. refl
  ]) refl

  -- it is closed, so it need not be listed
  pub listed_closed : is_open x.key.kind x.row ≡ false → IsListed r js
  listed_closed closed = others_or js (λ j e n found. refl) l.ordered (λ live. let clash : false ≡ true = sym closed ∙ live in cc)

  -- it is listed
  pub listed_there : {most : ℕ} → IsWithin r most → (p : ℕ) → p < length js → side x.key (find r (slice_index_or js p nowhere)) ≡ Equal → IsListed r js
  listed_there w p less tie = others_or js (λ j e n found. refl) l.ordered (λ live. found_at)
    where
      here : SlotId
      here = slice_index_or js p nowhere

      key : x.key ≡ (pair_at r here).0
      key = key_exact x.key (pair_at r here).0 (sym (side_of x.key (find r here) (l.ordered.taken p nowhere less)) ∙ tie)

      found_at : slot_of r js x.key ≡ Some id
      found_at =
          let long : length (map (seat r) js) ≡ length js = length_seats js in
          let viewed = lookup_here key_total p (map (seat r) js) (seat r nowhere) (subst (IsStrictlySortedBy key_cmp) (sym (keys_seats r js)) l.ordered.rising) (omega (arith, less, long)) in
          let is : slice_index_or (map (seat r) js) p (seat r nowhere) ≡ seat r here = get_or-map (seat r) js p nowhere (seat r nowhere) less in
          let y = some_of (find r here) (l.ordered.taken p nowhere less) in
          let one : here ≡ id = w.alone here id y.0 x y.1 at (sym (ap (λ e. (pair_of e).0) y.1) ∙ sym key) in
          ap (slot_of r js) key ∙ sym (ap (λ z. slot_of r js z.0) is) ∙ viewed ∙ ap (λ z. Some z.1) is ∙ ap (λ i. Some i) one
        where
          length_seats : (ks : List SlotId) → length (map (seat r) ks) ≡ length ks
          length_seats [] = refl
          length_seats (k ∷ ks) = let h = length_seats ks in omega (arith, h)

  -- it is put where it is to stand
  module _ (p : ℕ) (g : IsGap r js x.key p) where
    slot_more : (q : RowKey) → slot_of r (insert js p id) q ≡ cond (is_at (key_cmp q) x.key) (Some id) (slot_of r js q)
    slot_more q =
        ap (lookup (is_at (key_cmp q))) (map_inserted (seat r) p id js ∙ ap (λ e. insert (map (seat r) js) p ((pair_of e).0, id)) at)
        ∙ lookup_inserted key_total q (x.key, id) p (map (seat r) js) (absent_slot r js x.key p l.ordered g)

    ordered_more : IsOrdered r (insert js p id)
    ordered_more =
        record {
          taken = All-from_recursion (λ j. IsTrue (is_some (find r j))) (insert js p id) (all_inserted (λ j. IsTrue (is_some (find r j))) p id js (ap is_some at) (taken_all r js l.ordered));
          rising = subst (IsStrictlySortedBy key_cmp) (sym (keys_more js)) (rising_inserted key_total x.key p (keys_of (pairs r js)) l.ordered.rising (between r js x.key p l.ordered g));
        }
      where
        keys_more : (ks : List SlotId) → keys_of (pairs r (insert ks p id)) ≡ insert (keys_of (pairs r ks)) p x.key
        keys_more ks =
            ap keys_of (map_inserted (pair_at r) p id ks ∙ ap (λ e. insert (pairs r ks) p (pair_of e)) at)
            ∙ map_inserted (λ (e : RowKey × Row). e.0) p (x.key, x.row) (pairs r ks)

    pub room_for : {most : ℕ} → IsWithin r most → length js < most
    room_for w = let few = w.few (insert js p id) ordered_more in let long = length_inserted p id js in omega (arith, few, long)

    pub listed_more : {most : ℕ} → IsWithin r most → IsListed r (insert js p id)
    listed_more w =
        others_or (insert js p id)
        (λ j e n found. slot_more e.key ∙ ap (λ b. cond b (Some id) (slot_of r js e.key)) (key_apart w j e n found))
        ordered_more
        (λ live. slot_more x.key ∙ ap (λ b. cond b (Some id) (slot_of r js x.key)) (tied_self x.key))

  -- it is taken away, as it is closed
  pub listed_less : {most : ℕ} → IsWithin r most → (p : ℕ) → p < length js → side x.key (find r (slice_index_or js p nowhere)) ≡ Equal → is_open x.key.kind x.row ≡ false → IsListed r (remove js p)
  listed_less w p less tie closed =
      others_or (remove js p)
      (λ j e n found.
      ap (lookup (is_at (key_cmp e.key))) (map_removed (seat r) p js)
      ∙ lookup_removed key_total e.key p (map (seat r) js) (λ d l'. ap (is_at (key_cmp e.key)) (key_there d) ∙ key_apart w j e n found))
      (record {
        taken = All-from_recursion (λ j. IsTrue (is_some (find r j))) (remove js p) (all_removed (λ j. IsTrue (is_some (find r j))) p js (taken_all r js l.ordered));
        rising = subst (IsStrictlySortedBy key_cmp) (sym (ap keys_of (map_removed (pair_at r) p js) ∙ map_removed (λ (e : RowKey × Row). e.0) p (pairs r js))) (rising_removed key_total p (keys_of (pairs r js)) l.ordered.rising);
      })
      (λ live. let clash : false ≡ true = sym closed ∙ live in cc)
    where
      here : SlotId
      here = slice_index_or js p nowhere

      key_there : (d : RowKey) → slice_index_or (keys_of (map (seat r) js)) p d ≡ x.key
      key_there d =
          ap (λ ks. slice_index_or ks p d) (keys_seats r js)
          ∙ key_of r js p d less
          ∙ sym (key_exact x.key (pair_at r here).0 (sym (side_of x.key (find r here) (l.ordered.taken p nowhere less)) ∙ tie))

-- ---- what is told of open intents
module _ (r : ViewedRegion Entry) (ids js : List SlotId) (h : IsHeld r ids) (l : IsListed r js) where
  -- the row of an open intent is one of the listed
  open_row : (q : RowKey) (w : Row) → fin.get (rows_in r ids) q ≡ Some w → is_open q.kind w ≡ true → fin.get (rows_in r js) q ≡ Some w
  open_row q w got live = by_found (slot_of r ids q) refl
    where
      viewed : option_map (λ i. (pair_at r i).1) (slot_of r ids q) ≡ Some w
      viewed = sym (by_slot r ids q) ∙ sym (get_rows key_total key_exact (pairs r ids) q) ∙ got

      by_found : (o : Option SlotId) → slot_of r ids q ≡ o → fin.get (rows_in r js) q ≡ Some w
      by_found None e = absurd (not_none w (sym (ap (option_map (λ i. (pair_at r i).1)) e) ∙ viewed))
      by_found (Some i) e =
          let key : q ≡ (pair_at r i).0 = tied q (pair_at r i).0 (slot_tied r ids q i e) in
          let row : (pair_at r i).1 ≡ w = some_same _ w (sym (ap (option_map (λ j. (pair_at r j).1)) e) ∙ viewed) in
          let x = some_of (find r i) (slot_taken ids q i h e) in
          let own : q ≡ x.0.key = key ∙ ap (λ z. (pair_of z).0) x.1 in
          let is : x.0.row ≡ w = sym (ap (λ z. (pair_of z).1) x.1) ∙ row in
          let mine = l.listed i x.0 tt x.1 (subst (λ z. is_open z.kind x.0.row ≡ true) own (subst (λ z. is_open q.kind z ≡ true) (sym is) live)) in
          get_rows key_total key_exact (pairs r js) q ∙ by_slot r js q ∙ ap (option_map (λ j. (pair_at r j).1)) (ap (slot_of r js) own ∙ mine) ∙ ap (λ z. Some z) row
        where
          slot_taken : (ks : List SlotId) (k : RowKey) (j : SlotId) → IsHeld r ks → slot_of r ks k ≡ Some j → IsTrue (is_some (find r j))
          slot_taken ks k j held at = among ks (taken_all r ks held.ordered) at
            where
              among : (ms : List SlotId) → AllByRecursion (λ m. IsTrue (is_some (find r m))) ms → slot_of r ms k ≡ Some j → IsTrue (is_some (find r j))
              among [] a none = absurd (not_none j none)
              among (m ∷ ms) a found = (elim (is_at (key_cmp k) (pair_at r m).0) as (λ b. cond b (Some m) (slot_of r ms k) ≡ Some j → IsTrue (is_some (find r j))) [
                | true ↦ λ e. subst (λ z. IsTrue (is_some (find r z))) (some_same m j e) a.0
                | false ↦ λ e. among ms a.1 e
              ]) found

  none_between : (k q : RowKey) (w : Row) → fin.get (rows_in r ids) q ≡ Some w → fin.get (rows_in r js) q ≡ None → is_open q.kind w ≡ false
  none_between k q w got none = (elim (is_open q.kind w) as (λ b. is_open q.kind w ≡ b → b ≡ false) [
    | true ↦ λ live. absurd (not_none w (sym none ∙ open_row q w got live))
    | false ↦ λ live. refl
  ]) refl

  -- there is none past a key
  pub none_open : (k : RowKey) (p : ℕ) → IsPast r js k p → slice_get js p ≡ None → NoneOpen (rows_in r ids) k
  none_open k p past end =
      let least = subst (IsNext (rows_in r js) k) (next_is r js k p l.ordered past ∙ ap (option_map (pair_at r)) end) (next_row_least (rows_in r js) k) in
      λ q w less got. none_between k q w got (least q less)

  -- .. or none before this one
  pub none_open_to : (k : RowKey) (p : ℕ) (i : SlotId) → IsPast r js k p → slice_get js p ≡ Some i → NoneOpenTo (rows_in r ids) k (pair_at r i).0
  none_open_to k p i past here =
      let least = subst (IsNext (rows_in r js) k) (next_is r js k p l.ordered past ∙ ap (option_map (pair_at r)) here) (next_row_least (rows_in r js) k) in
      λ q w less before got. none_between k q w got (least.2 q less before)

-- where there are no slots none is listed
pub listed_none : (r : ViewedRegion Entry) → ((id : SlotId) → find r id ≡ None) → IsListed r []
unfolding IsStrictlySortedBy
listed_none r none =
    record {
      ordered = record { taken = λ j d l. absurd (omega (arith, l)); rising = tt };
      listed = λ id e m at live. absurd (not_none e (sym (none id) ∙ at));
    }
