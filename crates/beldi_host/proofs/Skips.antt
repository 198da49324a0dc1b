-- Rows that have no line are skipped.
use Rattle.beldi_host.proofs.Names.{Bool, Data, Deployment, Equal, Greater, Intent, Invoke, Kind, Less, List, Lockset, Ordering, Past, ReadLog, Row, RowKey, Rows, Shadow, T, [], ap, arith, below_all, false, first, flat_map, ge_from_not_lt, if◌then◌else◌, is_le, is_lt, is_sorted, key_cmp, key_exact, key_total, kind_cmp, last_rank, le_from_is_le, less, line_at, nat_cmp, nat_cmp_total, ordering_reverse, ordering_then, rank_of, refl, rest, row_line, second, subst, sym, test_true, tied_itself, true, ℕ, ◌&&◌, ◌++◌, ◌∙◌, ◌∷◌, ◌≡◌, ◌≤◌}
use Rattle.beldi_host.proofs.HostSteps.{Listed}
use Rattle.beldi_host.proofs.Names.map

bare : (d : Deployment) (m : Rows) (home : ℕ) (kind : Kind) (r : Row) → (rank_of kind ≡ 3 → ⊥) → line_at d m home kind r ≡ []
bare d m home (Intent a) r h = refl
bare d m home (ReadLog p) r h = refl
bare d m home (Invoke p) r h = refl
bare d m home (Data t k n) r h = absurd (h refl)
bare d m home (Shadow x t k n) r h = refl
bare d m home (Lockset a b t k) r h = refl

-- what is not past the first key is not past the second, which is not before it
not_past : (k j e : RowKey) → is_lt (key_cmp j k) ≡ false → is_lt (key_cmp k e) ≡ false → is_lt (key_cmp j e) ≡ false
not_past k j e before past = by_order (key_cmp k e) refl
  where
    clash : (o : Ordering) → o ≡ Less → is_lt o ≡ false → ⊥
    clash o is h = let same : true ≡ false = ap is_lt (sym is) ∙ h in cc

    by_test : (b : Bool) → is_lt (key_cmp j e) ≡ b → (key_cmp j e ≡ Less → ⊥) → b ≡ false
    by_test true is h = absurd (h (less (key_cmp j e) is))
    by_test false is h = refl

    by_order : (o : Ordering) → key_cmp k e ≡ o → is_lt (key_cmp j e) ≡ false
    by_order Less is = absurd (clash (key_cmp k e) is past)
    by_order Equal is = subst (λ (q : RowKey). is_lt (key_cmp j q) ≡ false) (key_exact k e is) before
    by_order Greater is = by_test (is_lt (key_cmp j e)) refl (λ h. clash (key_cmp j k) (key_total.trans j e k h (key_total.antisymm e k ∙ ap ordering_reverse is)) before)

both : (a b : Bool) → a ≡ true → T b → T (a && b)
both true b is h = h
both false b is h = cc

below_more : (k x : RowKey) (es : List (RowKey × Row)) → key_cmp k x ≡ Less → T (below_all key_cmp x es) → T (below_all key_cmp k es)
below_more k x [] h below = tt
below_more k x (e ∷ es) h below = both _ _ (ap is_lt (key_total.trans k x e.0 h (less _ (test_true _ (first _ _ below))))) (below_more k x es h (second _ _ below))

module _ (d : Deployment) (m : Rows) (k j : RowKey) (h : Past k j) where
  from_here : (es : List (RowKey × Row)) → T (below_all key_cmp k es) → flat_map (row_line d m) (rest j es) ≡ flat_map (row_line d m) es
  from_here [] below = refl
  from_here (e ∷ es) below = (elim (is_lt (key_cmp j e.0)) as (λ b. is_lt (key_cmp j e.0) ≡ b → flat_map (row_line d m) (if b then e ∷ es else rest j es) ≡ flat_map (row_line d m) (e ∷ es)) [
    | true ↦ λ t. refl
    | false ↦ λ t. from_here es (second _ _ below) ∙ ap (λ s. s ++ flat_map (row_line d m) es) (sym (bare d m e.0.home e.0.kind e.1 (h.no_item e.0 (test_true _ (first _ _ below)) t)))
  ]) refl

  passed : (es : List (RowKey × Row)) → T (is_sorted key_cmp es) → flat_map (row_line d m) (rest j es) ≡ flat_map (row_line d m) (rest k es)
  passed [] s = refl
  passed (e ∷ es) s = (elim (is_lt (key_cmp k e.0)) as (λ b. is_lt (key_cmp k e.0) ≡ b → flat_map (row_line d m) (rest j (e ∷ es)) ≡ flat_map (row_line d m) (if b then e ∷ es else rest k es)) [
    | true ↦ λ t. from_here (e ∷ es) (both _ _ t (below_more k e.0 es (less _ t) (first _ _ s)))
    | false ↦ λ t. ap (λ b. flat_map (row_line d m) (if b then e ∷ es else rest j es)) (not_past k j e.0 h.not_before t) ∙ passed es (second _ _ s)
  ]) refl

-- reading goes on from the later key
pub listed_past : (d : Deployment) (text : List ℕ) (k j : RowKey) (m : Rows) → Past k j → Listed d text k m → Listed d text j m
listed_past d text k j m past h = ap (λ s. text ++ s) (passed d m k j past (map.entries m) (map.entries_sorted m)) ∙ h

-- ---- between two keys of a home
at_most : (a b : ℕ) (p : Ordering) → is_lt (ordering_then (nat_cmp a b) p) ≡ true → a ≤ b
at_most a b p h = le_from_is_le a b (by_order (nat_cmp a b) h)
  where
    by_order : (o : Ordering) → is_lt (ordering_then o p) ≡ true → is_le o ≡ true
    by_order Less h = refl
    by_order Equal h = refl
    by_order Greater h = cc

at_least : (a b : ℕ) (p : Ordering) → is_lt (ordering_then (nat_cmp a b) p) ≡ false → b ≤ a
at_least a b p h = ge_from_not_lt a b (by_order (nat_cmp a b) h)
  where
    by_order : (o : Ordering) → is_lt (ordering_then o p) ≡ false → is_lt o ≡ false
    by_order Less h = cc
    by_order Equal h = refl
    by_order Greater h = refl

same_home : (a b : ℕ) (p : Ordering) → a ≡ b → ordering_then (nat_cmp a b) p ≡ p
same_home a b p same = ap (λ n. ordering_then (nat_cmp a n) p) (sym same) ∙ ap (λ o. ordering_then o p) (tied_itself nat_cmp_total a)

pub between : (k e : RowKey) (last : Kind) → is_lt (key_cmp k e) ≡ true → is_lt (key_cmp (record { home = k.home; kind = last }) e) ≡ false → (rank_of k.kind ≤ rank_of e.kind) × (rank_of e.kind ≤ rank_of last)
between k e last past before =
    let same : k.home ≡ e.home = omega (arith, at_most k.home e.home (kind_cmp k.kind e.kind) past, at_least k.home e.home (kind_cmp last e.kind) before) in (
      at_most (rank_of k.kind) (rank_of e.kind) _ (ap is_lt (sym (same_home k.home e.home (kind_cmp k.kind e.kind) same)) ∙ past),
      at_least (rank_of last) (rank_of e.kind) _ (ap is_lt (sym (same_home k.home e.home (kind_cmp last e.kind) same)) ∙ before),
    )

not_item : (k : Kind) (n : ℕ) → rank_of k ≤ n → n ≤ last_rank k → n ≡ 3 → ⊥
not_item (Intent a) n h l is = omega (arith, l, is)
not_item (ReadLog p) n h l is = omega (arith, l, is)
not_item (Invoke p) n h l is = omega (arith, l, is)
not_item (Data t k r) n h l is = omega (arith, h, l)
not_item (Shadow x t k r) n h l is = omega (arith, h, is)
not_item (Lockset a b t k) n h l is = omega (arith, h, is)

pub past_itself : (k : RowKey) → Past k k
past_itself k = record {
  not_before = ap is_lt (tied_itself key_total k);
  no_item = λ e past before item. let clash : true ≡ false = sym past ∙ before in cc;
}

pub past_last : (k : RowKey) (last : Kind) → rank_of last ≡ last_rank k.kind → is_lt (key_cmp (record { home = k.home; kind = last }) k) ≡ false → Past k (record { home = k.home; kind = last })
past_last k last is h = record {
  not_before = h;
  no_item = λ e past before item. let ranks = between k e last past before in not_item k.kind (rank_of e.kind) ranks.0 (subst (λ (n : ℕ). rank_of e.kind ≤ n) is ranks.1) item;
}
