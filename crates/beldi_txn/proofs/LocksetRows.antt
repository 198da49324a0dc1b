-- The rows of the locks that an intent asked for in a transaction, in the order of their items.
use Rattle.beldi_txn.proofs.Names.{Greater, IntentId, IsFirstFrom, IsNext, Kind, Less, List, None, Option, Ordering, Row, RowKey, Rows, Some, [], ap, between, by_parts, eq-eqb, eqb-true, false, id_cmp, id_eq, id_exact, id_same, id_self, id_total, if◌then◌else◌, irreflexive, is_some, item_after, item_of, items, key_cmp, key_exact, key_total, lockset_key, nat_cmp, nat_cmp_total, no_item, ordering_reverse, ordering_then, parts, refl, rest, sym, tied_itself, true, ℕ, ◌&&◌, ◌==◌, ◌∙◌, ◌≡◌}
use Rattle.beldi_txn.proofs.InvokedInside.{by_order, both}
use Rattle.beldi_txn.proofs.Names.map

abbrev pub Item : Type 0
Item = ℕ × List ℕ

-- ---- rows of one transaction's locks
abbrev or_else : Item → Option Item → Item
or_else i None = i
or_else i (Some j) = j

abbrev pub item_at : Kind → Item
item_at (Kind.Lockset i b t k) = (t, k)
item_at k = (0, [])

module _ (home : ℕ) (id : IntentId) (begin : ℕ) where
  abbrev ls : Item → RowKey
  ls i = lockset_key home id begin i.0 i.1

  -- the item of such a row is told ..
  item_is : (i : Item) → item_of home id begin (ls i) (ls i).kind ≡ Some i
  item_is i =
      ap (λ b. if (b && (begin == begin)) && (home == home) then Some i else None) (id_self id)
      ∙ ap (λ b. if b && (home == home) then Some i else None) (eq-eqb begin begin refl)
      ∙ ap (λ b. if b then Some i else None) (eq-eqb home home refl)

  -- .. and only of such a row
  pub is_item : (room : ℕ) (kind : Kind) (j : Item) → item_of home id begin (record { home = room; kind = kind }) kind ≡ Some j → record { home = room; kind = kind } ≡ ls j
  is_item room (Kind.Lockset i b t k) j h = (elim ((id_eq i id && (b == begin)) && (room == home)) as (λ z. ((id_eq i id && (b == begin)) && (room == home)) ≡ z
      → (if z then Some (t, k) else None) ≡ Some j → lockset_key room i b t k ≡ ls j) [
        | true ↦ λ e g.
            let p = both (id_eq i id && (b == begin)) (room == home) e in
            let q = both (id_eq i id) (b == begin) p.0 in
            (λ z. lockset_key (eqb-true room home p.1 z) (id_same i id q.0 z) (eqb-true b begin q.1 z) t k) ∙ ap ls (ap (or_else (t, k)) g)
        | false ↦ λ e g. cc
      ]) refl h
  is_item room kind j h = cc

  -- what stands between two of them is one
  within : (a q : Item) (room : ℕ) (kind : Kind) → key_cmp (ls a) (record { home = room; kind = kind }) ≡ Less → key_cmp (record { home = room; kind = kind }) (ls q) ≡ Less
      → (j : Item) × (record { home = room; kind = kind } ≡ ls j)
  within a q room (Kind.Lockset i b t k) h g =
      between home room home (ordering_then (id_cmp id i) (rest begin b a.0 t a.1 k)) (ordering_then (id_cmp i id) (rest b begin t q.0 k q.1)) (irreflexive home)
      (sym (by_parts home room id i begin b a.0 t a.1 k) ∙ h) (sym (by_parts room home i id b begin t q.0 k q.1) ∙ g) ((j : Item) × (lockset_key room i b t k ≡ ls j))
      (λ e f r s. parts (id_cmp id i) (rest begin b a.0 t a.1 k) r ((j : Item) × (lockset_key room i b t k ≡ ls j))
      (λ l. let clash = sym (ap (λ o. ordering_then o (rest b begin t q.0 k q.1)) (id_total.antisymm i id ∙ ap ordering_reverse l)) ∙ s in cc)
      (λ l z. between begin b begin (items a.0 t a.1 k) (items t q.0 k q.1) (irreflexive begin) z
      (sym (ap (λ o. ordering_then o (rest b begin t q.0 k q.1)) (id_total.antisymm i id ∙ ap ordering_reverse l)) ∙ s) ((j : Item) × (lockset_key room i b t k ≡ ls j))
      (λ x y u v. let same = sym (id_exact id i l) in ((t, k), λ z. lockset_key (f z) (same z) (y z) t k))))
  within a q room kind h g = other room _ h g
    where
      other : (room : ℕ) (s : Ordering) → ordering_then (nat_cmp home room) Greater ≡ Less → ordering_then (nat_cmp room home) s ≡ Less → (j : Item) × (record { home = room; kind = kind } ≡ ls j)
      other room s h g = between home room home Greater s (irreflexive home) h g ((j : Item) × (record { home = room; kind = kind } ≡ ls j)) (λ e f r z. let clash : Greater ≡ Less = r in cc)

-- the row of an item that is told is there
pub item_told : (home : ℕ) (id : IntentId) (begin : ℕ) (m : Rows) (k : RowKey) (j : Item) (e : Option (RowKey × Row)) → IsNext m k e → item_after home id begin e ≡ Some j → is_some (map.get m (lockset_key home id begin j.0 j.1)) ≡ true
item_told home id begin m k j None next is = cc
item_told home id begin m k j (Some e) next is = ap (λ z. is_some (map.get m z)) (sym (is_item home id begin e.0.home e.0.kind j is)) ∙ ap is_some next.1

-- what the next row says of all rows of the transaction's locks
module _ (home : ℕ) (id : IntentId) (begin : ℕ) (m : Rows) where
  abbrev lr : Item → RowKey
  lr i = ls home id begin i

  -- none is below the least key
  above : (q : Item) → key_cmp (lr q) (lockset_key home id begin 0 []) ≡ Less → ⊥
  above q h = no_item q.0 q.1
      (sym (by_parts home home id id begin begin q.0 0 q.1 []
      ∙ ap (λ o. ordering_then o (ordering_then (id_cmp id id) (rest begin begin q.0 0 q.1 []))) (tied_itself nat_cmp_total home)
      ∙ ap (λ o. ordering_then o (rest begin begin q.0 0 q.1 [])) (tied_itself id_total id)
      ∙ ap (λ o. ordering_then o (items q.0 0 q.1 [])) (tied_itself nat_cmp_total begin)) ∙ h)

  -- a row that is told and is none of them is past them all
  no_more : (e : RowKey × Row) → item_of home id begin e.0 e.0.kind ≡ None → (j : Item) → e.0 ≡ lr j → ⊥
  no_more e none j is = let clash = sym (item_is home id begin j) ∙ sym (ap (λ (z : RowKey). item_of home id begin z z.kind) is) ∙ none in cc

  pub none_past : (c q : Item) (r : Row) (e : Option (RowKey × Row)) → IsNext m (lr c) e → item_after home id begin e ≡ None → map.get m (lr q) ≡ Some r → key_cmp (lr c) (lr q) ≡ Less → ⊥
  none_past c q r None next none here less = let clash = sym here ∙ next (lr q) less in cc
  none_past c q r (Some e) next none here less = by_order (key_cmp e.0 (lr q)) ⊥
      (λ l. let j = within home id begin c q e.0.home e.0.kind next.0 l in no_more e none j.0 j.1)
      (λ l. no_more e none q (key_exact e.0 (lr q) l))
      (λ l. let clash = sym here ∙ next.2 (lr q) less (key_total.antisymm (lr q) e.0 ∙ ap ordering_reverse l) in cc)

  pub none_first : (q : Item) (r : Row) (e : Option (RowKey × Row)) → IsFirstFrom m (lockset_key home id begin 0 []) e → item_after home id begin e ≡ None → map.get m (lr q) ≡ Some r → ⊥
  none_first q r None next none here = let clash = sym here ∙ next (lr q) (above q) in cc
  none_first q r (Some e) next none here = by_order (key_cmp e.0 (lockset_key home id begin 0 [])) ⊥
      (λ l. next.0 l)
      (λ l. no_more e none (0, []) (key_exact e.0 (lockset_key home id begin 0 []) l))
      (λ g. by_order (key_cmp e.0 (lr q)) ⊥
      (λ l. let j = within home id begin (0, []) q e.0.home e.0.kind (key_total.antisymm (lockset_key home id begin 0 []) e.0 ∙ ap ordering_reverse g) l in no_more e none j.0 j.1)
      (λ l. no_more e none q (key_exact e.0 (lr q) l))
      (λ l. let clash = sym here ∙ next.2 (lr q) (above q) (key_total.antisymm (lr q) e.0 ∙ ap ordering_reverse l) in cc))

  -- none stands between the item before and the one that is told
  pub none_between : (c j q : Item) (r : Row) (e : Option (RowKey × Row)) → IsNext m (lr c) e → item_after home id begin e ≡ Some j → map.get m (lr q) ≡ Some r → key_cmp (lr q) (lr j) ≡ Less → key_cmp (lr c) (lr q) ≡ Less → ⊥
  none_between c j q r None next is here below less = cc
  none_between c j q r (Some e) next is here below less =
      let clash = sym here ∙ next.2 (lr q) less (ap (key_cmp (lr q)) (is_item home id begin e.0.home e.0.kind j is) ∙ below) in cc

  pub none_before : (j q : Item) (r : Row) (e : Option (RowKey × Row)) → IsFirstFrom m (lockset_key home id begin 0 []) e → item_after home id begin e ≡ Some j → map.get m (lr q) ≡ Some r → key_cmp (lr q) (lr j) ≡ Less → ⊥
  none_before j q r None next is here below = cc
  none_before j q r (Some e) next is here below =
      let clash = sym here ∙ next.2 (lr q) (above q) (ap (key_cmp (lr q)) (is_item home id begin e.0.home e.0.kind j is) ∙ below) in cc
