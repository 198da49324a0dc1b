-- Where a key lies of the row after a cursor, and what is so of rows up to that.
use Rattle.std.specs.Ordering.{is_eq, ordering_reverse}
use Rattle.std.specs.FinMap as map
use Rattle.std.proofs.lemmas.Option.{none-some}
use Rattle.std.proofs.Common.{◌≡◌, ◌⊎◌, inl, inr, Bool, true, false, cond, None, Some, Ordering, Less, Equal, Greater, refl, ap, sym, ◌∙◌, subst}
use Rattle.beldi_row.specs.{Key.RowKey, Key.key_cmp, KeyOrder.key_exact, KeyOrder.key_total, Table.IsNext, Table.Rows, Table.next_row, Table.set_row, declared.row.Row.Row}
use Rattle.beldi_row.proofs.{Gets.got, Gets.key_self, Least.next_row_least}

-- what is so of each row, up to a key
abbrev pub UpTo : (RowKey → Row → Type 0) → RowKey → Rows → Type 0
UpTo P c m = (q : RowKey) (r : Row) → map.get m q ≡ Some r → (key_cmp c q ≡ Less) ⊎ P q r

turned_round : (k q : RowKey) → key_cmp k q ≡ Greater → key_cmp q k ≡ Less
turned_round k q h = key_total.antisymm q k ∙ ap ordering_reverse h

-- a row that goes is there no more, and none comes
module _ (m : Rows) (k : RowKey) where
  gone_by : (q : RowKey) (r : Row) (b : Bool) → cond b None (map.get m q) ≡ Some r → (b ≡ false) × (map.get m q ≡ Some r)
  gone_by q r true h = cc
  gone_by q r false h = (refl, h)

  pub gone_less : (q : RowKey) (r : Row) → map.get (set_row m k None) q ≡ Some r → map.get m q ≡ Some r
  gone_less q r h = (gone_by q r (is_eq (key_cmp q k)) (sym (got m k q None) ∙ h)).1

  pub gone_here : (r : Row) → map.get (set_row m k None) k ≡ Some r → ⊥
  gone_here r h = let off = (gone_by k r (is_eq (key_cmp k k)) (sym (got m k k None) ∙ h)).0 in let both : true ≡ false = sym (key_self k) ∙ off in cc

module _ (c : RowKey) (m : Rows) (e : RowKey × Row) (next : next_row m c ≡ Some e) where
  is_next : IsNext m c (Some e)
  is_next = subst (λ o. IsNext m c o) next (next_row_least m c)

  pub past_cursor : key_cmp c e.0 ≡ Less
  past_cursor = is_next.0

  pub there : map.get m e.0 ≡ Some e.1
  there = is_next.1

  pub none_between : (q : RowKey) → key_cmp c q ≡ Less → key_cmp q e.0 ≡ Less → map.get m q ≡ None
  none_between = is_next.2

  by_order : (q : RowKey) → key_cmp c q ≡ Less → (o : Ordering) → key_cmp e.0 q ≡ o → (key_cmp e.0 q ≡ Less) ⊎ (e.0 ≡ q) ⊎ (map.get m q ≡ None)
  by_order q past Less h = inl h
  by_order q past Equal h = inr (inl (key_exact e.0 q h))
  by_order q past Greater h = inr (inr (none_between q past (turned_round e.0 q h)))

  -- each key past the cursor is past that row, or at it, or has none
  place : (q : RowKey) → key_cmp c q ≡ Less → (key_cmp e.0 q ≡ Less) ⊎ (e.0 ≡ q) ⊎ (map.get m q ≡ None)
  place q past = by_order q past (key_cmp e.0 q) refl

  -- what is so up to the cursor is so up to that row, once it is of that, and of rows that changed
  module _ (P : RowKey → Row → Type 0) (so : UpTo P c m) (n : Rows) (was : (q : RowKey) (r : Row) → map.get n q ≡ Some r → (map.get m q ≡ Some r) ⊎ P q r) (here : (r : Row) → map.get n e.0 ≡ Some r → P e.0 r) where
    by_place : (q : RowKey) (r : Row) → map.get n q ≡ Some r → map.get m q ≡ Some r → (key_cmp e.0 q ≡ Less) ⊎ (e.0 ≡ q) ⊎ (map.get m q ≡ None) → (key_cmp e.0 q ≡ Less) ⊎ P q r
    by_place q r is h (inl past) = inl past
    by_place q r is h (inr (inl same)) = inr (subst (λ z. P z r) same (here r (ap (map.get n) same ∙ is)))
    by_place q r is h (inr (inr none)) = absurd (none-some r (sym none ∙ h))

    by_cursor : (q : RowKey) (r : Row) → map.get n q ≡ Some r → map.get m q ≡ Some r → (key_cmp c q ≡ Less) ⊎ P q r → (key_cmp e.0 q ≡ Less) ⊎ P q r
    by_cursor q r is h (inl past) = by_place q r is h (place q past)
    by_cursor q r is h (inr done) = inr done

    by_change : (q : RowKey) (r : Row) → map.get n q ≡ Some r → (map.get m q ≡ Some r) ⊎ P q r → (key_cmp e.0 q ≡ Less) ⊎ P q r
    by_change q r is (inl h) = by_cursor q r is h (so q r h)
    by_change q r is (inr done) = inr done

    pub up_to : UpTo P e.0 n
    up_to q r is = by_change q r is (was q r is)
