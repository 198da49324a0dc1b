-- what is read off the next row is the same over less rows, where it is read off rows that both have and rows between them.
use Rattle.std.specs.FinMap as map
use Rattle.std.specs.declared.cmp.Ordering.TheVariants.{Less as Before, Greater}
use Rattle.std.specs.Ordering.{ordering_reverse}
use Rattle.std.proofs.Common.{◌≡◌, inl, inr, Bool, true, Option, Some, None, refl, ap, sym, ◌∙◌}
use Rattle.beldi_value.specs.declared.id.IntentId.{IntentId}
use Rattle.beldi_row.specs.{Key.RowKey, Key.key_cmp, KeyOrder.key_exact, KeyOrder.key_total, Table.IsNext, Table.Rows, Table.next_row, declared.row.Row.Row}
use Rattle.beldi_row.proofs.Least.{next_row_least}
use Rattle.beldi_histories.proofs.Cases.{by_option}
use Rattle.beldi_step.proofs.StepRuns.{same_some}
use Rattle.beldi_txn.proofs.InvokedInside.{by_order}
use Rattle.beldi_upkeep.specs.Callees.{belongs_to}
use Rattle.beldi_kept.specs.Less.{IsGone, Less, is_item}
use Rattle.beldi_kept.proofs.Less.{by_kind, none_there}

module _ (gone : IntentId → Bool) (m kept : Rows) (less : Less gone m kept) (k : RowKey) {X : Type 0} (g : Option (RowKey × Row) → Option X) (none : g None ≡ None)
    (alive : (e : RowKey × Row) (x : X) → g (Some e) ≡ Some x → IsGone gone (belongs_to e.0.kind) → ⊥)
    (items : (q : RowKey) (s : Row) → is_item q.kind ≡ true → g (Some (q, s)) ≡ None)
    (between : (e : RowKey × Row) (x : X) → g (Some e) ≡ Some x → (q : RowKey) (s : Row) → IsNext kept k (Some (q, s)) → key_cmp q e.0 ≡ Before → g (Some (q, s)) ≡ None → ⊥) where
  after : (q e : RowKey) → key_cmp q e ≡ Greater → key_cmp e q ≡ Before
  after q e h = key_total.antisymm e q ∙ ap ordering_reverse h

  -- the kept one is there
  same_row : (q : RowKey) (s : Row) → IsNext kept k (Some (q, s)) → map.get m q ≡ Some s → (o : Option (RowKey × Row)) → IsNext m k o → g o ≡ g (Some (q, s))
  same_row q s there here None next = let clash = sym here ∙ next q there.0 in cc
  same_row q s there here (Some e) next = by_order (key_cmp q e.0) (g (Some e) ≡ g (Some (q, s)))
      (λ l. let clash = sym here ∙ next.2 q there.0 l in cc)
      (λ l. let at : q ≡ e.0 = key_exact q e.0 l in let row : s ≡ e.1 = same_some (sym here ∙ ap (map.get m) at ∙ next.1) in λ i. g (Some (sym at i, sym row i)))
      (λ l. let clash = sym next.1 ∙ none_there gone m kept less e.0 (there.2 e.0 next.0 (after q e.0 l)) in cc)

  -- it is gone
  other_row : (q : RowKey) (s : Row) → IsNext kept k (Some (q, s)) → map.get m q ≡ None → g (Some (q, s)) ≡ None → (o : Option (RowKey × Row)) → IsNext m k o → g o ≡ None
  other_row q s there here off None next = none
  other_row q s there here off (Some e) next = by_option (g (Some e)) (λ z. z) (λ x is. absurd (by_order (key_cmp q e.0) ⊥
      (λ l. between e x is q s there l off)
      (λ l. let clash = sym next.1 ∙ ap (map.get m) (sym (key_exact q e.0 l)) ∙ here in cc)
      (λ l. let clash = sym next.1 ∙ none_there gone m kept less e.0 (there.2 e.0 next.0 (after q e.0 l)) in cc)))

  -- it is an item's: another row may be there
  item_row : (q : RowKey) (s r : Row) → is_item q.kind ≡ true → IsNext kept k (Some (q, s)) → map.get m q ≡ Some r → g (Some (q, s)) ≡ None → (o : Option (RowKey × Row)) → IsNext m k o → g o ≡ None
  item_row q s r item there here off None next = none
  item_row q s r item there here off (Some e) next = by_order (key_cmp q e.0) (g (Some e) ≡ None)
      (λ l. let clash = sym here ∙ next.2 q there.0 l in cc)
      (λ l. items e.0 e.1 (ap (λ (z : RowKey). is_item z.kind) (sym (key_exact q e.0 l)) ∙ item))
      (λ l. let clash = sym next.1 ∙ none_there gone m kept less e.0 (there.2 e.0 next.0 (after q e.0 l)) in cc)

  pub next_alike : g (next_row m k) ≡ g (next_row kept k)
  next_alike = by_kept (next_row kept k) (next_row_least kept k)
    where
      no_row : ((q : RowKey) → key_cmp k q ≡ Before → map.get kept q ≡ None) → (o : Option (RowKey × Row)) → IsNext m k o → g o ≡ g None
      no_row all None next = refl
      no_row all (Some e) next = let clash = sym next.1 ∙ none_there gone m kept less e.0 (all e.0 next.0) in cc

      by_kept : (o : Option (RowKey × Row)) → IsNext kept k o → g (next_row m k) ≡ g o
      by_kept None next = no_row next (next_row m k) (next_row_least m k)
      by_kept (Some (q, s)) next = by_kind q
          (λ other. elim (less.rows q other) [
            | inl same ↦ same_row q s next (same ∙ next.1) (next_row m k) (next_row_least m k)
            | inr off ↦ let here : g (Some (q, s)) ≡ None = by_option (g (Some (q, s))) (λ z. z) (λ x is. absurd (alive (q, s) x is off.1)) in other_row q s next off.0 here (next_row m k) (next_row_least m k) ∙ sym here
          ])
          (λ x n at. let none_read = items q s (ap (λ (z : RowKey). is_item z.kind) (sym at)) in by_option (map.get m q)
          (λ none. other_row q s next none none_read (next_row m k) (next_row_least m k) ∙ sym none_read)
          (λ r here. item_row q s r (ap (λ (z : RowKey). is_item z.kind) (sym at)) next here none_read (next_row m k) (next_row_least m k) ∙ sym none_read))
