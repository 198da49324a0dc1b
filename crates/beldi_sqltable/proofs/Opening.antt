-- The open intents past a key.
use Rattle.std.specs.{BTreeMap.Range.IsLeBy, BTreeSet.BTreeSet, BTreeSet.contains, BTreeSet.IsKeyRangeOf, BTreeSet.IsKeyInRange, Ordering.is_gt, Ordering.ordering_reverse, declared.cmp.Ordering.TheVariants.Less, declared.ops.Bound.TheVariants.Excluded, declared.ops.Bound.TheVariants.Unbounded}
use Rattle.std.specs.Prelude.{IfSome, slice_get}
use Rattle.std.specs.FinMap as map
use Rattle.std.proofs.Common.{◌≡◌, ℕ, Bool, true, false, List, [], ◌∷◌, Option, Some, None, IsTrue, refl, subst, ap, sym, ◌∙◌}
use Rattle.beldi_row.specs.{Key.RowKey, Key.key_cmp, KeyOrder.key_total, Table.Rows, Table.is_open, Table.NoneOpen, Table.NoneOpenTo, declared.row.Row.Row}
use Rattle.beldi_table.specs.Opened.{opened}
use Rattle.beldi_sqltable.specs.StoreCounts.{Lists, Keeps}

none_at : (m : Rows) (s : BTreeSet RowKey) (q : RowKey) (r : Row) → Lists s m → contains key_cmp s q ≡ false → map.get m q ≡ Some r → is_open q.kind r ≡ false
none_at m s q r h none here = ap (opened q) (sym here) ∙ sym (h q) ∙ none

pub none_past : (m : Rows) (s : BTreeSet RowKey) (k : RowKey) (list : List RowKey) → Lists s m → IsKeyRangeOf key_cmp (Excluded k) Unbounded s list → list ≡ [] → NoneOpen m k
none_past m s k list h range is q r past here = none_at m s q r h (range.5 is q (past, tt)) here

pub none_to : (m : Rows) (s : BTreeSet RowKey) (k end : RowKey) (list rest : List RowKey) → Lists s m → IsKeyRangeOf key_cmp (Excluded k) Unbounded s list → list ≡ end ∷ rest → NoneOpenTo m k end
none_to m s k end list rest h range is q r past below here =
    none_at m s q r h ((elim (contains key_cmp s q) as (λ b. contains key_cmp s q ≡ b → b ≡ false) [
      | true ↦ λ e.
          let first = subst (λ l. IfSome (slice_get l 0) (λ x. IsLeBy key_cmp x q)) is (range.2 q (past, tt) e) in
          let clash : true ≡ false = ap is_gt (sym (key_total.antisymm end q ∙ ap ordering_reverse below)) ∙ first in cc
      | false ↦ λ e. refl
    ]) refl) here

pub first_open : (m : Rows) (s : BTreeSet RowKey) (k end : RowKey) (list rest : List RowKey) → Lists s m → IsKeyRangeOf key_cmp (Excluded k) Unbounded s list → list ≡ end ∷ rest → (key_cmp k end ≡ Less) × IsTrue (opened end (map.get m end))
first_open m s k end list rest h range is =
    let first = subst (λ l. IfSome (slice_get l 0) (λ x. IsKeyInRange key_cmp (Excluded k) Unbounded s x)) is range.1 in
    (first.0.0, sym (h end) ∙ first.1)

pub told_to : (c : ℕ) (s : BTreeSet RowKey) (known : Bool) (told : Option Rows) (k end : RowKey) (list rest : List RowKey) → IfSome told (Keeps c s known) → IsKeyRangeOf key_cmp (Excluded k) Unbounded s list → list ≡ end ∷ rest
    → IfSome told (λ m. NoneOpenTo m k end)
told_to c s known None k end list rest h range is = tt
told_to c s known (Some m) k end list rest h range is = none_to m s k end list rest h.listed range is
