-- The first row past a key stands where the search ends.
use Rattle.std.specs.{List.Sorted.IsStrictlySortedBy, Map.keys_of, Ordering.is_lt, declared.cmp.Ordering.Ordering, declared.cmp.Ordering.TheVariants.Less, declared.cmp.Ordering.TheVariants.Equal, declared.cmp.Ordering.TheVariants.Greater}
use Rattle.std.proofs.lemmas.Map.Keys.{sorted_head, sorted_tail}
use Rattle.std.proofs.Common.{◌≡◌, ℕ, zero, suc, ◌+◌, ◌<◌, ◌≤◌, true, false, List, [], ◌∷◌, length, Some, refl, ap, sym, ◌∙◌, slice_index_or, slice_get, if◌then◌else◌, arith}
use Rattle.beldi_region.proofs.RegionLists.{at_each}
use Rattle.beldi_row.specs.{Key.RowKey, Key.key_cmp, KeyOrder.key_total, Table.first_above, declared.row.Row.Row}

pub less_of : (o : Ordering) → is_lt o ≡ true → o ≡ Less
less_of Less h = refl
less_of Equal h = cc
less_of Greater h = cc

-- the key before a place is not greater, and the one behind it is
pub record IsFirstPast (k : RowKey) (p : ℕ) (ks : List RowKey) : Type 0 where
  pub fits : p ≤ length ks
  pub below : (j : ℕ) (d : RowKey) → j + 1 ≡ p → is_lt (key_cmp k (slice_index_or ks j d)) ≡ false
  pub above : (d : RowKey) → p < length ks → is_lt (key_cmp k (slice_index_or ks p d)) ≡ true

not_above : (k : RowKey) (p : ℕ) (y : RowKey) (ys : List RowKey) → IsStrictlySortedBy key_cmp (y ∷ ys) → IsFirstPast k (suc p) (y ∷ ys) → is_lt (key_cmp k y) ≡ false
not_above k zero y ys s b = b.below 0 y (omega arith)
not_above k (suc p) y ys s b = (elim (is_lt (key_cmp k y)) as (λ t. is_lt (key_cmp k y) ≡ t → t ≡ false) [
  | true ↦ λ t.
      let fits : suc (suc p) ≤ suc (length ys) = b.fits in
      let z = slice_index_or ys p y in
      let past = key_total.trans k y z (less_of (key_cmp k y) t) (at_each (λ x. key_cmp y x ≡ Less) ys p y (omega (arith, fits)) (sorted_head key_cmp y ys s)) in
      let clash : true ≡ false = sym (ap is_lt past) ∙ b.below (suc p) y (omega arith) in cc
  | false ↦ λ t. refl
]) refl

later : (k : RowKey) (p : ℕ) (y : RowKey) (ys : List RowKey) → IsFirstPast k (suc p) (y ∷ ys) → IsFirstPast k p ys
later k p y ys b =
    let fits : suc p ≤ suc (length ys) = b.fits in
    record {
      fits = omega (arith, fits);
      below = λ j d e. b.below (suc j) d (omega (arith, e));
      above = λ d h. b.above d (omega (arith, h));
    }

pub first_at : (k : RowKey) (p : ℕ) (es : List (RowKey × Row)) → IsStrictlySortedBy key_cmp (keys_of es) → IsFirstPast k p (keys_of es) → first_above k es ≡ slice_get es p
first_at k zero [] s b = refl
first_at k (suc p) [] s b = let fits : suc p ≤ 0 = b.fits in absurd (omega (arith, fits))
first_at k zero (e ∷ es) s b = ap (λ t. if t then Some e else first_above k es) (b.above e.0 (omega arith))
first_at k (suc p) (e ∷ es) s b =
    ap (λ t. if t then Some e else first_above k es) (not_above k p e.0 (keys_of es) s b)
    ∙ first_at k p es (sorted_tail key_cmp e.0 (keys_of es) s) (later k p e.0 (keys_of es) b)
