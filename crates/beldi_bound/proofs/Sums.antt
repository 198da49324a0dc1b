-- Sums over rows.
use Rattle.std.specs.FinMap.{find, get-entries}
use Rattle.std.specs.FinMap as map
use Rattle.std.specs.Ordering.{is_eq}
use Rattle.std.proofs.Common.{List, Some, [], ap, arith, cond, is_some, subst, sym, true, ℕ, ◌+◌, ◌∙◌, ◌∷◌, ◌≡◌, ◌≤◌}
use Rattle.beldi_row.specs.{Key.RowKey, Key.key_cmp, Table.Rows, declared.row.Row.Row}
use Rattle.beldi_row.proofs.Gets.{key_same}
use Rattle.beldi_histories.proofs.Cases.{by_cases}
use Rattle.beldi_bound.specs.Visits.{sum_by}

module _ (f g : RowKey → Row → ℕ) (less : (k : RowKey) (r : Row) → f k r ≤ g k r) where
  -- what is less at each entry is less in all
  pub sum_less : (es : List (RowKey × Row)) → sum_by f es ≤ sum_by g es
  sum_less [] = omega arith
  sum_less (e ∷ es) = let a = less e.0 e.1 in let b = sum_less es in omega (arith, a, b)

  -- .. and by so many, where it is so at one
  module _ (n : ℕ) (k : RowKey) (falls : (r : Row) → f k r + n ≤ g k r) where
    sum_falls : (es : List (RowKey × Row)) → is_some (find key_cmp k es) ≡ true → sum_by f es + n ≤ sum_by g es
    sum_falls [] there = cc
    sum_falls (e ∷ es) there = by_cases (is_eq (key_cmp k e.0))
        (λ same. let a = subst (λ z. f z e.1 + n ≤ g z e.1) (key_same k e.0 same) (falls e.1) in let b = sum_less es in omega (arith, a, b))
        (λ other. let a = less e.0 e.1 in let b = sum_falls es (sym (ap (λ t. is_some (cond t (Some e.1) (find key_cmp k es))) other) ∙ there) in omega (arith, a, b))

    pub sum_lower : (m : Rows) → is_some (map.get m k) ≡ true → sum_by f (map.entries m) + n ≤ sum_by g (map.entries m)
    sum_lower m there = sum_falls (map.entries m) (sym (ap is_some (get-entries m k)) ∙ there)
