-- Sums over the keys of rows, and how many rows there are of some.
use Rattle.std.specs.List.{list_any, sum_by}
use Rattle.std.specs.FinMap as map
use Rattle.std.specs.Ordering.{is_eq}
use Rattle.std.proofs.lemmas.List.Sums.{sum_by-cons, sum_by-le-sum_by}
use Rattle.std.proofs.Common.{◌≡◌, ℕ, ◌+◌, ◌≤◌, Bool, true, false, ◌||◌, is_some, List, [], ◌∷◌, refl, sym, ◌∙◌, subst, arith}
use Rattle.beldi_row.specs.{Key.RowKey, Key.key_cmp, Table.Rows}
use Rattle.beldi_row.proofs.Gets.{key_same}

-- what is less at each key is less in all, and by so many, where it is so at one that is there
module _ (f g : RowKey → ℕ) (less : (q : RowKey) → f q ≤ g q) (n : ℕ) (k : RowKey) (falls : f k + n ≤ g k) where
  falls_by : (x : RowKey) (xs : List RowKey) (b : Bool) → is_eq (key_cmp k x) ≡ b → (b || list_any (λ y. is_eq (key_cmp k y)) xs) ≡ true → (list_any (λ y. is_eq (key_cmp k y)) xs ≡ true → sum_by f xs + n ≤ sum_by g xs) → f x + sum_by f xs + n ≤ g x + sum_by g xs
  falls_by x xs true same h rest = let here = subst (λ z. f z + n ≤ g z) (key_same k x same) falls in let more = sum_by-le-sum_by f g xs less in omega (arith, here, more)
  falls_by x xs false other h rest = let here = less x in let more = rest h in omega (arith, here, more)

  falls_in : (ks : List RowKey) → list_any (λ y. is_eq (key_cmp k y)) ks ≡ true → sum_by f ks + n ≤ sum_by g ks
  falls_in [] h = cc
  falls_in (x ∷ xs) h =
      let a = sum_by-cons f x xs in
      let b = sum_by-cons g x xs in
      let both = falls_by x xs (is_eq (key_cmp k x)) refl h (falls_in xs) in
      omega (arith, a, b, both)

  pub sum_falls : (m : Rows) → is_some (map.get m k) ≡ true → sum_by f (map.keys m) + n ≤ sum_by g (map.keys m)
  sum_falls m there = falls_in (map.keys m) (sym (map.contains_key-keys m k) ∙ there)

pub sum_less : (f g : RowKey → ℕ) → ((q : RowKey) → f q ≤ g q) → (m : Rows) → sum_by f (map.keys m) ≤ sum_by g (map.keys m)
sum_less f g less m = sum_by-le-sum_by f g (map.keys m) less
