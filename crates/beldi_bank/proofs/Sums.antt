-- What items have beyond a hundred each, where one is set.
use Rattle.std.proofs.Common.{arith, ◌≡◌, ℕ, ℤ, pos, ◌+ℤ◌, ◌-ℤ◌, ◌*ℤ◌, Bool, true, false, cond, List, [], ◌∷◌, length, Option, None, Some, refl, ap, suc, sym, ◌∙◌}
use Rattle.std.specs.FinMap as map
use Rattle.std.specs.FinMap.{FinMap, entries-insert, get-entries, get-insert, get-remove, same_map, find, put}
use Rattle.std.specs.FinMap.Entries.{by_order}
use Rattle.std.specs.Ordering.{is_eq}
use Rattle.std.specs.declared.cmp.Ordering.TheVariants.{Less, Equal, Greater}
use Rattle.std.specs.Cmp.{Equal-is}
use Rattle.std.proofs.lemmas.Cmp.{tied_itself}
use Rattle.std.proofs.lemmas.Int.{ints}
use Rattle.beldi_value.specs.declared.value.Value.{Value}
use Rattle.beldi_plain.specs.Item.{Item, item_cmp, item_exact, item_total}
use Rattle.beldi_bank.specs.BankLaws.{sum_of, whole_of}

abbrev pub excess_in : List (Item × Value) → ℤ
excess_in [] = pos 0
excess_in (e ∷ es) = (whole_of e.1 -ℤ pos 100) +ℤ excess_in es

abbrev pub excess_of : FinMap item_cmp Value → ℤ
excess_of m = excess_in (map.entries m)

-- what a key has, where one that has none counts as a hundred
abbrev pub had : Option Value → ℤ
had None = pos 100
had (Some v) = whole_of v

one_more : (z s e : ℤ) (n : ℕ) → s ≡ e +ℤ (pos 100 *ℤ pos n) → z +ℤ s ≡ ((z -ℤ pos 100) +ℤ e) +ℤ (pos 100 *ℤ pos (suc n))
one_more z s e n h = omega (arith, ints)

pub sum_is : (es : List (Item × Value)) → sum_of es ≡ excess_in es +ℤ (pos 100 *ℤ pos (length es))
sum_is [] = refl
sum_is (e ∷ es) = one_more (whole_of e.1) (sum_of es) (excess_in es) (length es) (sum_is es)

swapped : (a b c d : ℤ) → c ≡ a +ℤ d → b +ℤ c ≡ a +ℤ (b +ℤ d)
swapped a b c d e = omega (arith, ints)

put_excess : (k : Item) (v : Value) (es : List (Item × Value)) → find item_cmp k es ≡ None → excess_in (put item_cmp k v es) ≡ (whole_of v -ℤ pos 100) +ℤ excess_in es
put_excess k v [] none = refl
put_excess k v (e ∷ es) none =
    elim (item_cmp k e.0) as (λ r. cond (is_eq r) (Some e.1) (find item_cmp k es) ≡ None → excess_in (by_order r ((k, v) ∷ e ∷ es) ((e.0, v) ∷ es) (e ∷ put item_cmp k v es)) ≡ (whole_of v -ℤ pos 100) +ℤ ((whole_of e.1 -ℤ pos 100) +ℤ excess_in es)) [
      | Less ↦ λ n. refl
      | Equal ↦ λ n. cc
      | Greater ↦ λ n. swapped (whole_of v -ℤ pos 100) (whole_of e.1 -ℤ pos 100) (excess_in (put item_cmp k v es)) (excess_in es) (put_excess k v es n)
    ] none

insert_new : (m : FinMap item_cmp Value) (k : Item) (v : Value) → map.get m k ≡ None → excess_of (map.insert m k v) ≡ (whole_of v -ℤ pos 100) +ℤ excess_of m
insert_new m k v none = ap excess_in (entries-insert item_total m k v) ∙ put_excess k v (map.entries m) (sym (get-entries m k) ∙ none)

gone : (m : FinMap item_cmp Value) (k : Item) → map.get (map.remove m k) k ≡ None
gone m k = get-remove item_total m k k ∙ ap (λ o. cond (is_eq o) None (map.get m k)) (tied_itself item_total k)

module _ (m : FinMap item_cmp Value) (k : Item) where
  -- a key that is put over another value is put where none was
  over_by : (v : Value) (q : Item) (b : Bool) → is_eq (item_cmp q k) ≡ b → cond (is_eq (item_cmp q k)) (Some v) (map.get m q) ≡ cond (is_eq (item_cmp q k)) (Some v) (map.get (map.remove m k) q)
  over_by v q true e = ap (λ b. cond b (Some v) (map.get m q)) e ∙ sym (ap (λ b. cond b (Some v) (map.get (map.remove m k) q)) e)
  over_by v q false e = ap (cond (is_eq (item_cmp q k)) (Some v)) (sym (get-remove item_total m k q ∙ ap (λ b. cond b None (map.get m q)) e))

  over : (v : Value) → map.insert m k v ≡ map.insert (map.remove m k) k v
  over v = same_map item_total item_exact _ _ (λ q. get-insert item_total m k v q ∙ over_by v q (is_eq (item_cmp q k)) refl ∙ sym (get-insert item_total (map.remove m k) k v q))

  -- a map is itself with what it has at a key, or without it
  back_by : (v : Value) → map.get m k ≡ Some v → (q : Item) (b : Bool) → is_eq (item_cmp q k) ≡ b → cond (is_eq (item_cmp q k)) (Some v) (map.get m q) ≡ map.get m q
  back_by v is q true e = ap (λ b. cond b (Some v) (map.get m q)) e ∙ sym is ∙ ap (map.get m) (sym (item_exact q k ((Equal-is (item_cmp q k)).0 e)))
  back_by v is q false e = ap (λ b. cond b (Some v) (map.get m q)) e

  back : (v : Value) → map.get m k ≡ Some v → map.insert m k v ≡ m
  back v is = same_map item_total item_exact _ _ (λ q. get-insert item_total m k v q ∙ back_by v is q (is_eq (item_cmp q k)) refl)

  removed : (o : Option Value) → map.get m k ≡ o → excess_of m ≡ (had o -ℤ pos 100) +ℤ excess_of (map.remove m k)
  removed None is = ap excess_of (sym same) ∙ none_more (excess_of (map.remove m k))
    where
      same_by : (q : Item) (b : Bool) → is_eq (item_cmp q k) ≡ b → cond (is_eq (item_cmp q k)) None (map.get m q) ≡ map.get m q
      same_by q true e = ap (λ b. cond b None (map.get m q)) e ∙ sym is ∙ ap (map.get m) (sym (item_exact q k ((Equal-is (item_cmp q k)).0 e)))
      same_by q false e = ap (λ b. cond b None (map.get m q)) e

      same : map.remove m k ≡ m
      same = same_map item_total item_exact _ _ (λ q. get-remove item_total m k q ∙ same_by q (is_eq (item_cmp q k)) refl)

      none_more : (e : ℤ) → e ≡ (pos 100 -ℤ pos 100) +ℤ e
      none_more e = omega (arith, ints)
  removed (Some v) is = ap excess_of (sym (back v is) ∙ over v) ∙ insert_new (map.remove m k) k v (gone m k)

  joined : (e w h r : ℤ) → e ≡ (h -ℤ pos 100) +ℤ r → (w -ℤ pos 100) +ℤ r ≡ e +ℤ (w -ℤ h)
  joined e w h r p = omega (arith, ints)

  -- one that is set changes it by the difference
  pub excess_set : (v : Value) → excess_of (map.insert m k v) ≡ excess_of m +ℤ (whole_of v -ℤ had (map.get m k))
  excess_set v = ap excess_of (over v) ∙ insert_new (map.remove m k) k v (gone m k) ∙ joined (excess_of m) (whole_of v) (had (map.get m k)) (excess_of (map.remove m k)) (removed (map.get m k) refl)
