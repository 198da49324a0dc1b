-- A transfer leaves items balanced.
use Rattle.std.proofs.Common.{arith, ◌≡◌, ℕ, ℤ, pos, ◌+ℤ◌, ◌-ℤ◌, ◌*ℤ◌, Bool, true, false, cond, List, [], ◌∷◌, length, Option, None, Some, refl, ap, subst, sym, ◌∙◌}
use Rattle.std.specs.FinMap as map
use Rattle.std.specs.FinMap.{FinMap, find, get-empty, get-entries, get-insert}
use Rattle.std.specs.Ordering.{is_eq}
use Rattle.std.specs.Cmp.{Equal-is}
use Rattle.std.proofs.lemmas.Int.{ints}
use Rattle.std.proofs.lemmas.Cmp.{tied_itself}
use Rattle.beldi_value.specs.declared.value.Value.{Value}
use Rattle.beldi_tree.specs.Bindings.{or_null}
use Rattle.beldi_plain.specs.{Item.Item, Item.item_cmp, Item.item_exact, Item.item_total, Operation.set_item}
use Rattle.beldi_plain_laws.proofs.Maps.{changed, same_some}
use Rattle.beldi_bank.specs.BankLaws.{AreBalanced, IsWhole, sum_of}
use Rattle.beldi_bank.proofs.Effects.{IsMoney, balance}
use Rattle.beldi_bank.proofs.Sums.{excess_of, excess_set, had, sum_is}

-- the item of an account
abbrev pub item : List ℕ → Item
item k = record { func = 1; table = 0; key = k }

-- what an account has
abbrev pub has : FinMap item_cmp Value → List ℕ → Value
has m k = or_null (map.get m (item k))

pub no_items : AreBalanced map.empty
no_items = record { accounts = λ x v is. let c = sym (get-empty item_cmp x) ∙ is in cc; whole = λ x v is. let c = sym (get-empty item_cmp x) ∙ is in cc; sum = ap sum_of none ∙ ap (λ (es : List (Item × Value)). pos 100 *ℤ pos (length es)) (sym none) }
  where
    by_entries : (es : List (Item × Value)) → ((k : Item) → find item_cmp k es ≡ None) → es ≡ []
    by_entries [] h = refl
    by_entries (e ∷ es) h = let c = sym (ap (λ o. cond (is_eq o) (Some e.1) (find item_cmp e.0 es)) (tied_itself item_total e.0)) ∙ h e.0 in cc

    none : map.entries (map.empty {K = Item} {X = Value} {R = item_cmp}) ≡ []
    none = by_entries (map.entries (map.empty {K = Item} {X = Value} {R = item_cmp})) (λ k. sym (get-entries (map.empty {K = Item} {X = Value} {R = item_cmp}) k) ∙ get-empty item_cmp k)

whole_money : (o : Option Value) → ((v : Value) → o ≡ Some v → IsWhole v) → IsMoney (or_null o)
whole_money None h = tt
whole_money (Some (Value.Int z)) h = tt
whole_money (Some v) h = absurd (h v refl)

pub money : (m : FinMap item_cmp Value) → AreBalanced m → (k : List ℕ) → IsMoney (has m k)
money m h k = whole_money (map.get m (item k)) (h.whole (item k))

had_balance : (o : Option Value) → ((v : Value) → o ≡ Some v → IsWhole v) → had o ≡ balance (or_null o)
had_balance None h = refl
had_balance (Some (Value.Int z)) h = refl
had_balance (Some v) h = absurd (h v refl)

whole_set : (m : FinMap item_cmp Value) (x : Item) (z : ℤ) → IsWhole (Value.Int z) → ((y : Item) (v : Value) → map.get m y ≡ Some v → IsWhole v) → (y : Item) (v : Value) → map.get (map.insert m x (Value.Int z)) y ≡ Some v → IsWhole v
whole_set m x z whole h = changed item_exact m (map.insert m x (Value.Int z)) x (Some (Value.Int z)) (get-insert item_total m x (Value.Int z)) (λ y o. (v : Value) → o ≡ Some v → IsWhole v) (λ v is. subst IsWhole (same_some is) whole) h

abbrev AreAccounts : FinMap item_cmp Value → Type 0
AreAccounts m = (y : Item) (v : Value) → map.get m y ≡ Some v → (y.func ≡ 1) × (y.table ≡ 0)

accounts_set : (m : FinMap item_cmp Value) (k : List ℕ) (w : Value) → AreAccounts m → AreAccounts (map.insert m (item k) w)
accounts_set m k w h = changed item_exact m (map.insert m (item k) w) (item k) (Some w) (get-insert item_total m (item k) w) (λ y o. (v : Value) → o ≡ Some v → (y.func ≡ 1) × (y.table ≡ 0)) (λ v is. (refl, refl)) h

none_over : (s e n : ℤ) → s ≡ e +ℤ n → s ≡ n → e ≡ pos 0
none_over s e n p q = omega (arith, ints)

as_many : (s e n : ℤ) → s ≡ e +ℤ n → e ≡ pos 0 → s ≡ n
as_many s e n p q = omega (arith, ints)

evened : (e f g a b n : ℤ) → f ≡ e +ℤ ((a -ℤ n) -ℤ a) → g ≡ f +ℤ ((b +ℤ n) -ℤ b) → e ≡ pos 0 → g ≡ pos 0
evened e f g a b n p q h = omega (arith, ints)

apart_items : (s u : List ℕ) → (s ≡ u → ⊥) → is_eq (item_cmp (item u) (item s)) ≡ false
apart_items s u apart = by_test (is_eq (item_cmp (item u) (item s))) refl
  where
    by_test : (b : Bool) → is_eq (item_cmp (item u) (item s)) ≡ b → b ≡ false
    by_test true e = absurd (apart (sym (ap (λ (x : Item). x.key) (item_exact (item u) (item s) ((Equal-is (item_cmp (item u) (item s))).0 e)))))
    by_test false e = refl

pub balanced : (m : FinMap item_cmp Value) (s u : List ℕ) (n : ℤ) → AreBalanced m → (s ≡ u → ⊥)
    → IsWhole (Value.Int (balance (has m s) -ℤ n)) → IsWhole (Value.Int (balance (has m u) +ℤ n))
    → AreBalanced (set_item (set_item m (item s) (Value.Int (balance (has m s) -ℤ n))) (item u) (Value.Int (balance (has m u) +ℤ n)))
balanced m s u n h apart less more = record {
  accounts = accounts_set left u (Value.Int (balance (has m u) +ℤ n)) (accounts_set m s (Value.Int (balance (has m s) -ℤ n)) h.accounts);
  whole = whole_set left (item u) (balance (has m u) +ℤ n) more (whole_set m (item s) (balance (has m s) -ℤ n) less h.whole);
  sum = as_many (sum_of (map.entries all)) (excess_of all) (pos 100 *ℤ pos (length (map.entries all))) (sum_is (map.entries all)) even;
}
  where
    left : FinMap item_cmp Value
    left = map.insert m (item s) (Value.Int (balance (has m s) -ℤ n))

    kept : map.get left (item u) ≡ map.get m (item u)
    kept = get-insert item_total m (item s) (Value.Int (balance (has m s) -ℤ n)) (item u) ∙ ap (λ b. cond b (Some (Value.Int (balance (has m s) -ℤ n))) (map.get m (item u))) (apart_items s u apart)

    all : FinMap item_cmp Value
    all = map.insert left (item u) (Value.Int (balance (has m u) +ℤ n))

    even : excess_of all ≡ pos 0
    even = evened (excess_of m) (excess_of left) (excess_of all) (balance (has m s)) (balance (has m u)) n
        (excess_set m (item s) (Value.Int (balance (has m s) -ℤ n)) ∙ ap (λ z. excess_of m +ℤ ((balance (has m s) -ℤ n) -ℤ z)) (had_balance (map.get m (item s)) (h.whole (item s))))
        (excess_set left (item u) (Value.Int (balance (has m u) +ℤ n)) ∙ ap (λ o. excess_of left +ℤ ((balance (has m u) +ℤ n) -ℤ had o)) kept ∙ ap (λ z. excess_of left +ℤ ((balance (has m u) +ℤ n) -ℤ z)) (had_balance (map.get m (item u)) (h.whole (item u))))
        (none_over (sum_of (map.entries m)) (excess_of m) (pos 100 *ℤ pos (length (map.entries m))) (sum_is (map.entries m)) h.sum)
