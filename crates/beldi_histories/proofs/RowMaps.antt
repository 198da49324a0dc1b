-- What is at a key after one row was set, and which keys differ.
use Rattle.beldi_histories.proofs.Names.{Bool, Equal, Item, Kind, Less, Option, Ordering, Row, RowKey, Rows, ap, cond, false, got, head_key, is_eq, item_cmp, key_cmp, key_same, key_self, nat_cmp, ordering_then, refl, root_key, set_row, slice_cmp, subst, sym, true, ℕ, ◌∙◌, ◌≡◌}
use Rattle.beldi_histories.proofs.Names.map

-- ---- which keys differ
then_equal : (o : Ordering) → ordering_then o Equal ≡ o
then_equal Less = refl
then_equal o = refl

not_less : (o : Ordering) → is_eq (ordering_then o Less) ≡ false
not_less Less = refl
not_less o = refl

-- first rows of items are in the order of the items
pub head_order : (x y : Item) → key_cmp (head_key x) (head_key y) ≡ item_cmp x y
head_order x y = ap (λ o. ordering_then (nat_cmp x.func y.func) (ordering_then (nat_cmp x.table y.table) o)) (then_equal (slice_cmp nat_cmp x.key y.key))

abbrev pub is_intent_key : Kind → Bool
is_intent_key (Kind.Intent id) = true
is_intent_key k = false

-- a row of another kind is no root's
pub no_root : (t home : ℕ) (k : Kind) → is_intent_key k ≡ false → is_eq (key_cmp (root_key t) (record { home = home; kind = k })) ≡ false
no_root t home (Kind.Intent a) h = cc
no_root t home k h = not_less (nat_cmp 0 home)

-- ---- what holds at the row that changed, and at all others, holds at all
pub keys_at : (m n : Rows) (k : RowKey) (P : RowKey → Option Row → Type 0) → ((l : RowKey) → is_eq (key_cmp l k) ≡ false → map.get n l ≡ map.get m l) → P k (map.get n k)
    → ((l : RowKey) → is_eq (key_cmp l k) ≡ false → P l (map.get m l)) → (l : RowKey) → P l (map.get n l)
keys_at m n k P same here others l = elim (is_eq (key_cmp l k)) as (λ b. is_eq (key_cmp l k) ≡ b → P l (map.get n l)) [
  | true ↦ λ e. subst (λ z. P z (map.get n z)) (sym (key_same l k e)) here
  | false ↦ λ e. subst (P l) (sym (same l e)) (others l e)
] refl

pub set_here : (m : Rows) (k : RowKey) (v : Option Row) → map.get (set_row m k v) k ≡ v
set_here m k v = got m k k v ∙ ap (λ b. cond b v (map.get m k)) (key_self k)

pub set_others : (m : Rows) (k : RowKey) (v : Option Row) (l : RowKey) → is_eq (key_cmp l k) ≡ false → map.get (set_row m k v) l ≡ map.get m l
set_others m k v l e = got m k l v ∙ ap (λ b. cond b v (map.get m l)) e

-- .. after one was set
pub keys_set : (m : Rows) (k : RowKey) (v : Option Row) (P : RowKey → Option Row → Type 0) → P k v → ((l : RowKey) → is_eq (key_cmp l k) ≡ false → P l (map.get m l)) → (l : RowKey) → P l (map.get (set_row m k v) l)
keys_set m k v P here others = keys_at m (set_row m k v) k P (set_others m k v) (subst (P k) (sym (set_here m k v)) here) others
