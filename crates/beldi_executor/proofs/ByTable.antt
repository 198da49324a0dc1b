-- The items table by table are the items.
use Rattle.std.specs.FinMap as finite
use Rattle.std.proofs.Common.{◌&&◌, OnErr, IfOk}
use Rattle.beldi_executor.proofs.Names.{AllocError, Bool, Cells, Equal, Err, FinMap, Greater, Item, Less, List, None, Ok, Option, Ordering, Result, Some, T, TableId, Tables, Value, [], ap, at_key, below_all, cells_at, cond, entries-from_sorted, entries_sorted, eq_by_cmp, false, find, get-empty, get-entries, get-from_sorted, get-insert, get-remove, is_eq, is_lt, is_some, is_sorted, item_at, item_cmp, item_exact, item_total, items_in, items_of, key_cmp, key_total, nat_cmp, nat_cmp_total, or_none, ordering_then, put_cell, refl, same_map, set_item, subst, sym, table_cmp, table_exact, table_total, tied_itself, true, unset_cell, ℕ, ◌++◌, ◌∙◌, ◌∷◌, ◌≡◌}
use Rattle.beldi_executor.proofs.Finite.{same_key, same_set, absent_removed}

both : (a b : Bool) → T a → T b → T (a && b)
both true b p q = q
both false b p q = p

first : (a b : Bool) → T (a && b) → T a
first true b p = tt
first false b p = p

second : (a b : Bool) → T (a && b) → T b
second true b p = p
second false b p = absurd p

less : (o : Ordering) → T (is_lt o) → o ≡ Less
less Less p = refl
less Equal p = absurd p
less Greater p = absurd p

-- ---- the items of all tables stand in order

-- what is below by table is below
below_parts : (a b k : Ordering) → T (is_lt (ordering_then a b)) → T (is_lt (ordering_then a (ordering_then b k)))
below_parts Less b k h = tt
below_parts Equal Less k h = tt
below_parts Equal Equal k h = absurd h
below_parts Equal Greater k h = absurd h
below_parts Greater b k h = absurd h

below_cells : (t u : TableId) (k : List ℕ) (cs : List (List ℕ × Value)) → T (is_lt (table_cmp t u)) → T (below_all item_cmp (item_at t k) (cells_at u cs))
below_cells t u k [] h = tt
below_cells t u k (c ∷ cs) h = both _ _ (below_parts (nat_cmp t.func u.func) (nat_cmp t.table u.table) (key_cmp k c.0) h) (below_cells t u k cs h)

below_both : (x : Item) (es fs : List (Item × Value)) → T (below_all item_cmp x es) → T (below_all item_cmp x fs) → T (below_all item_cmp x (es ++ fs))
below_both x [] fs h g = g
below_both x (e ∷ es) fs h g = both _ _ (first _ _ h) (below_both x es fs (second _ _ h) g)

below_items : (t : TableId) (k : List ℕ) (ts : List (TableId × Cells)) → T (below_all table_cmp t ts) → T (below_all item_cmp (item_at t k) (items_in ts))
below_items t k [] h = tt
below_items t k (e ∷ ts) h = below_both (item_at t k) (cells_at e.0 (finite.entries e.1)) (items_in ts) (below_cells t e.0 k (finite.entries e.1) (first _ _ h)) (below_items t k ts (second _ _ h))

-- in one table the keys decide
same_table : (t : TableId) (k l : List ℕ) → item_cmp (item_at t k) (item_at t l) ≡ key_cmp k l
same_table t k l = ap (λ a. ordering_then a (ordering_then (nat_cmp t.table t.table) (key_cmp k l))) (tied_itself nat_cmp_total t.func) ∙ ap (λ b. ordering_then b (key_cmp k l)) (tied_itself nat_cmp_total t.table)

below_keys : (t : TableId) (k : List ℕ) (cs : List (List ℕ × Value)) → T (below_all key_cmp k cs) → T (below_all item_cmp (item_at t k) (cells_at t cs))
below_keys t k [] h = tt
below_keys t k (c ∷ cs) h = both _ _ (subst (λ r. T (is_lt r)) (sym (same_table t k c.0)) (first _ _ h)) (below_keys t k cs (second _ _ h))

cells_then : (t : TableId) (cs : List (List ℕ × Value)) (fs : List (Item × Value)) → T (is_sorted key_cmp cs) → T (is_sorted item_cmp fs) → ((k : List ℕ) → T (below_all item_cmp (item_at t k) fs)) → T (is_sorted item_cmp (cells_at t cs ++ fs))
cells_then t [] fs h g b = g
cells_then t (c ∷ cs) fs h g b = both _ _ (below_both (item_at t c.0) (cells_at t cs) fs (below_keys t c.0 cs (first _ _ h)) (b c.0)) (cells_then t cs fs (second _ _ h) g b)

items_sorted : (ts : List (TableId × Cells)) → T (is_sorted table_cmp ts) → T (is_sorted item_cmp (items_in ts))
items_sorted [] h = tt
items_sorted (e ∷ ts) h = cells_then e.0 (finite.entries e.1) (items_in ts) (entries_sorted e.1) (items_sorted ts (second _ _ h)) (λ k. below_items e.0 k ts (first _ _ h))

pub entries_items : (m : Tables) → finite.entries (items_of m) ≡ items_in (finite.entries m)
entries_items m = entries-from_sorted item_cmp (items_in (finite.entries m)) (items_sorted (finite.entries m) (entries_sorted m))

-- ---- an item is looked up by its table, and then by its key

abbrev table_of : Item → TableId
table_of x = record { func = x.func; table = x.table }

abbrev or_else : Option Value → Option Value → Option Value
or_else None y = y
or_else (Some x) y = Some x

or_nothing : (o : Option Value) → or_else o None ≡ o
or_nothing None = refl
or_nothing (Some v) = refl

cond_else : (b : Bool) (v : Value) (r s : Option Value) → cond b (Some v) (or_else r s) ≡ or_else (cond b (Some v) r) s
cond_else true v r s = refl
cond_else false v r s = refl

find_both : (q : Item) (es fs : List (Item × Value)) → find item_cmp q (es ++ fs) ≡ or_else (find item_cmp q es) (find item_cmp q fs)
find_both q [] fs = refl
find_both q (e ∷ es) fs = ap (cond (eq_by_cmp item_cmp q e.0) (Some e.1)) (find_both q es fs) ∙ cond_else (eq_by_cmp item_cmp q e.0) e.1 (find item_cmp q es) (find item_cmp q fs)

by_parts : (a b k : Ordering) (v : Value) (r s : Option Value) → r ≡ cond (is_eq (ordering_then a b)) s None → cond (is_eq (ordering_then a (ordering_then b k))) (Some v) r ≡ cond (is_eq (ordering_then a b)) (cond (is_eq k) (Some v) s) None
by_parts Less b k v r s h = h
by_parts Equal Less k v r s h = h
by_parts Equal Equal k v r s h = ap (cond (is_eq k) (Some v)) h
by_parts Equal Greater k v r s h = h
by_parts Greater b k v r s h = h

none_either : (b : Bool) → ◌≡◌ {A = Option Value} None (cond b None None)
none_either true = refl
none_either false = refl

find_cells : (x : Item) (t : TableId) (cs : List (List ℕ × Value)) → find item_cmp x (cells_at t cs) ≡ cond (is_eq (table_cmp (table_of x) t)) (find key_cmp x.key cs) None
find_cells x t [] = none_either (is_eq (table_cmp (table_of x) t))
find_cells x t (c ∷ cs) = by_parts (nat_cmp x.func t.func) (nat_cmp x.table t.table) (key_cmp x.key c.0) c.1 (find item_cmp x (cells_at t cs)) (find key_cmp x.key cs) (find_cells x t cs)

below_none : (u : TableId) (ts : List (TableId × Cells)) → T (below_all table_cmp u ts) → find table_cmp u ts ≡ None
below_none u [] h = refl
below_none u (e ∷ ts) h = ap (λ r. cond (is_eq r) (Some e.1) (find table_cmp u ts)) (less _ (first _ _ h)) ∙ below_none u ts (second _ _ h)

find_items : (x : Item) (ts : List (TableId × Cells)) → T (is_sorted table_cmp ts) → find item_cmp x (items_in ts) ≡ at_key x.key (find table_cmp (table_of x) ts)
find_items x [] h = refl
find_items x (e ∷ ts) h =
    let t = table_of x in
    let here = find key_cmp x.key (finite.entries e.1) in
    find_both x (cells_at e.0 (finite.entries e.1)) (items_in ts)
    ∙ ap (λ o. or_else o (find item_cmp x (items_in ts))) (find_cells x e.0 (finite.entries e.1))
    ∙ ap (or_else (cond (is_eq (table_cmp t e.0)) here None)) (find_items x ts (second _ _ h))
    ∙ elim (is_eq (table_cmp t e.0)) as (λ b. is_eq (table_cmp t e.0) ≡ b → or_else (cond b here None) (at_key x.key (find table_cmp t ts)) ≡ at_key x.key (cond b (Some e.1) (find table_cmp t ts))) [
      | true ↦ λ on.
          let none : find table_cmp t ts ≡ None = ap (λ u. find table_cmp u ts) (same_key table_exact t e.0 on) ∙ below_none e.0 ts (first _ _ h) in
          ap (λ o. or_else here (at_key x.key o)) none ∙ or_nothing here ∙ sym (get-entries e.1 x.key)
      | false ↦ λ off. refl
    ] refl

pub get_items : (m : Tables) (x : Item) → finite.get (items_of m) x ≡ at_key x.key (finite.get m (table_of x))
get_items m x =
    get-from_sorted item_cmp (items_in (finite.entries m)) x (items_sorted (finite.entries m) (entries_sorted m))
    ∙ find_items x (finite.entries m) (entries_sorted m)
    ∙ ap (at_key x.key) (sym (get-entries m (table_of x)))

pub items_empty : items_of finite.empty ≡ finite.empty
items_empty = same_map item_total item_exact _ _ (λ x. get_items finite.empty x ∙ ap (at_key x.key) (get-empty table_cmp (table_of x)) ∙ sym (get-empty item_cmp x))

-- ---- a cell that is set is an item that is set

abbrev pub some_of : Value → Option Value
some_of Value.Null = None
some_of v = Some v

pub get_set : (m : FinMap item_cmp Value) (x : Item) (v : Value) (q : Item) → finite.get (set_item m x v) q ≡ cond (is_eq (item_cmp q x)) (some_of v) (finite.get m q)
get_set m x Value.Null q = get-remove item_total m x q
get_set m x (Value.Bool b) q = get-insert item_total m x (Value.Bool b) q
get_set m x (Value.Int n) q = get-insert item_total m x (Value.Int n) q
get_set m x (Value.Text s) q = get-insert item_total m x (Value.Text s) q
get_set m x (Value.List vs) q = get-insert item_total m x (Value.List vs) q
get_set m x (Value.Rec fs) q = get-insert item_total m x (Value.Rec fs) q

parted : (a b k : Ordering) (x y : Option Value) → cond (is_eq (ordering_then a (ordering_then b k))) x y ≡ cond (is_eq (ordering_then a b)) (cond (is_eq k) x y) y
parted Less b k x y = refl
parted Equal Less k x y = refl
parted Equal Equal k x y = refl
parted Equal Greater k x y = refl
parted Greater b k x y = refl

get_or_none : (o : Option Cells) (k : List ℕ) → finite.get (or_none o) k ≡ at_key k o
get_or_none None k = get-empty key_cmp k
get_or_none (Some m) k = refl

-- a key of a table has this now, and all others what they had
changed_one : (m : Tables) (t : TableId) (k : List ℕ) (cells : Cells) (r : Option Value) (q : Item) → ((l : List ℕ) → finite.get cells l ≡ cond (is_eq (key_cmp l k)) r (finite.get (or_none (finite.get m t)) l)) → finite.get (items_of (finite.insert m t cells)) q ≡ cond (is_eq (item_cmp q (item_at t k))) r (finite.get (items_of m) q)
changed_one m t k cells r q has =
    let u = table_of q in
    get_items (finite.insert m t cells) q
    ∙ ap (at_key q.key) (get-insert table_total m t cells u)
    ∙ elim (is_eq (table_cmp u t)) as (λ b. is_eq (table_cmp u t) ≡ b → at_key q.key (cond b (Some cells) (finite.get m u)) ≡ cond b (cond (is_eq (key_cmp q.key k)) r (at_key q.key (finite.get m u))) (at_key q.key (finite.get m u))) [
      | true ↦ λ on.
          has q.key
          ∙ ap (cond (is_eq (key_cmp q.key k)) r) (get_or_none (finite.get m t) q.key ∙ ap (λ w. at_key q.key (finite.get m w)) (sym (same_key table_exact u t on)))
      | false ↦ λ off. refl
    ] refl
    ∙ sym (parted (nat_cmp q.func t.func) (nat_cmp q.table t.table) (key_cmp q.key k) r (at_key q.key (finite.get m u)))
    ∙ ap (cond (is_eq (item_cmp q (item_at t k))) r) (sym (get_items m q))

pub put_items : (m : Tables) (t : TableId) (k : List ℕ) (v : Value) → items_of (put_cell m t k v) ≡ finite.insert (items_of m) (item_at t k) v
put_items m t k v = same_map item_total item_exact _ _ (λ q.
    changed_one m t k (finite.insert (or_none (finite.get m t)) k v) (Some v) q (get-insert key_total (or_none (finite.get m t)) k v) ∙ sym (get-insert item_total (items_of m) (item_at t k) v q))

unset_items : (m : Tables) (t : TableId) (k : List ℕ) (o : Option Cells) → finite.get m t ≡ o → items_of (unset_cell m t k o) ≡ finite.remove (items_of m) (item_at t k)
unset_items m t k None none = sym (absent_removed item_total item_exact (items_of m) (item_at t k) (get_items m (item_at t k) ∙ ap (at_key k) none))
unset_items m t k (Some c) here = same_map item_total item_exact _ _ (λ q.
    changed_one m t k (finite.remove c k) None q (λ l. get-remove key_total c k l ∙ ap (λ o. cond (is_eq (key_cmp l k)) None (finite.get (or_none o) l)) (sym here)) ∙ sym (get-remove item_total (items_of m) (item_at t k) q))

-- ---- calls

pub none_of : {X : Type 0} (o : Option X) → is_some o ≡ false → o ≡ None
none_of None h = refl
none_of (Some x) h = cc

-- an item is set, also to null
pub first_put : (a b : Tables) (t : TableId) (k : List ℕ) (v : Value) (c : Cells) → finite.get a t ≡ None → c ≡ finite.insert finite.empty k v → b ≡ finite.insert a t c → b ≡ put_cell a t k v
first_put a b t k v c none same is = is ∙ ap (finite.insert a t) (same ∙ ap (λ o. finite.insert (or_none o) k v) (sym none))

pub one_put : (a b : Tables) (t : TableId) (k : List ℕ) (v : Value) (c d : Cells) (r : Result (Option Value) AllocError) → finite.get a t ≡ Some c → b ≡ finite.insert a t d → IfOk r (λ old. (old ≡ finite.get c k) × (d ≡ finite.insert c k v)) → IfOk r (λ old. (old ≡ at_key k (finite.get a t)) × (b ≡ put_cell a t k v))
one_put a b t k v c d (Ok o) here is h = (h.0 ∙ ap (at_key k) (sym here), is ∙ ap (finite.insert a t) (h.1 ∙ ap (λ o. finite.insert (or_none o) k v) (sym here)))
one_put a b t k v c d (Err e) here is h = tt

pub none_put : (a b : Tables) (t : TableId) (k : List ℕ) (c d : Cells) (r : Result (Option Value) AllocError) → finite.get a t ≡ Some c → b ≡ finite.insert a t d → OnErr r ((d ≡ c) × (finite.get c k ≡ None)) → OnErr r ((b ≡ a) × (at_key k (finite.get a t) ≡ None))
none_put a b t k c d (Ok u) here is h = tt
none_put a b t k c d (Err e) here is h = (is ∙ ap (finite.insert a t) h.0 ∙ same_set table_total table_exact a t c here, ap (at_key k) here ∙ h.1)

pub items_put : (a b : Tables) (m : FinMap item_cmp Value) (t : TableId) (k : List ℕ) (v : Value) (r : Result (Option Value) AllocError) → items_of a ≡ m → IfOk r (λ old. (old ≡ at_key k (finite.get a t)) × (b ≡ put_cell a t k v)) → IfOk r (λ old. (old ≡ finite.get m (item_at t k)) × (items_of b ≡ finite.insert m (item_at t k) v))
items_put a b m t k v (Ok o) is h = (h.0 ∙ sym (get_items a (item_at t k)) ∙ ap (λ n. finite.get n (item_at t k)) is, ap items_of h.1 ∙ put_items a t k v ∙ ap (λ n. finite.insert n (item_at t k) v) is)
items_put a b m t k v (Err e) is h = tt

pub items_same : (a b : Tables) (m : FinMap item_cmp Value) (t : TableId) (k : List ℕ) (r : Result (Option Value) AllocError) → items_of a ≡ m → OnErr r ((b ≡ a) × (at_key k (finite.get a t) ≡ None)) → OnErr r ((items_of b ≡ m) × (finite.get m (item_at t k) ≡ None))
items_same a b m t k (Ok u) is h = tt
items_same a b m t k (Err e) is h = (ap items_of h.0 ∙ is, ap (λ n. finite.get n (item_at t k)) (sym is) ∙ get_items a (item_at t k) ∙ h.1)

pub items_unset : (a b : Tables) (m : FinMap item_cmp Value) (t : TableId) (k : List ℕ) → items_of a ≡ m → b ≡ unset_cell a t k (finite.get a t) → items_of b ≡ finite.remove m (item_at t k)
items_unset a b m t k is h = ap items_of h ∙ unset_items a t k (finite.get a t) refl ∙ ap (λ n. finite.remove n (item_at t k)) is

-- an item that is set to what is not null
pub not_null : (m : FinMap item_cmp Value) (x : Item) (v : Value) → (v ≡ Value.Null → ⊥) → finite.insert m x v ≡ set_item m x v
not_null m x Value.Null h = absurd (h refl)
not_null m x (Value.Bool b) h = refl
not_null m x (Value.Int n) h = refl
not_null m x (Value.Text s) h = refl
not_null m x (Value.List vs) h = refl
not_null m x (Value.Rec fs) h = refl
