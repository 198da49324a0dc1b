-- Rows in bytes, through the calls of a map.
use Rattle.std.specs.{FinMap.get-insert, FinMap.get-remove, FinMap.get-empty, Cmp.Lexicographic.nat_list_cmp_total, Ordering.is_eq, Ordering.ordering_reverse, declared.alloc.Global.Global}
use Rattle.std.specs.declared.cmp.Ordering.{TheVariants.Less, TheVariants.Equal, TheVariants.Greater}
use Rattle.std.specs.FinMap as map
use Rattle.std.specs.Prelude.{IfSome, IfOk, option_map, Vec}
use Rattle.std.proofs.Common.{◌≡◌, ℕ, Bool, true, false, cond, List, Option, Some, None, Result, Ok, Err, refl, subst, ap, sym, ◌∙◌}
use Rattle.beldi_row.{specs.Key.RowKey, specs.Key.key_cmp, specs.KeyOrder.key_total, specs.KeyOrder.key_exact, specs.Table.Rows, specs.Table.IsNext, specs.Table.next_row, specs.declared.row.Row.Row, proofs.Least.next_row_least}
use Rattle.beldi_bytes.{specs.KeyBytes.key_bytes, specs.KeyBytes.bytes_cmp, specs.RowBytes.row_bytes, proofs.Ordered.are_ordered}
use Rattle.beldi_blobs.specs.{BlobEntries.Entries, BlobCalls.Tells, BlobCalls.Gets, BlobCalls.Puts, BlobCalls.Removes, BlobCalls.Nexts, BlobCalls.pair_of, declared.entry.Entry.Entry, declared.error.BlobErr.BlobErr}
use Rattle.beldi_blobs.specs.BlobCalls as blobs
use Rattle.beldi_sqltable.specs.{Store.Reads, Store.Stepped, Store.Steps, declared.store.StoreErr.StoreErr}
use Rattle.beldi_sqlrows.specs.Held.{Holds, Held, rows_told, same_row, same_rows, bytes_of}

-- ---- over a map that is told
holds_none : Holds map.empty map.empty
holds_none k = get-empty bytes_cmp (key_bytes k) ∙ sym (ap (option_map row_bytes) (get-empty key_cmp k))

in_bytes : (b : Bool) (r : Row) (x : Option Row) → cond b (Some (row_bytes r)) (option_map row_bytes x) ≡ option_map row_bytes (cond b (Some r) x)
in_bytes true r x = refl
in_bytes false r x = refl

holds_put : (m : Rows) (e : Entries) (k : RowKey) (r : Row) → Holds m e → Holds (map.insert m k r) (map.insert e (key_bytes k) (row_bytes r))
holds_put m e k r h q =
    get-insert nat_list_cmp_total e (key_bytes k) (row_bytes r) (key_bytes q)
    ∙ ap (λ o. cond (is_eq o) (Some (row_bytes r)) (map.get e (key_bytes q))) (are_ordered q k)
    ∙ ap (cond (is_eq (key_cmp q k)) (Some (row_bytes r))) (h q)
    ∙ in_bytes (is_eq (key_cmp q k)) r (map.get m q)
    ∙ sym (ap (option_map row_bytes) (get-insert key_total m k r q))

none_in_bytes : (b : Bool) (x : Option Row) → cond b None (option_map row_bytes x) ≡ option_map row_bytes (cond b None x)
none_in_bytes true x = refl
none_in_bytes false x = refl

holds_less : (m : Rows) (e : Entries) (k : RowKey) → Holds m e → Holds (map.remove m k) (map.remove e (key_bytes k))
holds_less m e k h q =
    get-remove nat_list_cmp_total e (key_bytes k) (key_bytes q)
    ∙ ap (λ o. cond (is_eq o) None (map.get e (key_bytes q))) (are_ordered q k)
    ∙ ap (cond (is_eq (key_cmp q k)) None) (h q)
    ∙ none_in_bytes (is_eq (key_cmp q k)) (map.get m q)
    ∙ sym (ap (option_map row_bytes) (get-remove key_total m k q))

-- the row after a key, of the bytes after its bytes
next_in : (m : Rows) (e : Entries) (k : RowKey) (o : Option (RowKey × Row)) → Holds m e → blobs.IsNext e (key_bytes k) (option_map bytes_of o) → IsNext m k o
next_in m e k None h is = λ q past. same_row (map.get m q) None (sym (h q) ∙ is (key_bytes q) (are_ordered k q ∙ past))
next_in m e k (Some x) h is = (
  sym (are_ordered k x.0) ∙ is.0,
  same_row (map.get m x.0) (Some x.1) (sym (h x.0) ∙ is.1),
  λ q past below. same_row (map.get m q) None (sym (h q) ∙ is.2 (key_bytes q) (are_ordered k q ∙ past) (are_ordered q x.0 ∙ below)),
)

some_none : {A : Type 0} (x : A) → Some x ≡ None → ⊥
some_none x h = cc

-- the same key, so the same row
one_row : (m : Rows) (x y : RowKey × Row) → x.0 ≡ y.0 → map.get m x.0 ≡ Some x.1 → map.get m y.0 ≡ Some y.1 → Some x ≡ Some y
one_row m x y key here there =
    let row : x.1 ≡ y.1 = (let both : Some x.1 ≡ Some y.1 = sym here ∙ ap (map.get m) key ∙ there in cc) in
    ap Some (λ i. (key i, row i))

-- no two rows are the next
pub one_next : (m : Rows) (k : RowKey) (a b : Option (RowKey × Row)) → IsNext m k a → IsNext m k b → a ≡ b
one_next m k None None h j = refl
one_next m k None (Some y) h j = absurd (some_none y.1 (sym j.1 ∙ h y.0 j.0))
one_next m k (Some x) None h j = absurd (some_none x.1 (sym h.1 ∙ j x.0 h.0))
one_next m k (Some x) (Some y) h j = elim (key_cmp x.0 y.0) as (λ o. key_cmp x.0 y.0 ≡ o → Some x ≡ Some y) [
  | Less ↦ λ e. absurd (some_none x.1 (sym h.1 ∙ j.2 x.0 h.0 e))
  | Equal ↦ λ e. one_row m x y (key_exact x.0 y.0 e) h.1 j.1
  | Greater ↦ λ e. absurd (some_none y.1 (sym j.1 ∙ h.2 y.0 j.0 (key_total.antisymm y.0 x.0 ∙ ap ordering_reverse e)))
] refl

-- ---- over a map that may be told
pub held_none : (a : Option Entries) → a ≡ Some map.empty → Held a
held_none a is = subst Held (sym is) (map.empty, holds_none)

pub held_same : (a b : Option Entries) → Held a → b ≡ a → Held b
held_same a b h same = subst Held (sym same) h

pub same_told : (a b : Option Entries) (h : Held a) (j : Held b) → b ≡ a → rows_told b j ≡ rows_told a h
same_told None None h j same = refl
same_told None (Some f) h j same = cc
same_told (Some d) None h j same = cc
same_told (Some d) (Some f) h j same = let one : f ≡ d = cc in ap Some (same_rows j.0 h.0 d (subst (Holds j.0) one j.1) h.1)

pub empty_told : (a : Option Entries) (h : Held a) → a ≡ Some map.empty → rows_told a h ≡ Some map.empty
empty_told a h is = sym (same_told a (Some map.empty) h (map.empty, holds_none) (sym is))

-- the entries were only read
pub got_same : (key : List ℕ) (a b : Option Entries) (r : Result (Option (Vec ℕ Global)) BlobErr) → Tells a b (λ m n. Gets key m n r) → b ≡ a
got_same key None b r h = h
got_same key (Some m) None r h = absurd h
got_same key (Some m) (Some n) r h = ap Some h.0

pub next_same : (key : List ℕ) (a b : Option Entries) (r : Result (Option Entry) BlobErr) → Tells a b (λ m n. Nexts key m n r) → b ≡ a
next_same key None b r h = h
next_same key (Some m) None r h = absurd h
next_same key (Some m) (Some n) r h = ap Some h.0

-- what was read
read_is : (k : RowKey) (a b : Option Entries) (h : Held a) (o : Option (Vec ℕ Global)) (r : Option Row) → Tells a b (λ m n. Gets (key_bytes k) m n (Ok o)) → option_map row_bytes r ≡ option_map (λ v. v.items) o
    → IfSome (rows_told a h) (λ m. r ≡ map.get m k)
read_is k None b h o r got is = tt
read_is k (Some e) None h o r got is = absurd got
read_is k (Some e) (Some f) h o r got is = same_row r (map.get h.0 k) (is ∙ got.1 ∙ h.1 k)

pub reads : (k : RowKey) (key : List ℕ) (a b : Option Entries) (h : Held a) (o : Option (Vec ℕ Global)) (res : Result (Option Row) StoreErr) → key ≡ key_bytes k → Tells a b (λ m n. Gets key m n (Ok o))
    → IfOk res (λ r. option_map row_bytes r ≡ option_map (λ v. v.items) o) → Reads k (rows_told a h) res
reads k key a b h o (Ok r) same got is = read_is k a b h o r (subst (λ q. Tells a b (λ m n. Gets q m n (Ok o))) same got) is
reads k key a b h o (Err e) same got is = tt

next_is : (k : RowKey) (a b : Option Entries) (h : Held a) (f : Option Entry) (o : Option (RowKey × Row)) → Tells a b (λ m n. Nexts (key_bytes k) m n (Ok f)) → option_map bytes_of o ≡ option_map pair_of f → Stepped k (rows_told a h) o
next_is k None b h f o got is = tt
next_is k (Some e) None h f o got is = absurd got
next_is k (Some e) (Some d) h f o got is =
    one_next h.0 k o (next_row h.0 k) (next_in h.0 e k o h.1 (subst (blobs.IsNext e (key_bytes k)) (sym is) got.1)) (next_row_least h.0 k)

pub steps : (k : RowKey) (key : List ℕ) (a b : Option Entries) (h : Held a) (f : Option Entry) (res : Result (Option (RowKey × Row)) StoreErr) → key ≡ key_bytes k → Tells a b (λ m n. Nexts key m n (Ok f))
    → IfOk res (λ o. option_map bytes_of o ≡ option_map pair_of f) → Steps k (rows_told a h) res
steps k key a b h f (Ok o) same got is = next_is k a b h f o (subst (λ q. Tells a b (λ m n. Nexts q m n (Ok f))) same got) is
steps k key a b h f (Err e) same got is = tt

-- what was written
puts : (k : RowKey) (r : Row) (key value : List ℕ) (a b : Option Entries) (res : Result Unit BlobErr) → key ≡ key_bytes k → value ≡ row_bytes r → Tells a b (λ m n. Puts key value m n res) → Tells a b (λ m n. Puts (key_bytes k) (row_bytes r) m n res)
puts k r key value a b res same bytes put = subst (λ q. Tells a b (λ m n. Puts q (row_bytes r) m n res)) same (subst (λ v. Tells a b (λ m n. Puts key v m n res)) bytes put)

held_put : (k : RowKey) (r : Row) (a b : Option Entries) (res : Result Unit BlobErr) → Held a → Tells a b (λ m n. Puts (key_bytes k) (row_bytes r) m n res) → Held b
held_put k r None b res h put = subst Held (sym put) tt
held_put k r (Some e) None res h put = absurd put
held_put k r (Some e) (Some f) (Ok u) h put = (map.insert h.0 k r, subst (Holds (map.insert h.0 k r)) (sym put) (holds_put h.0 e k r h.1))
held_put k r (Some e) (Some f) (Err why) h put = (h.0, subst (Holds h.0) (sym put) h.1)

pub held_then : (k : RowKey) (r : Row) (key value : List ℕ) (a b : Option Entries) (res : Result Unit BlobErr) → key ≡ key_bytes k → value ≡ row_bytes r → Held a → Tells a b (λ m n. Puts key value m n res) → Held b
held_then k r key value a b res same bytes h put = held_put k r a b res h (puts k r key value a b res same bytes put)

put_told : (k : RowKey) (r : Row) (a b : Option Entries) (h : Held a) (j : Held b) → Tells a b (λ m n. n ≡ map.insert m (key_bytes k) (row_bytes r)) → rows_told b j ≡ option_map (λ m. map.insert m k r) (rows_told a h)
put_told k r None None h j put = refl
put_told k r None (Some f) h j put = cc
put_told k r (Some e) None h j put = absurd put
put_told k r (Some e) (Some f) h j put = ap Some (same_rows j.0 (map.insert h.0 k r) f j.1 (subst (Holds (map.insert h.0 k r)) (sym put) (holds_put h.0 e k r h.1)))

pub told_then : (k : RowKey) (r : Row) (key value : List ℕ) (a b : Option Entries) (h : Held a) (j : Held b) → key ≡ key_bytes k → value ≡ row_bytes r → Tells a b (λ m n. n ≡ map.insert m key value)
    → rows_told b j ≡ option_map (λ m. map.insert m k r) (rows_told a h)
told_then k r key value a b h j same bytes put = put_told k r a b h j (puts k r key value a b (Ok tt) same bytes put)

-- what was removed
removes : (k : RowKey) (key : List ℕ) (a b : Option Entries) (res : Result Unit BlobErr) → key ≡ key_bytes k → Tells a b (λ m n. Removes key m n res) → Tells a b (λ m n. Removes (key_bytes k) m n res)
removes k key a b res same removed = subst (λ q. Tells a b (λ m n. Removes q m n res)) same removed

held_less : (k : RowKey) (a b : Option Entries) (res : Result Unit BlobErr) → Held a → Tells a b (λ m n. Removes (key_bytes k) m n res) → Held b
held_less k None b res h removed = subst Held (sym removed) tt
held_less k (Some e) None res h removed = absurd removed
held_less k (Some e) (Some f) (Ok u) h removed = (map.remove h.0 k, subst (Holds (map.remove h.0 k)) (sym removed) (holds_less h.0 e k h.1))
held_less k (Some e) (Some f) (Err why) h removed = (h.0, subst (Holds h.0) (sym removed) h.1)

pub held_without : (k : RowKey) (key : List ℕ) (a b : Option Entries) (res : Result Unit BlobErr) → key ≡ key_bytes k → Held a → Tells a b (λ m n. Removes key m n res) → Held b
held_without k key a b res same h removed = held_less k a b res h (removes k key a b res same removed)

less_told : (k : RowKey) (a b : Option Entries) (h : Held a) (j : Held b) → Tells a b (λ m n. n ≡ map.remove m (key_bytes k)) → rows_told b j ≡ option_map (λ m. map.remove m k) (rows_told a h)
less_told k None None h j removed = refl
less_told k None (Some f) h j removed = cc
less_told k (Some e) None h j removed = absurd removed
less_told k (Some e) (Some f) h j removed = ap Some (same_rows j.0 (map.remove h.0 k) f j.1 (subst (Holds (map.remove h.0 k)) (sym removed) (holds_less h.0 e k h.1)))

pub told_without : (k : RowKey) (key : List ℕ) (a b : Option Entries) (h : Held a) (j : Held b) → key ≡ key_bytes k → Tells a b (λ m n. n ≡ map.remove m key)
    → rows_told b j ≡ option_map (λ m. map.remove m k) (rows_told a h)
told_without k key a b h j same removed = less_told k a b h j (removes k key a b (Ok tt) same removed)

pub told_still : (a b : Option Entries) (h : Held a) (j : Held b) → Tells a b (λ m n. n ≡ m) → rows_told b j ≡ rows_told a h
told_still None b h j put = same_told None b h j put
told_still (Some m) None h j put = absurd put
told_still (Some m) (Some n) h j put = same_told (Some m) (Some n) h j (ap Some put)
