-- Rows that are put into a list, and taken out of it.
use Rattle.std.proofs.Common.{◌≡◌, ◌≢◌, inl, inr, ◌∙◌, ap, sym, refl, subst, Bool, true, false, ℕ, ℤ, List, [], ◌∷◌, ◌++◌, ◌||◌, not, cond, Some, map}
use Rattle.std.specs.Ordering.{is_eq, nat_cmp, int_cmp, match_ordering}
use Rattle.std.specs.declared.cmp.Ordering.{Ordering}
use Rattle.std.specs.declared.cmp.Ordering.TheVariants.{Less, Equal, Greater}
use Rattle.std.specs.List.{AllByRecursion}
use Rattle.std.specs.Cmp.{tied_itself}
use Rattle.std.specs.Cmp.Lexicographic.{slice_cmp, nat_list_cmp_total}
use Rattle.std.specs.FinMap.{find, get-from_entries, get-insert, same_map, slice_cmp-IsAntisymmetric, nat_cmp-IsAntisymmetric, int_cmp-IsAntisymmetric, IsAntisymmetric}
use Rattle.std.specs.FinMap as map
use Rattle.sqlite.specs.declared.types.Value.TheVariants.{Int, Blob}
use Rattle.sqlite.specs.Order.{Row, value_cmp, column, bytes}
use Rattle.sqlite.specs.Tree.{rowid, put_row, has_rowid, without_rowid}
use Rattle.sqlite.specs.Edit.{is_taken}
use Rattle.sqlite_rules.specs.Lists.{Has}
use Rattle.sqlite_value.proofs.OrderLemmas.{value_cmp-Int, value_cmp_total}
use Rattle.beldi_blobs.specs.BlobEntries.{AreStored, AreApart, IsStored, entry_of, entries_of, Entries}

pub record IsPut (new : Row) (rows all : List Row) : Type 0 where
  pub front : List Row
  pub back : List Row
  pub before : rows ≡ front ++ back
  pub after : all ≡ front ++ new ∷ back

-- a row whose rowid is not taken goes in somewhere
pub placed : (new : Row) (rows : List Row) → is_taken rows new ≡ false → IsPut new rows (put_row new rows)
placed new [] h = record { front = []; back = []; before = refl; after = refl }
placed new (r ∷ rows) h =
    elim (value_cmp (rowid r) (rowid new)) as (λ o. (is_eq o || is_taken rows new) ≡ false → IsPut new (r ∷ rows) (match_ordering o (r ∷ put_row new rows) (new ∷ rows) (new ∷ r ∷ rows))) [
      | Less ↦ λ e. let p = placed new rows e in record { front = r ∷ p.front; back = p.back; before = ap (λ xs. r ∷ xs) p.before; after = ap (λ xs. r ∷ xs) p.after }
      | Equal ↦ λ e. absurd cc
      | Greater ↦ λ e. record { front = []; back = r ∷ rows; before = refl; after = refl }
    ] h

pub record IsAt (row : Row) (rows : List Row) : Type 0 where
  pub front : List Row
  pub back : List Row
  pub is : rows ≡ front ++ row ∷ back

pub found_at : (row : Row) (rows : List Row) → Has rows row → IsAt row rows
found_at row [] h = absurd h
found_at row (r ∷ rows) (inl e) = record { front = []; back = rows; is = ap (λ x. x ∷ rows) (sym e) }
found_at row (r ∷ rows) (inr h) = let p = found_at row rows h in record { front = r ∷ p.front; back = p.back; is = ap (λ xs. r ∷ xs) p.is }

-- ---- what holds of all rows, with one row more or less

pub all_with : (P : Row → Type 0) (front back : List Row) (x : Row) → AllByRecursion P (front ++ back) → P x → AllByRecursion P (front ++ x ∷ back)
all_with P [] back x all p = (p, all)
all_with P (y ∷ front) back x all p = (all.0, all_with P front back x all.1 p)

pub all_without : (P : Row → Type 0) (front back : List Row) (x : Row) → AllByRecursion P (front ++ x ∷ back) → AllByRecursion P (front ++ back)
all_without P [] back x all = all.1
all_without P (y ∷ front) back x all = (all.0, all_without P front back x all.1)

pub one_of_all : (P : Row → Type 0) (front back : List Row) (x : Row) → AllByRecursion P (front ++ x ∷ back) → P x
one_of_all P [] back x all = all.0
one_of_all P (y ∷ front) back x all = one_of_all P front back x all.1

pub all_from : (P : Row → Type 0) (rows : List Row) → ((x : Row) → Has rows x → P x) → AllByRecursion P rows
all_from P [] h = tt
all_from P (r ∷ rows) h = (h r (inl refl), all_from P rows (λ x has. h x (inr has)))

pub all_at : (P : Row → Type 0) (rows : List Row) (x : Row) → AllByRecursion P rows → Has rows x → P x
all_at P [] x all h = absurd h
all_at P (r ∷ rows) x all (inl e) = subst P (sym e) all.0
all_at P (r ∷ rows) x all (inr h) = all_at P rows x all.1 h

apart_back : (a b : Row) → AreApart a b → AreApart b a
apart_back a b h = (λ e. h.0 (sym e), λ e. h.1 (sym e))

pub stored_with : (front back : List Row) (x : Row) → AreStored (front ++ back) → IsStored x → AllByRecursion (AreApart x) (front ++ back) → AreStored (front ++ x ∷ back)
stored_with [] back x all is apart = (is, apart, all)
stored_with (y ∷ front) back x all is apart = (all.0, all_with (AreApart y) front back x all.1 (apart_back x y apart.0), stored_with front back x all.2 is apart.1)

pub record Splits (front back : List Row) (x : Row) : Type 0 where
  pub others : AreStored (front ++ back)
  pub is : IsStored x
  pub apart : AllByRecursion (AreApart x) (front ++ back)

pub stored_without : (front back : List Row) (x : Row) → AreStored (front ++ x ∷ back) → Splits front back x
stored_without [] back x all = record { others = all.2; is = all.0; apart = all.1 }
stored_without (y ∷ front) back x all =
    let s = stored_without front back x all.2 in
    record {
      others = (all.0, all_without (AreApart y) front back x all.1, s.others);
      is = s.is;
      apart = (apart_back y x (one_of_all (AreApart y) front back x all.1), s.apart);
    }

pub stored_at : (rows : List Row) (x : Row) → AreStored rows → Has rows x → IsStored x
stored_at [] x all h = absurd h
stored_at (r ∷ rows) x all (inl e) = subst IsStored (sym e) all.0
stored_at (r ∷ rows) x all (inr h) = stored_at rows x all.2 h

-- ---- the entries

abbrev pub key_order : List ℕ → List ℕ → Ordering
key_order = slice_cmp nat_cmp

pub same_key : IsAntisymmetric key_order
same_key = slice_cmp-IsAntisymmetric nat_cmp-IsAntisymmetric

tied : (r : Ordering) → is_eq r ≡ true → r ≡ Equal
tied Less e = absurd cc
tied Equal e = refl
tied Greater e = absurd cc

pub tied_keys : (a b : List ℕ) → is_eq (key_order a b) ≡ true → a ≡ b
tied_keys a b e = same_key a b (tied _ e)

swapped : {A : Type 0} (a b : Bool) (x y z : A) → ¬ ((a ≡ true) × (b ≡ true)) → cond a x (cond b y z) ≡ cond b y (cond a x z)
swapped true true x y z apart = absurd (apart (refl, refl))
swapped true false x y z apart = refl
swapped false b x y z apart = refl

-- a row more is an entry more, where no other row has its key
find_with : (front back : List Row) (x : Row) (q : List ℕ) → AllByRecursion (λ y. bytes (column x 1) ≢ bytes (column y 1)) (front ++ back)
    → find key_order q (map entry_of (front ++ x ∷ back)) ≡ cond (is_eq (key_order q (bytes (column x 1)))) (Some (bytes (column x 2))) (find key_order q (map entry_of (front ++ back)))
find_with [] back x q apart = refl
find_with (y ∷ front) back x q apart =
    ap (cond (is_eq (key_order q (bytes (column y 1)))) (Some (bytes (column y 2)))) (find_with front back x q apart.1)
    ∙ swapped (is_eq (key_order q (bytes (column y 1)))) (is_eq (key_order q (bytes (column x 1)))) _ _ _ (λ both. apart.0 (sym (tied_keys q _ both.1) ∙ tied_keys q _ both.0))

blob_keys : (x : Row) (rows : List Row) → IsStored x → AreStored rows → AllByRecursion (AreApart x) rows → AllByRecursion (λ y. bytes (column x 1) ≢ bytes (column y 1)) rows
blob_keys x [] is all apart = tt
blob_keys x (y ∷ rows) is all apart =
    (λ e. apart.0.1 (ap (λ r. column r 1) is.is ∙ ap Blob (sym (ap (λ r. bytes (column r 1)) is.is) ∙ e ∙ ap (λ r. bytes (column r 1)) all.0.is) ∙ sym (ap (λ r. column r 1) all.0.is)), blob_keys x rows is all.2 apart.1)

pub entries_with : (front back : List Row) (x : Row) → Splits front back x → entries_of (front ++ x ∷ back) ≡ map.insert (entries_of (front ++ back)) (bytes (column x 1)) (bytes (column x 2))
entries_with front back x s =
    same_map nat_list_cmp_total same_key _ _ (λ q.
    get-from_entries nat_list_cmp_total (map entry_of (front ++ x ∷ back)) q
    ∙ find_with front back x q (blob_keys x (front ++ back) s.is s.others s.apart)
    ∙ sym (get-insert nat_list_cmp_total (entries_of (front ++ back)) (bytes (column x 1)) (bytes (column x 2)) q
    ∙ ap (cond (is_eq (key_order q (bytes (column x 1)))) (Some (bytes (column x 2)))) (get-from_entries nat_list_cmp_total (map entry_of (front ++ back)) q)))

pub insert_twice : (m : Entries) (key first second : List ℕ) → map.insert (map.insert m key first) key second ≡ map.insert m key second
insert_twice m key first second =
    same_map nat_list_cmp_total same_key _ _ (λ q.
    get-insert nat_list_cmp_total (map.insert m key first) key second q
    ∙ ap (cond (is_eq (key_order q key)) (Some second)) (get-insert nat_list_cmp_total m key first q)
    ∙ shadowed (is_eq (key_order q key)) _ _ _
    ∙ sym (get-insert nat_list_cmp_total m key second q))
  where
    shadowed : {A : Type 0} (b : Bool) (x y z : A) → cond b x (cond b y z) ≡ cond b x z
    shadowed true x y z = refl
    shadowed false x y z = refl

-- ---- a row that is taken out by its rowid

pub same_id : (a b : ℤ) → is_eq (int_cmp a b) ≡ true → a ≡ b
same_id a b e = int_cmp-IsAntisymmetric a b (tied _ e)

pub other_id : (y : Row) (id : ℤ) → IsStored y → Int id ≢ rowid y → has_rowid id y ≡ false
other_id y id is apart =
    let at : rowid y ≡ Int is.id = ap rowid is.is in
    elim (has_rowid id y) as (λ b. has_rowid id y ≡ b → b ≡ false) [
      | true ↦ λ e. absurd (apart (sym (at ∙ ap Int (same_id is.id id (sym (ap is_eq (value_cmp-Int is.id id)) ∙ ap (λ v. is_eq (value_cmp v (Int id))) (sym at) ∙ e)))))
      | false ↦ λ e. refl
    ] refl

pub own_id : (x : Row) (id : ℤ) → rowid x ≡ Int id → has_rowid id x ≡ true
own_id x id at = ap (λ v. is_eq (value_cmp v (Int id))) at ∙ ap is_eq (tied_itself value_cmp_total (Int id))

none_of : (rows : List Row) (id : ℤ) → AreStored rows → AllByRecursion (λ y. Int id ≢ rowid y) rows → without_rowid id rows ≡ rows
none_of [] id all apart = refl
none_of (y ∷ rows) id all apart = ap (λ b. cond (not b) (y ∷ without_rowid id rows) (without_rowid id rows)) (other_id y id all.0 apart.0) ∙ ap (λ xs. y ∷ xs) (none_of rows id all.2 apart.1)

pub without_one : (front back : List Row) (id : ℤ) (x : Row) → rowid x ≡ Int id → AreStored (front ++ back) → AllByRecursion (λ y. Int id ≢ rowid y) (front ++ back)
    → without_rowid id (front ++ x ∷ back) ≡ front ++ back
without_one [] back id x at all apart = ap (λ b. cond (not b) (x ∷ without_rowid id back) (without_rowid id back)) (own_id x id at) ∙ none_of back id all apart
without_one (y ∷ front) back id x at all apart =
    ap (λ b. cond (not b) (y ∷ without_rowid id (front ++ x ∷ back)) (without_rowid id (front ++ x ∷ back))) (other_id y id all.0 apart.0)
    ∙ ap (λ xs. y ∷ xs) (without_one front back id x at all.2 apart.1)

-- ---- rows and entries

pub entry_there : (rows : List Row) (r : Row) → AreStored rows → Has rows r → map.get (entries_of rows) (bytes (column r 1)) ≡ Some (bytes (column r 2))
entry_there rows r all has =
    let p = found_at r rows has in
    let s = stored_without p.front p.back r (subst AreStored p.is all) in
    ap (λ xs. map.get (entries_of xs) (bytes (column r 1))) p.is
    ∙ ap (λ m. map.get m (bytes (column r 1))) (entries_with p.front p.back r s)
    ∙ get-insert nat_list_cmp_total (entries_of (p.front ++ p.back)) (bytes (column r 1)) (bytes (column r 2)) (bytes (column r 1))
    ∙ ap (λ o. cond (is_eq o) (Some (bytes (column r 2))) (map.get (entries_of (p.front ++ p.back)) (bytes (column r 1)))) (tied_itself nat_list_cmp_total (bytes (column r 1)))

pub record HasEntry (rows : List Row) (key value : List ℕ) : Type 0 where
  pub row : Row
  pub has : Has rows row
  pub key_is : bytes (column row 1) ≡ key
  pub value_is : bytes (column row 2) ≡ value

entry_found : (rows : List Row) (key value : List ℕ) → find key_order key (map entry_of rows) ≡ Some value → HasEntry rows key value
entry_found [] key value e = absurd cc
entry_found (r ∷ rows) key value e =
    elim (is_eq (key_order key (bytes (column r 1)))) as (λ b. is_eq (key_order key (bytes (column r 1))) ≡ b
    → cond b (Some (bytes (column r 2))) (find key_order key (map entry_of rows)) ≡ Some value → HasEntry (r ∷ rows) key value) [
      | true ↦ λ t is. record { row = r; has = inl refl; key_is = sym (tied_keys _ _ t); value_is = cc }
      | false ↦ λ t is. let h = entry_found rows key value is in record { row = h.row; has = inr h.has; key_is = h.key_is; value_is = h.value_is }
    ] refl e

pub has_entry : (rows : List Row) (key value : List ℕ) → map.get (entries_of rows) key ≡ Some value → HasEntry rows key value
has_entry rows key value e = entry_found rows key value (sym (get-from_entries nat_list_cmp_total (map entry_of rows) key) ∙ e)
