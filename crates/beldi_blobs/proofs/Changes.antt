-- What a row that is put in does to the entries.
use Rattle.std.proofs.Common.{◌≡◌, ◌≢◌, ◌∙◌, ap, sym, refl, subst, true, false, ◌||◌, ℤ, ℕ, List, [], ◌∷◌, ◌++◌}
use Rattle.std.specs.Ordering.{is_eq}
use Rattle.std.specs.List.{AllByRecursion}
use Rattle.std.specs.FinMap as map
use Rattle.std.specs.Cmp.{tied_itself}
use Rattle.sqlite.specs.declared.types.Value.TheVariants.{Int, Blob}
use Rattle.sqlite.specs.Order.{Row, column, value_cmp}
use Rattle.sqlite.specs.Tree.{rowid, put_row, without_rowid}
use Rattle.sqlite.specs.Edit.{is_taken}
use Rattle.sqlite_rules.specs.Lists.{Has}
use Rattle.sqlite_value.proofs.OrderLemmas.{value_cmp_total}
use Rattle.beldi_blobs.specs.BlobEntries.{AreStored, AreApart, stored, entries_of}
use Rattle.beldi_blobs.proofs.BlobLists.{placed, found_at, stored_with, stored_without, entries_with, insert_twice, without_one, Splits}

pub record Put (rows : List Row) (key value : List ℕ) (all : List Row) : Type 0 where
  pub sound : AreStored all
  pub entries : entries_of all ≡ map.insert (entries_of rows) key value

free_ids : (rows : List Row) (new : Row) → is_taken rows new ≡ false → AllByRecursion (λ y. rowid new ≢ rowid y) rows
free_ids [] new free = tt
free_ids (r ∷ rows) new free =
    elim (is_eq (value_cmp (rowid r) (rowid new))) as (λ b. is_eq (value_cmp (rowid r) (rowid new)) ≡ b → (b || is_taken rows new) ≡ false → AllByRecursion (λ y. rowid new ≢ rowid y) (r ∷ rows)) [
      | true ↦ λ e h. absurd cc
      | false ↦ λ e h. (λ same. absurd (let clash = sym (ap is_eq (tied_itself value_cmp_total (rowid new))) ∙ ap (λ v. is_eq (value_cmp v (rowid new))) same ∙ e in cc), free_ids rows new h)
    ] refl free

both_apart : (rows : List Row) (new : Row) → AllByRecursion (λ y. rowid new ≢ rowid y) rows → AllByRecursion (λ y. column new 1 ≢ column y 1) rows → AllByRecursion (AreApart new) rows
both_apart [] new ids keys = tt
both_apart (r ∷ rows) new ids keys = ((ids.0, keys.0), both_apart rows new ids.1 keys.1)

-- a row whose rowid and key are new
pub put_new : (rows : List Row) (id : ℤ) (key value : List ℕ) → AreStored rows → AllByRecursion (λ y. Blob key ≢ column y 1) rows → is_taken rows (stored id key value) ≡ false
    → Put rows key value (put_row (stored id key value) rows)
put_new rows id key value all keys free =
    let new = stored id key value in
    let p = placed new rows free in
    let s : Splits p.front p.back new = record {
      others = subst AreStored p.before all;
      is = record { id = id; key = key; value = value; is = refl };
      apart = subst (AllByRecursion (AreApart new)) p.before (both_apart rows new (free_ids rows new free) keys);
    } in
    record {
      sound = subst AreStored (sym p.after) (stored_with p.front p.back new s.others s.is s.apart);
      entries = ap entries_of p.after ∙ entries_with p.front p.back new s ∙ ap (λ xs. map.insert (entries_of xs) key value) (sym p.before);
    }

pub other_keys : (rows : List Row) (x : Row) (key : List ℕ) → column x 1 ≡ Blob key → AllByRecursion (AreApart x) rows → AllByRecursion (λ y. Blob key ≢ column y 1) rows
other_keys [] x key at apart = tt
other_keys (r ∷ rows) x key at apart = ((λ e. apart.0.1 (at ∙ e)), other_keys rows x key at apart.1)

pub other_ids : (rows : List Row) (x : Row) (id : ℤ) → rowid x ≡ Int id → AllByRecursion (AreApart x) rows → AllByRecursion (λ y. Int id ≢ rowid y) rows
other_ids [] x id at apart = tt
other_ids (r ∷ rows) x id at apart = ((λ e. apart.0.0 (at ∙ e)), other_ids rows x id at apart.1)

-- a row in place of one that has its rowid and its key
pub put_again : (rows : List Row) (x : Row) (id : ℤ) (key was value : List ℕ) → AreStored rows → Has rows x → x ≡ stored id key was
    → is_taken (without_rowid id rows) (stored id key value) ≡ false → Put rows key value (put_row (stored id key value) (without_rowid id rows))
put_again rows x id key was value all has is free =
    let p = found_at x rows has in
    let s = stored_without p.front p.back x (subst AreStored p.is all) in
    let left : without_rowid id rows ≡ p.front ++ p.back =
    ap (without_rowid id) p.is ∙ without_one p.front p.back id x (ap rowid is) s.others (other_ids (p.front ++ p.back) x id (ap rowid is) s.apart) in
    let new = stored id key value in
    let put = put_new (p.front ++ p.back) id key value s.others (other_keys (p.front ++ p.back) x key (ap (λ r. column r 1) is) s.apart) (subst (λ xs. is_taken xs new ≡ false) left free) in
    let before : entries_of rows ≡ map.insert (entries_of (p.front ++ p.back)) key was =
    ap entries_of p.is ∙ entries_with p.front p.back x s ∙ ap (λ r. map.insert (entries_of (p.front ++ p.back)) (Rattle.sqlite.specs.Order.bytes (column r 1)) (Rattle.sqlite.specs.Order.bytes (column r 2))) is in
    record {
      sound = subst (λ xs. AreStored (put_row new xs)) (sym left) put.sound;
      entries = ap (λ xs. entries_of (put_row new xs)) left ∙ put.entries ∙ sym (insert_twice (entries_of (p.front ++ p.back)) key was value) ∙ ap (λ m. map.insert m key value) (sym before);
    }
