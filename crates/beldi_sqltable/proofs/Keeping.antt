-- The number of rows and the keys of open intents, as a row is written.
use Rattle.std.specs.{BTreeMap.is_at, BTreeSet.BTreeSet, BTreeSet.contains, Cmp.Equal-is, Ordering.is_eq, FinMap.len-insert, FinMap.len-remove, FinMap.get-empty, FinMap.len-empty}
use Rattle.std.specs.FinMap as map
use Rattle.std.specs.Prelude.{IfSome}
use Rattle.std.proofs.lemmas.Cmp.{eq_by_cmp_equiv}
use Rattle.std.proofs.Common.{◌≡◌, ℕ, ◌+◌, ◌-◌, ◌<◌, Bool, true, false, not, ◌&&◌, ◌||◌, cond, Option, Some, None, Ok, is_some, IsTrue, refl, subst, ap, sym, ◌∙◌, if◌then◌else◌}
use Rattle.beldi_row.{specs.Key.RowKey, specs.Key.key_cmp, specs.KeyOrder.key_exact, specs.KeyOrder.key_total, specs.Table.Rows, specs.Table.is_open, specs.declared.row.Row.Row, specs.declared.table.TableErr.TableErr, proofs.Gets.got}
use Rattle.beldi_table.specs.Opened.{opened, Sets}
use Rattle.beldi_sqltable.specs.{StoreCounts.Lists, StoreCounts.Keeps, StoreCounts.Stood, Store.written, Store.without}

-- ---- the keys, through two changes of one key
turned : (k q : RowKey) → is_eq (key_cmp q k) ≡ is_at (key_cmp k) q
turned k q = (eq_by_cmp_equiv key_total).symm q k

is_it : (k q : RowKey) → is_at (key_cmp k) q ≡ true → k ≡ q
is_it k q h = key_exact k q ((Equal-is (key_cmp k q)).0 h)

-- the row at the key is this one now
set_to : (k : RowKey) (v : Option Row) (f g : Bool → Bool) (m : Rows) (s t u : BTreeSet RowKey) → Lists s m → Sets k f s t → Sets k g t u → g (f (opened k (map.get m k))) ≡ opened k v
    → (q : RowKey) → contains key_cmp u q ≡ opened q (cond (is_at (key_cmp k) q) v (map.get m q))
set_to k v f g m s t u h put took one q =
    took q ∙ ap (λ x. cond (is_at (key_cmp k) q) (g x) x) (put q)
    ∙ (elim (is_at (key_cmp k) q) as (λ b. is_at (key_cmp k) q ≡ b → cond b (g (cond b (f (contains key_cmp s q)) (contains key_cmp s q))) (cond b (f (contains key_cmp s q)) (contains key_cmp s q)) ≡ opened q (cond b v (map.get m q))) [
      | true ↦ λ e. ap (λ x. g (f x)) (h q) ∙ subst (λ p. g (f (opened p (map.get m p))) ≡ opened p v) (is_it k q e) one
      | false ↦ λ e. h q
    ]) refl

listed_put : (k : RowKey) (r : Row) (f g : Bool → Bool) (m : Rows) (s t u : BTreeSet RowKey) → Lists s m → Sets k f s t → Sets k g t u → g (f (opened k (map.get m k))) ≡ is_open k.kind r → Lists u (map.insert m k r)
listed_put k r f g m s t u h put took one q =
    set_to k (Some r) f g m s t u h put took one q ∙ sym (ap (opened q) (got m k q (Some r) ∙ ap (λ b. cond b (Some r) (map.get m q)) (turned k q)))

listed_still : (k : RowKey) (f g : Bool → Bool) (m : Rows) (s t u : BTreeSet RowKey) → Lists s m → Sets k f s t → Sets k g t u → g (f (opened k (map.get m k))) ≡ opened k (map.get m k) → Lists u m
listed_still k f g m s t u h put took one q =
    set_to k (map.get m k) f g m s t u h put took one q ∙ (elim (is_at (key_cmp k) q) as (λ b. is_at (key_cmp k) q ≡ b → opened q (cond b (map.get m k) (map.get m q)) ≡ opened q (map.get m q)) [
      | true ↦ λ e. ap (λ p. opened q (map.get m p)) (is_it k q e)
      | false ↦ λ e. refl
    ]) refl

-- ---- what is noted before the row is written, and forgotten after it
now_open : (opens was : Bool) → not (was && not opens) && ((opens && not was) || was) ≡ opens
now_open true true = refl
now_open true false = refl
now_open false true = refl
now_open false false = refl

still_open : (opens was : Bool) → not (opens && not was) && ((opens && not was) || was) ≡ was
still_open true true = refl
still_open true false = refl
still_open false true = refl
still_open false false = refl

one_more_row : (there new : Bool) (c n : ℕ) → new ≡ not there → c ≡ n → (if new then c + 1 else c) ≡ cond there n (n + 1)
one_more_row true new c n is h = ap (λ b. if b then c + 1 else c) is ∙ h
one_more_row false new c n is h = ap (λ b. if b then c + 1 else c) is ∙ ap (λ x. x + 1) h

kept_put : (k : RowKey) (r : Row) (opens was new known : Bool) (c : ℕ) (m : Rows) (s t u : BTreeSet RowKey) → opens ≡ is_open k.kind r → Stood k was new m → Keeps c s known m
    → Sets k (λ b. (opens && not was) || b) s t → Sets k (λ b. not (was && not opens) && b) t u → Keeps (if new then c + 1 else c) u known (map.insert m k r)
kept_put k r opens was new known c m s t u is stood h put took = record {
  counted = one_more_row (map.contains_key m k) new c (map.len m) stood.stood_new h.counted ∙ sym (len-insert key_total m k r);
  listed = listed_put k r (λ b. (opens && not was) || b) (λ b. not (was && not opens) && b) m s t u h.listed put took (ap (λ b. not (was && not opens) && ((opens && not was) || b)) (sym stood.stood_open) ∙ now_open opens was ∙ is);
  surveyed = h.surveyed;
}

kept_still : (k : RowKey) (opens was new known : Bool) (c : ℕ) (m : Rows) (s t u : BTreeSet RowKey) → Stood k was new m → Keeps c s known m
    → Sets k (λ b. (opens && not was) || b) s t → Sets k (λ b. not (opens && not was) && b) t u → Keeps c u known m
kept_still k opens was new known c m s t u stood h put took = record {
  counted = h.counted;
  listed = listed_still k (λ b. (opens && not was) || b) (λ b. not (opens && not was) && b) m s t u h.listed put took (ap (λ b. not (opens && not was) && ((opens && not was) || b)) (sym stood.stood_open) ∙ still_open opens was ∙ stood.stood_open);
  surveyed = h.surveyed;
}

-- ---- both, where rows may be told
pub told_put : (k : RowKey) (r : Row) (opens was new known w z : Bool) (c d : ℕ) (told after : Option Rows) (s t u : BTreeSet RowKey) → after ≡ written {E = TableErr} k r (Ok tt) told → d ≡ (if new then c + 1 else c)
    → opens ≡ is_open k.kind r → w ≡ opens && not was → z ≡ was && not opens → IfSome told (Stood k was new) → IfSome told (Keeps c s known) → Sets k (λ b. w || b) s t → Sets k (λ b. not z && b) t u → IfSome after (Keeps d u known)
told_put k r opens was new known w z c d None after s t u same more is wanted unwanted stood h put took = subst (λ o. IfSome o (Keeps d u known)) (sym same) tt
told_put k r opens was new known w z c d (Some m) after s t u same more is wanted unwanted stood h put took =
    subst (λ o. IfSome o (Keeps d u known)) (sym same) (subst (λ n. Keeps n u known (map.insert m k r)) (sym more)
    (kept_put k r opens was new known c m s t u is stood h (subst (λ x. Sets k (λ b. x || b) s t) wanted put) (subst (λ x. Sets k (λ b. not x && b) t u) unwanted took)))

pub told_still : (k : RowKey) (opens was new known w z : Bool) (c : ℕ) (told after : Option Rows) (s t u : BTreeSet RowKey) → after ≡ told → w ≡ opens && not was → z ≡ opens && not was
    → IfSome told (Stood k was new) → IfSome told (Keeps c s known) → Sets k (λ b. w || b) s t → Sets k (λ b. not z && b) t u → IfSome after (Keeps c u known)
told_still k opens was new known w z c None after s t u same wanted unwanted stood h put took = subst (λ o. IfSome o (Keeps c u known)) (sym same) tt
told_still k opens was new known w z c (Some m) after s t u same wanted unwanted stood h put took =
    subst (λ o. IfSome o (Keeps c u known)) (sym same)
    (kept_still k opens was new known c m s t u stood h (subst (λ x. Sets k (λ b. x || b) s t) wanted put) (subst (λ x. Sets k (λ b. not x && b) t u) unwanted took))

-- a row goes, and its key with it
listed_gone : (k : RowKey) (m : Rows) (s t : BTreeSet RowKey) → Lists s m → Sets k (λ b. false && b) s t → Lists t (map.remove m k)
listed_gone k m s t h took q =
    took q
    ∙ (elim (is_at (key_cmp k) q) as (λ b. cond b false (contains key_cmp s q) ≡ opened q (cond b None (map.get m q))) [
      | true ↦ refl
      | false ↦ h q
    ])
    ∙ sym (ap (opened q) (got m k q None ∙ ap (λ b. cond b None (map.get m q)) (turned k q)))

kept_gone : (k : RowKey) (known : Bool) (c : ℕ) (m : Rows) (s t : BTreeSet RowKey) → map.contains_key m k ≡ true → Keeps c s known m → Sets k (λ b. false && b) s t → Keeps (c - 1) t known (map.remove m k)
kept_gone k known c m s t there h took = record {
  counted = ap (λ n. n - 1) h.counted ∙ sym (len-remove key_total m k ∙ ap (λ b. cond b (map.len m - 1) (map.len m)) there);
  listed = listed_gone k m s t h.listed took;
  surveyed = h.surveyed;
}

pub told_gone : (k : RowKey) (known : Bool) (c d : ℕ) (told after : Option Rows) (s t : BTreeSet RowKey) → after ≡ without {E = TableErr} k (Ok tt) told → d ≡ c - 1 → IfSome told (λ m. IsTrue (map.contains_key m k)) → IfSome told (Keeps c s known) → Sets k (λ b. false && b) s t → IfSome after (Keeps d t known)
told_gone k known c d None after s t same less there h took = subst (λ o. IfSome o (Keeps d t known)) (sym same) tt
told_gone k known c d (Some m) after s t same less there h took =
    subst (λ o. IfSome o (Keeps d t known)) (sym same) (subst (λ n. Keeps n t known (map.remove m k)) (sym less) (kept_gone k known c m s t there h took))

-- there are no rows, and no keys
pub kept_none : (s : BTreeSet RowKey) (told : Option Rows) → told ≡ Some map.empty → ((q : RowKey) → contains key_cmp s q ≡ false) → IfSome told (Keeps 0 s true)
kept_none s told is none = subst (λ o. IfSome o (Keeps 0 s true)) (sym is) (record {
  counted = sym (len-empty key_cmp Row);
  listed = λ q. none q ∙ sym (ap (opened q) (get-empty key_cmp q));
  surveyed = refl;
})

-- ---- what is kept is known
pub has_room : (c room : ℕ) (s : BTreeSet RowKey) (known : Bool) (told : Option Rows) → IfSome told (Keeps c s known) → c < room → IfSome told (λ m. map.len m < room)
has_room c room s known None h fits = tt
has_room c room s known (Some m) h fits = subst (λ n. n < room) h.counted fits

-- rows that are told are known
pub untold : (c : ℕ) (s : BTreeSet RowKey) (known : Bool) (told : Option Rows) → IfSome told (Keeps c s known) → known ≡ false → told ≡ None
untold c s known None h not_known = refl
untold c s known (Some m) h not_known = let clash : true ≡ false = sym h.surveyed ∙ not_known in cc

-- a row that is there
pub is_there : (k : RowKey) (r : Row) (told : Option Rows) → IfSome told (λ m. map.get m k ≡ Some r) → IfSome told (λ m. IsTrue (map.contains_key m k))
is_there k r None here = tt
is_there k r (Some m) here = ap is_some here

pub stood_there : (k : RowKey) (r : Row) (was : Bool) (told : Option Rows) → was ≡ is_open k.kind r → IfSome told (λ m. map.get m k ≡ Some r) → IfSome told (Stood k was false)
stood_there k r was None is here = tt
stood_there k r was (Some m) is here = record { stood_open = is ∙ ap (opened k) (sym here); stood_new = ap (λ o. not (is_some o)) (sym here) }
