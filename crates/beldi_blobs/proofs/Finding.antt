-- What `get` and `next` find.
use Rattle.std.proofs.Common.{◌≡◌, inl, ◌∙◌, ap, sym, refl, subst, subst₂, Bool, true, false, ◌&&◌, None, Some, Option, Ok, Err, ℕ, List, [], ◌∷◌, map, take, arith}
use Rattle.std.specs.Ordering.{is_eq, is_gt, is_lt, nat_cmp, ordering_reverse}
use Rattle.std.specs.declared.cmp.Ordering.{Ordering}
use Rattle.std.specs.declared.cmp.Ordering.TheVariants.{Less, Equal, Greater}
use Rattle.std.specs.Cmp.Lexicographic.{slice_cmp, nat_list_cmp_total}
use Rattle.std.specs.Cmp.{tied_itself}
use Rattle.std.specs.FinMap as map
use Rattle.sqlite.specs.declared.error.Error.TheVariants.{QueryReturnedNoRows}
use Rattle.sqlite.specs.declared.types.Value.TheVariants.{Null, Blob}
use Rattle.sqlite.specs.Order.{Row, column, bytes, value_cmp}
use Rattle.sqlite.specs.Ops.{binary, is_true}
use Rattle.sqlite.specs.Program.{overlay}
use Rattle.sqlite.specs.Query.{IsAnswerAs, Output, output}
use Rattle.sqlite.specs.Collation.TheVariants.{Binary}
use Rattle.sqlite_sql.specs.declared.ops.BinaryOp.TheVariants.{Compare}
use Rattle.sqlite_sql.specs.declared.ops.CompareOp.TheVariants.{Eq, Gt}
use Rattle.sqlite.specs.State.{State, QueriesRow}
use Rattle.sqlite.proofs.Callers.{first_as, reads_as, IsPlain, command_of}
use Rattle.sqlite_rules.specs.Lists.{Has}
use Rattle.beldi_blobs.specs.Texts.{one_table, get_text, next_text}
use Rattle.beldi_blobs.specs.BlobCalls.{Finds, FindsAbove}
use Rattle.beldi_blobs.specs.BlobEntries.{IsTable, AreStored, rows_in, entries_in}
use Rattle.beldi_blobs.specs.Queries.{get_command, next_command, get_query, next_query, get_test, next_test}
use Rattle.beldi_blobs.proofs.Understood.{get_is, get_plain, next_is, next_plain}
use Rattle.beldi_blobs.proofs.Operators.{equal_blobs, blob_above}
use Rattle.beldi_blobs.proofs.BlobLists.{stored_at, entry_there, has_entry, tied_keys}
use Rattle.beldi_blobs.proofs.Matches.{passes, from_row, to_row, in_map, of_all}
use Rattle.beldi_blobs.proofs.Leaves.{none_shown}
use Rattle.sqlite.specs.Listing.{understood}
use Rattle.sqlite.specs.Effect.{is_query}
use Rattle.std.specs.List.{AllByRecursion}
use Rattle.std.specs.List.Sorted.{IsSortedBy}
use Rattle.std.proofs.lemmas.List.Sorted.{sorted_far, ranks_by}
use Rattle.std.proofs.lemmas.List.Elements.{recursion_from_All}
use Rattle.sqlite_value.proofs.OrderLemmas.{value_cmp_total, value_cmp-Blob, then-Equal}

alone : (b : Bool) → (b && true) ≡ true → b ≡ true
alone true e = refl
alone false e = e

get_answer : (old : State) (key : List ℕ) (row : Row) (tail : List Row) → IsTable old → IsAnswerAs Null get_query (overlay old.now.trees []) (Blob key ∷ []) (row ∷ tail) → Finds old key (Some row)
get_answer old key row tail t a =
    let m = in_map (λ (o : Output). o.1) a.ordered row (subst (λ xs. Has xs row) a.shown (inl refl)) in
    let f = from_row _ _ _ _ _ _ _ _ a m.of m.has in
    let s = stored_at (rows_in old) f.0 t.rows f.1 in
    let passed : is_true (binary (Compare Eq Binary) (column f.0 1) (Blob key)) ≡ true = alone _ f.2 in
    let same : s.key ≡ key = tied_keys s.key key (sym (equal_blobs s.key key) ∙ ap (λ r. is_true (binary (Compare Eq Binary) (column r 1) (Blob key))) (sym s.is) ∙ passed) in (
      s.value,
      m.is ∙ ap (λ (o : Output). o.1) f.3 ∙ ap (λ r. column r 2 ∷ []) s.is,
      ap (map.get (entries_in old)) (sym same) ∙ ap (λ r. map.get (entries_in old) (bytes (column r 1))) (sym s.is) ∙ entry_there (rows_in old) f.0 t.rows f.1 ∙ ap (λ r. Some (bytes (column r 2))) s.is,
    )

pub gets : (old new : State) (key : List ℕ) (row : Row) → IsTable old → QueriesRow get_text (Blob key ∷ []) old new (Ok row) → Finds old key (Some row)
gets old new key row t h =
    let got = (first_as get_text (Blob key ∷ []) old new one_table t.schema get_command get_is.0 get_plain get_is.1 row h).1 in
    get_answer old key row got.0 t (got.1 Null)

-- nothing is shown
no_more : {X : Type 0} (f : X → Row) (xs : List X) → [] ≡ map f xs → xs ≡ []
no_more f [] e = refl
no_more f (x ∷ xs) e = absurd cc

pub missing : (m : Option (List ℕ)) → ((value : List ℕ) → m ≡ Some value → ⊥) → m ≡ None
missing None h = refl
missing (Some value) h = absurd (h value refl)

pub key_of : (rows : List Row) (row : Row) (key : List ℕ) → AreStored rows → Has rows row → bytes (column row 1) ≡ key → column row 1 ≡ Blob key
key_of rows row key all has e = let s = stored_at rows row all has in ap (λ r. column r 1) s.is ∙ ap Blob (sym (ap (λ r. bytes (column r 1)) s.is) ∙ e)

both : (b : Bool) → b ≡ true → (b && true) ≡ true
both true e = refl
both false e = e

get_none : (old : State) (key : List ℕ) → IsTable old → IsAnswerAs Null get_query (overlay old.now.trees []) (Blob key ∷ []) [] → map.get (entries_in old) key ≡ None
get_none old key t a = missing (map.get (entries_in old) key) (λ value there.
    let h = has_entry (rows_in old) key value there in
    let at : column h.row 1 ≡ Blob key = key_of (rows_in old) h.row key t.rows h.has h.key_is in
    let pass : passes get_test (Blob key ∷ []) h.row ≡ true = both _ (ap (λ v. is_true (binary (Compare Eq Binary) v (Blob key))) at ∙ equal_blobs key key ∙ ap is_eq (tied_itself nat_list_cmp_total key)) in
    subst (λ xs. Has xs (output get_query ((Blob key ∷ []) ∷ h.row ∷ []))) (no_more (λ (o : Output). o.1) a.ordered a.shown) (to_row get_test _ _ _ _ _ _ _ a h.row h.has pass))

-- ---- the next entry

greater : (r : Ordering) → is_gt r ≡ true → r ≡ Greater
greater Less e = absurd cc
greater Equal e = absurd cc
greater Greater e = refl

first_shown : (xs : List Output) (row : Row) (tail : List Row) → row ∷ tail ≡ take 1 (map (λ (o : Output). o.1) xs) → (o : Output) × (more : List Output) × (xs ≡ o ∷ more) × (row ≡ o.1)
first_shown [] row tail e = absurd cc
first_shown (o ∷ more) row tail e = (o, more, refl, cc)

not_below : (o : Output) (more : List Output) → IsSortedBy (λ (x y : Output). is_lt (value_cmp (column x.0 0) (column y.0 0))) (o ∷ more)
    → AllByRecursion (λ (x : Output). is_lt (value_cmp (column x.0 0) (column o.0 0)) ≡ false) (o ∷ more)
not_below o more up = recursion_from_All (λ (x : Output). is_lt (value_cmp (column x.0 0) (column o.0 0)) ≡ false) (o ∷ more) (λ j d within.
    sorted_far (λ (x y : Output). is_lt (value_cmp (column x.0 0) (column y.0 0))) (ranks_by value_cmp_total (λ (x : Output). column x.0 0)) (o ∷ more) up 0 j d (omega arith) within)

next_answer : (old : State) (key : List ℕ) (row : Row) (tail : List Row) → IsTable old → IsAnswerAs Null next_query (overlay old.now.trees []) (Blob key ∷ []) (row ∷ tail) → FindsAbove old key (Some row)
next_answer old key row tail t a =
    let one = first_shown a.ordered row tail a.shown in
    let f = from_row _ _ _ _ _ _ _ _ a one.0 (subst (λ xs. Has xs one.0) (sym one.2) (inl refl)) in
    let s = stored_at (rows_in old) f.0 t.rows f.1 in
    let passed : is_true (binary (Compare Gt Binary) (column f.0 1) (Blob key)) ≡ true = alone _ f.2 in
    let over : slice_cmp nat_cmp s.key key ≡ Greater = greater _ (sym (blob_above s.key key) ∙ ap (λ r. is_true (binary (Compare Gt Binary) (column r 1) (Blob key))) (sym s.is) ∙ passed) in (
      (s.key, s.value),
      one.3 ∙ ap (λ (o : Output). o.1) f.3 ∙ ap (λ r. column r 1 ∷ column r 2 ∷ []) s.is,
      (
        nat_list_cmp_total.antisymm key s.key ∙ ap ordering_reverse over,
        ap (λ r. map.get (entries_in old) (bytes (column r 1))) (sym s.is) ∙ entry_there (rows_in old) f.0 t.rows f.1 ∙ ap (λ r. Some (bytes (column r 2))) s.is,
        λ q above below. missing (map.get (entries_in old) q) (λ value there.
            let h = has_entry (rows_in old) q value there in
            let at : column h.row 1 ≡ Blob q = key_of (rows_in old) h.row q t.rows h.has h.key_is in
            let up : is_gt (slice_cmp nat_cmp q key) ≡ true = ap is_gt (nat_list_cmp_total.antisymm q key ∙ ap ordering_reverse above) in
            let pass : passes next_test (Blob key ∷ []) h.row ≡ true = both _ (ap (λ v. is_true (binary (Compare Gt Binary) v (Blob key))) at ∙ blob_above q key ∙ up) in
            let there = to_row next_test _ _ _ _ _ _ _ a h.row h.has pass in
            let rising : IsSortedBy (λ (x y : Output). is_lt (value_cmp (column x.0 0) (column y.0 0))) (one.0 ∷ one.1) = subst (IsSortedBy (λ (x y : Output). is_lt (value_cmp (column x.0 0) (column y.0 0)))) one.2 (λ k d low high. sym (ap is_lt (then-Equal _)) ∙ a.sorted k d low high) in
            let below_not = of_all (λ (x : Output). is_lt (value_cmp (column x.0 0) (column one.0.0 0)) ≡ false) (one.0 ∷ one.1) (output next_query ((Blob key ∷ []) ∷ h.row ∷ []))
            (not_below one.0 one.1 rising) (subst (λ xs. Has xs (output next_query ((Blob key ∷ []) ∷ h.row ∷ []))) one.2 there) in
            let first : column one.0.0 0 ≡ Blob s.key = ap (λ (o : Output). column o.0 0) f.3 ∙ ap (λ r. column r 1) s.is in
            let clash : is_lt (slice_cmp nat_cmp q s.key) ≡ false = sym (ap is_lt (value_cmp-Blob q s.key)) ∙ sym (ap is_lt (subst₂ (λ u v. value_cmp (column h.row 1) (column one.0.0 0) ≡ value_cmp u v) at first refl)) ∙ below_not in
            absurd (let e = sym (ap is_lt below) ∙ clash in cc)),
      ),
    )

pub nexts : (old new : State) (key : List ℕ) (row : Row) → IsTable old → QueriesRow next_text (Blob key ∷ []) old new (Ok row) → FindsAbove old key (Some row)
nexts old new key row t h =
    let got = (first_as next_text (Blob key ∷ []) old new one_table t.schema next_command next_is.0 next_plain next_is.1 row h).1 in
    next_answer old key row got.0 t (got.1 Null)

next_none : (old : State) (key q : List ℕ) → IsTable old → IsAnswerAs Null next_query (overlay old.now.trees []) (Blob key ∷ []) [] → slice_cmp nat_cmp key q ≡ Less → map.get (entries_in old) q ≡ None
next_none old key q t a above = missing (map.get (entries_in old) q) (λ value there.
    let h = has_entry (rows_in old) q value there in
    let at : column h.row 1 ≡ Blob q = key_of (rows_in old) h.row q t.rows h.has h.key_is in
    let up : is_gt (slice_cmp nat_cmp q key) ≡ true = ap is_gt (nat_list_cmp_total.antisymm q key ∙ ap ordering_reverse above) in
    let pass : passes next_test (Blob key ∷ []) h.row ≡ true = both _ (ap (λ v. is_true (binary (Compare Gt Binary) v (Blob key))) at ∙ blob_above q key ∙ up) in
    subst (λ xs. Has xs (output next_query ((Blob key ∷ []) ∷ h.row ∷ []))) (none_shown_at a.ordered a.shown) (to_row next_test _ _ _ _ _ _ _ a h.row h.has pass))
  where
    none_shown_at : (xs : List Output) → [] ≡ take 1 (map (λ (o : Output). o.1) xs) → xs ≡ []
    none_shown_at [] e = refl
    none_shown_at (x ∷ xs) e = absurd cc

pub gets_none : (old new : State) (key : List ℕ) → IsTable old → QueriesRow get_text (Blob key ∷ []) old new (Err QueryReturnedNoRows) → map.get (entries_in old) key ≡ None
gets_none old new key t h =
    let plain = subst (λ s. IsPlain (understood s get_text)) (sym t.schema) get_plain in
    let is = ap (λ s. is_query (command_of (understood s get_text))) t.schema ∙ ap is_query get_is.0 in
    let shown = none_shown get_text (Blob key ∷ []) old new plain is h in
    get_none old key t ((reads_as get_text (Blob key ∷ []) old new one_table t.schema get_command get_is.0 get_plain get_is.1 [] shown).answer Null)

pub nexts_none : (old new : State) (key : List ℕ) → IsTable old → QueriesRow next_text (Blob key ∷ []) old new (Err QueryReturnedNoRows)
    → (q : List ℕ) → slice_cmp nat_cmp key q ≡ Less → map.get (entries_in old) q ≡ None
nexts_none old new key t h q above =
    let plain = subst (λ s. IsPlain (understood s next_text)) (sym t.schema) next_plain in
    let is = ap (λ s. is_query (command_of (understood s next_text))) t.schema ∙ ap is_query next_is.0 in
    let shown = none_shown next_text (Blob key ∷ []) old new plain is h in
    next_none old key q t ((reads_as next_text (Blob key ∷ []) old new one_table t.schema next_command next_is.0 next_plain next_is.1 [] shown).answer Null) above
