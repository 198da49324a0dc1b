-- What `remove` makes of the rows.
use Rattle.std.proofs.Common.{◌≡◌, ◌≢◌, inl, ◌∙◌, ap, sym, refl, subst, Bool, true, false, cond, ◌&&◌, if◌then◌else◌, None, Some, Ok, ℕ, List, [], ◌∷◌, ◌++◌, map}
use Rattle.std.specs.List.{AllByRecursion}
use Rattle.std.specs.List.Sorted.{IsPermutation}
use Rattle.std.proofs.lemmas.List.Sorted.{IsPermutation-sym}
use Rattle.std.specs.Ordering.{is_eq, nat_cmp}
use Rattle.std.specs.Cmp.{tied_itself}
use Rattle.std.specs.Cmp.Lexicographic.{slice_cmp, nat_list_cmp_total}
use Rattle.std.specs.FinMap.{get-insert, get-remove, same_map}
use Rattle.std.specs.FinMap as map
use Rattle.sqlite.specs.declared.types.Value.TheVariants.{Null, Int, Blob}
use Rattle.sqlite.specs.Order.{Row, column, bytes}
use Rattle.sqlite.specs.Ops.{binary, is_true}
use Rattle.sqlite.specs.Collation.TheVariants.{Binary}
use Rattle.sqlite_sql.specs.declared.ops.BinaryOp.TheVariants.{Compare}
use Rattle.sqlite_sql.specs.declared.ops.CompareOp.TheVariants.{Eq}
use Rattle.sqlite.specs.Tree.{Trees, rowid, without_rowid}
use Rattle.sqlite.specs.Edit.{edit_of}
use Rattle.sqlite.specs.Rowids.TheVariants.{Given}
use Rattle.sqlite.specs.Rows.{Written}
use Rattle.sqlite.specs.Does.{Tally, Does}
use Rattle.sqlite.specs.Effect.{Database}
use Rattle.sqlite.specs.Listing.{understood}
use Rattle.sqlite.specs.State.{State, mode_of, Executes}
use Rattle.sqlite.specs.Program.{overlay}
use Rattle.sqlite.specs.Query.{IsAnswerAs, Output, output}
use Rattle.sqlite.proofs.Callers.{statement_of, runs_as, one_step, one_permutation}
use Rattle.sqlite_rules.specs.Calls.{ids_of}
use Rattle.sqlite_rules.specs.Edit.{without_all}
use Rattle.sqlite_rules.specs.Lists.{Has}
use Rattle.beldi_blobs.specs.Texts.{beldi, one_table, remove_text}
use Rattle.beldi_blobs.specs.BlobCalls.{RemovesIn}
use Rattle.beldi_blobs.specs.BlobEntries.{Entries, IsTable, AreStored, IsStored, entries_of}
use Rattle.beldi_blobs.specs.Queries.{remove_command, remove_query, get_test}
use Rattle.beldi_blobs.proofs.Understood.{remove_is, remove_plain}
use Rattle.beldi_blobs.proofs.Operators.{equal_blobs}
use Rattle.beldi_blobs.proofs.BlobLists.{found_at, stored_without, all_at, all_from, entries_with, entry_there, without_one, has_entry, tied_keys, key_order, same_key}
use Rattle.beldi_blobs.proofs.Matches.{passes, matching, one_matches, none_match, kept_are, has_permuted}
use Rattle.beldi_blobs.proofs.Finding.{missing, key_of}
use Rattle.beldi_blobs.proofs.Changes.{other_ids, other_keys}
use Rattle.beldi_blobs.proofs.Putting.{went, same_value}

-- ---- over maps

hidden : {A : Type 0} (b : Bool) (x y : A) → (b ≡ true → x ≡ y) → x ≡ cond b y x
hidden true x y h = h refl
hidden false x y h = refl

uncovered : {A : Type 0} (b : Bool) (x y z : A) → (b ≡ true → z ≡ x) → cond b x (cond b y z) ≡ z
uncovered true x y z h = sym (h refl)
uncovered false x y z h = refl

-- a key without an entry
remove_absent : (m : Entries) (key : List ℕ) → map.get m key ≡ None → m ≡ map.remove m key
remove_absent m key none =
    same_map nat_list_cmp_total same_key _ _ (λ q.
    hidden (is_eq (key_order q key)) (map.get m q) None (λ t. ap (map.get m) (tied_keys q key t) ∙ none) ∙ sym (get-remove nat_list_cmp_total m key q))

-- an entry that was put at a new key
remove_put : (m : Entries) (key value : List ℕ) → map.get m key ≡ None → map.remove (map.insert m key value) key ≡ m
remove_put m key value none =
    same_map nat_list_cmp_total same_key _ _ (λ q.
    get-remove nat_list_cmp_total (map.insert m key value) key q
    ∙ ap (cond (is_eq (key_order q key)) None) (get-insert nat_list_cmp_total m key value q)
    ∙ uncovered (is_eq (key_order q key)) None (Some value) (map.get m q) (λ t. ap (map.get m) (tied_keys q key t) ∙ none))

-- ---- over rows

no_entry : (rows : List Row) (key : List ℕ) → AreStored rows → AllByRecursion (λ y. Blob key ≢ column y 1) rows → map.get (entries_of rows) key ≡ None
no_entry rows key all others = missing (map.get (entries_of rows) key) (λ value there.
    let h = has_entry rows key value there in
    all_at (λ y. Blob key ≢ column y 1) rows h.row others h.has (sym (key_of rows h.row key all h.has h.key_is)))

passes_key : (row : Row) (key : List ℕ) (s : IsStored row) → passes get_test (Blob key ∷ []) row ≡ is_eq (slice_cmp nat_cmp s.key key)
passes_key row key s = and_true _ ∙ ap (λ r. is_true (binary (Compare Eq Binary) (column r 1) (Blob key))) s.is ∙ equal_blobs s.key key
  where
    and_true : (b : Bool) → (b && true) ≡ b
    and_true true = refl
    and_true false = refl

own_key : (row : Row) (key : List ℕ) → IsStored row → column row 1 ≡ Blob key → passes get_test (Blob key ∷ []) row ≡ true
own_key row key s at =
    let same : s.key ≡ key = ap bytes (sym (ap (λ r. column r 1) s.is) ∙ at) in
    passes_key row key s ∙ ap (λ k. is_eq (slice_cmp nat_cmp k key)) same ∙ ap is_eq (tied_itself nat_list_cmp_total key)

other_key : (row : Row) (key : List ℕ) → IsStored row → Blob key ≢ column row 1 → passes get_test (Blob key ∷ []) row ≡ false
other_key row key s other =
    elim (passes get_test (Blob key ∷ []) row) as (λ b. passes get_test (Blob key ∷ []) row ≡ b → b ≡ false) [
      | true ↦ λ t. absurd (other (sym (ap (λ r. column r 1) s.is ∙ ap Blob (tied_keys s.key key (sym (passes_key row key s) ∙ t)))))
      | false ↦ λ t. refl
    ] refl

all_pass_not : (rows : List Row) (key : List ℕ) → AreStored rows → AllByRecursion (λ y. Blob key ≢ column y 1) rows → AllByRecursion (λ r. passes get_test (Blob key ∷ []) r ≡ false) rows
all_pass_not [] key all others = tt
all_pass_not (r ∷ rows) key all others = (other_key r key all.0 others.0, all_pass_not rows key all.2 others.1)

-- ---- the rowids that are found

none_permuted : {X : Type 0} (ys : List X) → IsPermutation [] ys → ys ≡ []
none_permuted [] same = refl
none_permuted (y ∷ ys) same = absurd (has_permuted (y ∷ ys) [] y (IsPermutation-sym [] (y ∷ ys) same) (inl refl))

pub record Removed (rows : List Row) (key : List ℕ) (all : List Row) : Type 0 where
  pub sound : AreStored all
  pub entries : entries_of all ≡ map.remove (entries_of rows) key

module _ (db : Trees) (key : List ℕ) (all : AreStored (db 0)) (found : List Row) (a : IsAnswerAs Null remove_query (overlay db []) (Blob key ∷ []) found) where
  -- no row has the key
  finds_none : AllByRecursion (λ y. Blob key ≢ column y 1) (db 0) → found ≡ []
  finds_none others =
      let kept : a.kept ≡ [] = kept_are get_test _ _ _ (Blob key ∷ []) (overlay db []) found Null a ∙ ap (map (output remove_query)) (none_match get_test (Blob key ∷ []) (db 0) (all_pass_not (db 0) key all others)) in
      a.shown ∙ ap (λ xs. map (λ (o : Output). o.1) xs) (none_permuted a.ordered (subst (λ k. IsPermutation k a.ordered) kept a.same))

  removes_none : AllByRecursion (λ y. Blob key ≢ column y 1) (db 0) → Removed (db 0) key (without_all (db 0) (ids_of found))
  removes_none others =
      subst (λ rs. Removed (db 0) key (without_all (db 0) (ids_of rs))) (sym (finds_none others)) (record {
        sound = all;
        entries = remove_absent (entries_of (db 0)) key (no_entry (db 0) key all others);
      })

  -- one row has it
  removes_row : (x : Row) → Has (db 0) x → column x 1 ≡ Blob key → Removed (db 0) key (without_all (db 0) (ids_of found))
  removes_row x has at =
      let p = found_at x (db 0) has in
      let s = stored_without p.front p.back x (subst AreStored p.is all) in
      let rest = p.front ++ p.back in
      let others = other_keys rest x key at s.apart in
      let o : Output = output remove_query ((Blob key ∷ []) ∷ x ∷ []) in
      let one : matching get_test (Blob key ∷ []) (db 0) ≡ ((Blob key ∷ []) ∷ x ∷ []) ∷ [] =
      ap (matching get_test (Blob key ∷ [])) p.is ∙ one_matches get_test (Blob key ∷ []) p.front p.back x (own_key x key s.is at) (all_pass_not rest key s.others others) in
      let kept : a.kept ≡ o ∷ [] = kept_are get_test _ _ _ (Blob key ∷ []) (overlay db []) found Null a ∙ ap (map (output remove_query)) one in
      let ordered = one_permutation o a.ordered (subst (λ k. IsPermutation k a.ordered) kept a.same) in
      let id_is : rowid x ≡ Int s.is.id = ap rowid s.is.is in
      let ids : found ≡ (Int s.is.id ∷ []) ∷ [] = a.shown ∙ ap (λ xs. map (λ (o : Output). o.1) xs) ordered ∙ ap (λ v. (v ∷ []) ∷ []) id_is in
      let left : without_rowid s.is.id (db 0) ≡ rest =
      ap (without_rowid s.is.id) p.is ∙ without_one p.front p.back s.is.id x id_is s.others (other_ids rest x s.is.id id_is s.apart) in
      let before : entries_of (db 0) ≡ map.insert (entries_of rest) key (bytes (column x 2)) =
      ap entries_of p.is ∙ entries_with p.front p.back x s ∙ ap (λ v. map.insert (entries_of rest) (bytes v) (bytes (column x 2))) at in
      subst (λ rs. Removed (db 0) key (without_all (db 0) (ids_of rs))) (sym ids) (record {
        sound = subst AreStored (sym left) s.others;
        entries = ap entries_of left ∙ sym (remove_put (entries_of rest) key (bytes (column x 2)) (no_entry rest key s.others others)) ∙ ap (λ m. map.remove m key) (sym before);
      })

  removes_found : Removed (db 0) key (without_all (db 0) (ids_of found))
  removes_found = elim (map.get (entries_of (db 0)) key) as (λ o. map.get (entries_of (db 0)) key ≡ o → Removed (db 0) key (without_all (db 0) (ids_of found))) [
    | None ↦ λ e. removes_none (all_from (λ y. Blob key ≢ column y 1) (db 0) (λ y has same. held y has same e))
    | Some value ↦ λ e. let h = has_entry (db 0) key value e in removes_row h.row h.has (key_of (db 0) h.row key all h.has h.key_is)
  ] refl
    where
      held : (y : Row) → Has (db 0) y → Blob key ≡ column y 1 → map.get (entries_of (db 0)) key ≡ None → ⊥
      held y has same e =
          let at : bytes (column y 1) ≡ key = ap bytes (sym same) in
          let there : Some (bytes (column y 2)) ≡ None = sym (ap (map.get (entries_of (db 0))) (sym at) ∙ entry_there (db 0) y all has) ∙ e in
          cc

-- ---- the statement

pub removes : (old new : State) (key : List ℕ) (count : ℕ) → IsTable old → Executes remove_text (Blob key ∷ []) old new (Ok count) → RemovesIn key old new
removes old new key count t h =
    let params : Row = Blob key ∷ [] in
    let db = old.now.trees in
    let w = runs_as remove_text params old new one_table t.schema remove_command remove_is remove_plain count h in
    let text = statement_of remove_text (understood one_table remove_text) in
    let done = went (subst (λ s. Does old.step_limit (mode_of old) params (record old.now { schema = s }) text None remove_command (Ok (w.tally, new.now))) t.schema w.changed) in
    let now = ap (λ (p : Tally × Database). p.1) (same_value (went (went done.2).2).2) in
    let found = went done.1 in
    let left = went found.2 in
    let edit = edit_of db beldi (ids_of found.0) Given 0 [] in
    let step = one_step one_table (mode_of old).keys db left.0 edit refl left.1 in
    let gone = removes_found db key t.rows found.0 (found.1.answer Null) in
    let rows : new.now.trees 0 ≡ without_all (db 0) (ids_of found.0) =
    ap (λ (d : Database). d.trees 0) now ∙ ap (λ (it : Written). it.trees 0) (same_value left.2) ∙ step.rows in
    record {
      table = record {
        schema = ap (λ (d : Database). d.schema) now;
        rows = subst AreStored (sym rows) gone.sound;
        autocommit = w.shown.mode ∙ t.autocommit;
        committed = w.shown.committed_is ∙ ap (λ b. if b then old.committed else new.now) t.autocommit;
      };
      entries = ap entries_of rows ∙ gone.entries;
    }
