-- What `put` makes of the rows.
use Rattle.std.proofs.Common.{◌≡◌, ◌≢◌, ◌⊎◌, inl, inr, ◌∙◌, ap, ap₂, sym, refl, subst, Bool, true, false, ◌||◌, ◌&&◌, not, cond, if◌then◌else◌, None, Some, Option, Ok, Err, Result, ℤ, ℕ, List, [], ◌∷◌, ◌++◌, map}
use Rattle.std.specs.List.{AllByRecursion}
use Rattle.std.specs.Ordering.{is_eq, nat_cmp}
use Rattle.std.specs.Cmp.{tied_itself}
use Rattle.std.specs.Cmp.Lexicographic.{slice_cmp, nat_list_cmp_total}
use Rattle.sqlite.specs.Ops.{binary, is_true}
use Rattle.sqlite.specs.Collation.TheVariants.{Binary}
use Rattle.sqlite_sql.specs.declared.ops.BinaryOp.TheVariants.{Compare}
use Rattle.sqlite_sql.specs.declared.ops.CompareOp.TheVariants.{Eq}
use Rattle.sqlite_value.proofs.OrderLemmas.{value_cmp-Int}
use Rattle.sqlite_value.specs.Keys.{first_key}
use Rattle.sqlite_rules.specs.Keys.{conflicts, AreConflicts}
use Rattle.sqlite_schema.specs.declared.command.Conflict.TheVariants.{Abort}
use Rattle.sqlite.specs.declared.types.Value.{Value}
use Rattle.sqlite.specs.declared.types.Value.TheVariants.{Null, Int, Blob}
use Rattle.sqlite.specs.Order.{Row, column, bytes, value_cmp}
use Rattle.sqlite.specs.Ops.{unary}
use Rattle.sqlite.specs.Cast.{cast}
use Rattle.sqlite.specs.Kind.TheVariants.{Integer}
use Rattle.sqlite.specs.Tree.{Trees, rowid, put_row, has_rowid, without_rowid}
use Rattle.sqlite.specs.Edit.{edit_of, is_taken, next_rowid, with_rowid}
use Rattle.sqlite.specs.Rowids.TheVariants.{Chosen, Given}
use Rattle.sqlite.specs.Rows.{Task, Written, Then, Gives, Edited, Updates, Puts as PutsRow, count_of, Clears, Meets, Upserts, Tries, TriesEach, nothing}
use Rattle.sqlite.specs.Does.{Tally, Does}
use Rattle.sqlite.specs.Effect.{Database}
use Rattle.sqlite.specs.Listing.{understood}
use Rattle.sqlite.specs.State.{State, mode_of, Executes}
use Rattle.sqlite.proofs.Callers.{statement_of, runs_as, one_step, one_permutation}
use Rattle.sqlite_schema.specs.declared.schema.Keys.{Keys}
use Rattle.sqlite_schema.specs.declared.command.Upsert.{Upsert}
use Rattle.sqlite_rules.specs.Lists.{Has}
use Rattle.sqlite_rules.specs.Calls.{ids_of}
use Rattle.sqlite_schema.specs.declared.program.Program.{Program}
use Rattle.sqlite.specs.Program.{overlay}
use Rattle.sqlite.specs.Query.{IsAnswerAs, Output, output}
use Rattle.std.specs.List.Sorted.{IsPermutation}
use Rattle.beldi_blobs.proofs.Matches.{passes, matching, one_matches, kept_are}
use Rattle.beldi_blobs.proofs.Operators.{equal_ids, equal_blobs}
use Rattle.beldi_blobs.proofs.BlobLists.{found_at, stored_without, own_id, other_id, stored_at, all_from, tied_keys}
use Rattle.beldi_blobs.specs.Texts.{beldi, one_table, put_text}
use Rattle.beldi_blobs.specs.BlobCalls.{PutsIn}
use Rattle.beldi_blobs.specs.BlobEntries.{IsTable, AreStored, IsStored, stored, entries_of}
use Rattle.beldi_blobs.specs.Queries.{put_command, update_query, update_test}
use Rattle.beldi_blobs.proofs.Understood.{put_is, put_plain}
use Rattle.beldi_blobs.proofs.Changes.{Put, put_new, put_again, other_ids}

either : (b : Bool) (x : Value) → cond b x x ≡ x
either true x = refl
either false x = refl

cast_null : cast Integer Null ≡ Null
unfolding unary
cast_null = either _ Null

cast_int : (n : ℤ) → cast Integer (Int n) ≡ Int n
unfolding unary
cast_int n = either _ (Int n)

-- a part that gave a value did not stop on the way
pub went : {B E R : Type 0} {b : B} {Stops : E → Type 0} → ((stop : E) × Stops stop × (Ok b ≡ Err stop)) ⊎ R → R
went (inl stopped) = absurd (let e = stopped.2 in cc)
went (inr on) = on

pub same_value : {B E : Type 0} {a b : B} → ◌≡◌ {A = Result B E} (Ok a) (Ok b) → a ≡ b
same_value e = cc

abbrev task_of : Option ℕ → Keys → Row → Task
task_of limit keys params = record { limit = limit; keys = keys; schema = one_table; table = beldi; params = params }

untaken : (b : Bool) → (not b && true) ≡ true → b ≡ false
untaken true e = absurd cc
untaken false e = refl

cast_stored : (id : ℤ) (key value : List ℕ) → cast Integer (Int id) ∷ Blob key ∷ Blob value ∷ [] ≡ stored id key value
cast_stored id key value = ap (λ v. v ∷ Blob key ∷ Blob value ∷ []) (cast_int id)

-- a row goes in with its rowid
put_edit : (limit : Option ℕ) (keys : Keys) (params : Row) (db : Trees) (id : ℤ) (key value : List ℕ) (one : Written) → PutsRow (task_of limit keys params) (stored id key value) db (Ok one)
    → (is_taken (db 0) (stored id key value) ≡ false) × (one.trees 0 ≡ put_row (stored id key value) (db 0))
put_edit limit keys params db id key value one h =
    let p = went h in
    let edit = edit_of db beldi [] Given 0 (stored id key value ∷ []) in
    let step = one_step one_table keys db p.0 edit refl p.1 in (
      ap (is_taken (db 0)) (sym (cast_stored id key value)) ∙ untaken _ step.fresh,
      ap (λ (it : Written). it.trees 0) (same_value p.2) ∙ step.rows ∙ ap (λ r. put_row r (db 0)) (cast_stored id key value),
    )

abbrev update_program : Program
update_program = record { lets = []; body = update_query }

-- what the update reads: the two parameters, the rowid of the row that is there, and the row that was to be put
abbrev given_for : ℤ → ℤ → List ℕ → List ℕ → Row
given_for id fresh key value = Blob key ∷ Blob value ∷ Int id ∷ Int fresh ∷ Blob key ∷ Blob value ∷ []

and_true : (b : Bool) → (b && true) ≡ b
and_true true = refl
and_true false = refl

passes_id : (given row : Row) (id : ℤ) → column given 2 ≡ Int id → IsStored row → passes update_test given row ≡ has_rowid id row
passes_id given row id at is =
    let first : column row 0 ≡ Int is.id = ap rowid is.is in
    and_true _ ∙ ap₂ (λ u v. is_true (binary (Compare Eq Binary) u v)) first at ∙ equal_ids is.id id ∙ sym (ap is_eq (value_cmp-Int is.id id)) ∙ ap (λ v. is_eq (value_cmp v (Int id))) (sym first)

all_fail : (given : Row) (rows : List Row) (id : ℤ) → column given 2 ≡ Int id → AreStored rows → AllByRecursion (λ y. Int id ≢ rowid y) rows → AllByRecursion (λ r. passes update_test given r ≡ false) rows
all_fail given [] id at all apart = tt
all_fail given (r ∷ rows) id at all apart = (passes_id given r id at all.0 ∙ other_id r id all.0 apart.0, all_fail given rows id at all.2 apart.1)

updated_row : (db : Trees) (x : Row) (id fresh : ℤ) (key was value : List ℕ) (rows : List Row) → AreStored (db 0) → Has (db 0) x → x ≡ stored id key was
    → IsAnswerAs Null update_query (overlay db []) (given_for id fresh key value) rows → rows ≡ (Int id ∷ Int id ∷ Blob key ∷ Blob value ∷ []) ∷ []
updated_row db x id fresh key was value rows all has is a =
    let given = given_for id fresh key value in
    let p = found_at x (db 0) has in
    let s = stored_without p.front p.back x (subst AreStored p.is all) in
    let o : Output = output update_query (given ∷ x ∷ []) in
    let one : matching update_test given (db 0) ≡ (given ∷ x ∷ []) ∷ [] =
    ap (matching update_test given) p.is ∙ one_matches update_test given p.front p.back x (passes_id given x id refl s.is ∙ own_id x id (ap rowid is))
    (all_fail given (p.front ++ p.back) id refl s.others (other_ids (p.front ++ p.back) x id (ap rowid is) s.apart)) in
    let kept : a.kept ≡ o ∷ [] = kept_are update_test _ _ _ given (overlay db []) rows Null a ∙ ap (map (output update_query)) one in
    let ordered = one_permutation o a.ordered (subst (λ k. IsPermutation k a.ordered) kept a.same) in
    a.shown ∙ ap (λ xs. map (λ (o : Output). o.1) xs) ordered ∙ ap (λ r. (column r 0 ∷ column r 0 ∷ column r 1 ∷ Blob value ∷ []) ∷ []) is

update_edit : (limit : Option ℕ) (keys : Keys) (params : Row) (db : Trees) (x : Row) (id fresh : ℤ) (key was value : List ℕ) (one : Written) → AreStored (db 0) → Has (db 0) x → x ≡ stored id key was
    → Updates (task_of limit keys params) update_program (given_for id fresh key value) db (Ok one)
    → (is_taken (without_rowid id (db 0)) (stored id key value) ≡ false) × (one.trees 0 ≡ put_row (stored id key value) (without_rowid id (db 0)))
update_edit limit keys params db x id fresh key was value one all has is h =
    let p = went h in
    let rows = updated_row db x id fresh key was value p.0 all has is (p.1.answer Null) in
    let r = went (subst (λ (rs : List Row). Then (Edited one_table keys db (edit_of db beldi (ids_of rs) Given 1 rs)) (λ next. Gives (record { trees = next; rows = (edit_of db beldi (ids_of rs) Given 1 rs).news; last = None })) (Ok one)) rows p.2) in
    let edit = edit_of db beldi (id ∷ []) Given 1 ((Int id ∷ Int id ∷ Blob key ∷ Blob value ∷ []) ∷ []) in
    let step = one_step one_table keys db r.0 edit refl r.1 in (
      ap (is_taken (without_rowid id (db 0))) (sym (cast_stored id key value)) ∙ untaken _ step.fresh,
      ap (λ (it : Written). it.trees 0) (same_value r.2) ∙ step.rows ∙ ap (λ r. put_row r (without_rowid id (db 0))) (cast_stored id key value),
    )

-- ---- which row conflicts

and_or : (b : Bool) → ((b && true) || false) ≡ b
and_or true = refl
and_or false = refl

conflict_is : (id : ℤ) (key value : List ℕ) (i : ℤ) (k v : List ℕ) → conflicts (Some (1 ∷ [])) one_table.indexes beldi (stored id key value) (stored i k v) ≡ is_eq (slice_cmp nat_cmp k key)
unfolding first_key
conflict_is id key value i k v = and_or _ ∙ equal_blobs k key

conflicts_at : (row : Row) (id : ℤ) (key value : List ℕ) (s : IsStored row) → conflicts (Some (1 ∷ [])) one_table.indexes beldi (stored id key value) row ≡ is_eq (slice_cmp nat_cmp s.key key)
conflicts_at row id key value s = ap (conflicts (Some (1 ∷ [])) one_table.indexes beldi (stored id key value)) s.is ∙ conflict_is id key value s.id s.key s.value

abbrev the_clause : Upsert
the_clause = record { target = Some (1 ∷ []); update = Some update_program }

module _ (limit : Option ℕ) (keys : Keys) (db : Trees) (fresh : ℤ) (key value : List ℕ) (all : AreStored (db 0)) (one : Written) where
  abbrev task : Task
  task = task_of limit keys (Blob key ∷ Blob value ∷ [])

  abbrev new : Row
  new = stored fresh key value

  clears : (found : List Row) → Clears task Abort new db found (Ok one) → PutsRow task new db (Ok one)
  clears [] h = h
  clears (x ∷ more) h = h

  -- no row has the key
  no_key : AreConflicts (Some (1 ∷ [])) one_table.indexes beldi (db 0) new [] → AllByRecursion (λ y. Blob key ≢ column y 1) (db 0)
  no_key c = all_from (λ y. Blob key ≢ column y 1) (db 0) (λ y has same.
      let s = stored_at (db 0) y all has in
      let at : key ≡ s.key = ap bytes (same ∙ ap (λ r. column r 1) s.is) in
      c.complete y has (conflicts_at y fresh key value s ∙ ap (λ k. is_eq (slice_cmp nat_cmp k key)) (sym at) ∙ ap is_eq (tied_itself nat_list_cmp_total key)))

  put_upsert : (found : List Row) → AreConflicts (Some (1 ∷ [])) one_table.indexes beldi (db 0) new found
      → Meets task (Upserts task Abort new db []) new db the_clause found (Ok one) → Put (db 0) key value (one.trees 0)
  put_upsert [] c h =
      let e = put_edit limit keys (Blob key ∷ Blob value ∷ []) db fresh key value one (clears h.0 h.2) in
      subst (Put (db 0) key value) (sym e.1) (put_new (db 0) fresh key value all (no_key c) e.0)
  put_upsert (there ∷ more) c h =
      let f = c.sound there (inl refl) in
      let s = stored_at (db 0) f.0 all f.1 in
      let same : s.key ≡ key = tied_keys s.key key (sym (conflicts_at f.0 fresh key value s) ∙ f.2) in
      let is : f.0 ≡ stored s.id key s.value = s.is ∙ ap (λ k. stored s.id k s.value) same in
      let at : rowid there ≡ Int s.id = ap rowid f.3 ∙ ap rowid s.is in
      let e = update_edit limit keys (Blob key ∷ Blob value ∷ []) db f.0 s.id fresh key s.value value one all f.1 is
      (subst (λ v. Updates task update_program (Blob key ∷ Blob value ∷ v ∷ Int fresh ∷ Blob key ∷ Blob value ∷ []) db (Ok one)) at h) in
      subst (Put (db 0) key value) (sym e.1) (put_again (db 0) f.0 s.id key s.value value all f.1 is e.0)

  put_tries : Tries task Abort (the_clause ∷ []) new db (Ok one) → Put (db 0) key value (one.trees 0)
  put_tries (inl h) = absurd (let e = h.1 in cc)
  put_tries (inr (None, judged, h)) = put_upsert h.0 h.1 h.2
  put_tries (inr (Some why, judged, h)) = absurd (let e = h in cc)

-- ---- the statement

put_each : (limit : Option ℕ) (keys : Keys) (db : Trees) (key value : List ℕ) (all : AreStored (db 0)) (top : ℤ) (done : Written × ℤ)
    → TriesEach (task_of limit keys (Blob key ∷ Blob value ∷ [])) Abort (the_clause ∷ []) ((Null ∷ Blob key ∷ Blob value ∷ []) ∷ []) top (nothing db) (Ok done) → Put (db 0) key value (done.0.trees 0)
put_each limit keys db key value all top done h =
    let one = went h in
    let fresh = next_rowid (db 0) in
    let row : with_rowid Chosen (db 0) (cast Integer Null ∷ Blob key ∷ Blob value ∷ []) ≡ stored fresh key value = ap (λ v. with_rowid Chosen (db 0) (v ∷ Blob key ∷ Blob value ∷ [])) cast_null in
    let tried = subst (λ r. Tries (task_of limit keys (Blob key ∷ Blob value ∷ [])) Abort (the_clause ∷ []) r db (Ok one.0)) row one.1 in
    subst (Put (db 0) key value) (sym (ap (λ (d : Written × ℤ). d.0.trees 0) (same_value one.2))) (put_tries limit keys db fresh key value all one.0 tried)

pub puts : (old new : State) (key value : List ℕ) (count : ℕ) → IsTable old → Executes put_text (Blob key ∷ Blob value ∷ []) old new (Ok count) → PutsIn key value old new
puts old new key value count t h =
    let params : Row = Blob key ∷ Blob value ∷ [] in
    let db = old.now.trees in
    let w = runs_as put_text params old new one_table t.schema put_command put_is put_plain count h in
    let text = statement_of put_text (understood one_table put_text) in
    let done = went (subst (λ s. Does old.step_limit (mode_of old) params (record old.now { schema = s }) text None put_command (Ok (w.tally, new.now))) t.schema w.changed) in
    let now = ap (λ (p : Tally × Database). p.1) (same_value (went (went done.2).2).2) in
    let given = went done.1 in
    let counter = went given.2 in
    let tried = went counter.2 in
    let counted = went tried.2 in
    let each = subst (λ (rs : List Row). TriesEach (task_of old.step_limit (mode_of old).keys params) Abort (the_clause ∷ []) rs (count_of counter.0) (nothing db) (Ok tried.0)) given.1.1 tried.1 in
    let put = put_each old.step_limit (mode_of old).keys db key value t.rows (count_of counter.0) tried.0 each in
    let rows : new.now.trees 0 ≡ tried.0.0.trees 0 =
    ap (λ (d : Database). d.trees 0) now ∙ ap (λ (it : Written). it.trees 0) (same_value counted.2) ∙ ap (λ (t : Trees). t 0) (same_value counted.1) in
    record {
      table = record {
        schema = ap (λ (d : Database). d.schema) now;
        rows = subst AreStored (sym rows) put.sound;
        autocommit = w.shown.mode ∙ t.autocommit;
        committed = w.shown.committed_is ∙ ap (λ b. if b then old.committed else new.now) t.autocommit;
      };
      entries = ap entries_of rows ∙ put.entries;
    }
