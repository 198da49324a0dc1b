-- What a call leaves, whatever it answers.
use Rattle.std.proofs.Common.{◌≡◌, ◌⊎◌, inl, inr, ◌∙◌, ap, sym, subst, true, false, Option, Ok, Err, Result, ℕ, List, [], IsTrue, MatchBool}
use Rattle.sqlite.specs.declared.error.Error.{Error}
use Rattle.sqlite.specs.Order.{Row}
use Rattle.sqlite.specs.Command.{Command}
use Rattle.sqlite.specs.Command.TheVariants.{Select}
use Rattle.sqlite.specs.declared.error.Error.TheVariants.{QueryReturnedNoRows, ExecuteReturnedResults}
use Rattle.sqlite_trees.specs.declared.error.StoreError.{StoreError}
use Rattle.sqlite_trees.specs.declared.error.StoreError.TheVariants.{OutOfMemory, Io, Corrupt, Full, Broken, Unstorable}
use Rattle.sqlite.specs.Clock.{timed}
use Rattle.sqlite.specs.Effect.{Database, RefusesToRead, is_query}
use Rattle.sqlite.specs.Listing.{understood}
use Rattle.sqlite.specs.State.{State, IsUnchanged, IsRolledBack, IsNotRun, Shown, ShowsRows, FailsToShow, FailsToQuery, QueriesRow, RunsCommand, Executes, ExecutesIn, shows_rows, store_error}
use Rattle.sqlite.proofs.Callers.{IsPlain, command_of}
use Rattle.beldi_blobs.specs.BlobCalls.{Keeps}
use Rattle.beldi_blobs.specs.BlobEntries.{AreStored, IsTable}

abbrev pub Leaves : State → State → Type 0
Leaves old new = IsUnchanged old new ⊎ IsRolledBack old new

not_run : (old new : State) (sql : List ℕ) (params : Row) (e : Error) → IsNotRun old new sql params e → Leaves old new
unfolding IsNotRun
not_run old new sql params e (inl h) = inl h.1
not_run old new sql params e (inr h) = inr h.3

pub shown_unchanged : (sql : List ℕ) (params : Row) (old new : State) (rows : List Row) → IsPlain (understood old.now.schema sql) → Shown sql params old new rows → IsUnchanged old new
unfolding Shown
shown_unchanged sql params old new rows plain h =
    (subst (ShowsRows old new sql h.0 (timed params h.0.formats h.1.now) rows) (subst IsPlain h.1.is plain).0 h.2).3

failed_query : (sql : List ℕ) (params : Row) (old new : State) (e : Error) → IsPlain (understood old.now.schema sql) → FailsToQuery sql params old new e → Leaves old new
unfolding FailsToQuery
failed_query sql params old new e plain (inl h) = not_run old new sql params e h
failed_query sql params old new e plain (inr h) =
    inl (subst (FailsToShow old new sql h.0 (timed params h.0.formats h.1.now) e) (subst IsPlain h.1.is plain).0 h.2).3

pub query_leaves : (sql : List ℕ) (params : Row) (old new : State) (r : Result Row Error) → IsPlain (understood old.now.schema sql) → QueriesRow sql params old new r → Leaves old new
unfolding QueriesRow
query_leaves sql params old new (Ok row) plain (inl h) = inl h.1
query_leaves sql params old new (Ok row) plain (inr h) = inl (shown_unchanged sql params old new h.0 plain h.1)
query_leaves sql params old new (Err e) plain (inl h) = failed_query sql params old new e plain h
query_leaves sql params old new (Err e) plain (inr h) = inl (shown_unchanged sql params old new [] plain h.1)

-- where no row is found, the answer is known
none_refused : (limit : Option ℕ) (c : Command) (db : Database) (params : Row) → RefusesToRead limit c db params QueryReturnedNoRows → is_query c ≡ true → ⊥
none_refused limit (Select q names) db params (inl h) is = let e = h.0 in cc
none_refused limit (Select q names) db params (inr (inl h)) is = let e = h.0 in cc
none_refused limit (Select q names) db params (inr (inr h)) is = let e = h.0 in cc
none_refused limit _ db params h is = absurd cc

disk_error : (cause : StoreError) → QueryReturnedNoRows ≡ store_error cause → ⊥
disk_error OutOfMemory e = cc
disk_error Io e = cc
disk_error Corrupt e = cc
disk_error Full e = cc
disk_error Broken e = cc
disk_error Unstorable e = cc

none_unrun : (old new : State) (sql : List ℕ) (params : Row) → IsNotRun old new sql params QueryReturnedNoRows → ⊥
unfolding IsNotRun
none_unrun old new sql params (inl (inl h, same)) = let e = h.2 in cc
none_unrun old new sql params (inl (inr (c, is, inl h), same)) = let e = h.1 in cc
none_unrun old new sql params (inl (inr (c, is, inr (inl h)), same)) = let e = h.1 in cc
none_unrun old new sql params (inl (inr (c, is, inr (inr h)), same)) = let e = h.1 in cc
none_unrun old new sql params (inr h) = disk_error h.0 h.1

pub none_shown : (sql : List ℕ) (params : Row) (old new : State) → IsPlain (understood old.now.schema sql) → is_query (command_of (understood old.now.schema sql)) ≡ true
    → QueriesRow sql params old new (Err QueryReturnedNoRows) → Shown sql params old new []
unfolding QueriesRow FailsToQuery
none_shown sql params old new plain is (inr h) = h.1
none_shown sql params old new plain is (inl (inl h)) = absurd (none_unrun old new sql params h)
none_shown sql params old new plain is (inl (inr h)) =
    let read = subst (FailsToShow old new sql h.0 (timed params h.0.formats h.1.now) QueryReturnedNoRows) (subst IsPlain h.1.is plain).0 h.2 in
    absurd (none_refused old.step_limit h.0.command read.0 _ read.2 (sym (ap (λ r. is_query (command_of r)) h.1.is) ∙ is))

-- a write that is refused
pub write_leaves : (sql : List ℕ) (params : Row) (old new : State) (e : Error) → Executes sql params old new (Err e) → Leaves old new
unfolding ExecutesIn
write_leaves sql params old new e (inl h) = not_run old new sql params e h
write_leaves sql params old new e (inr h) =
    elim (shows_rows false h.0) as (λ b. MatchBool b (◌≡◌ {A = Result ℕ Error} (Err e) (Err ExecuteReturnedResults) × IsUnchanged old new) (RunsCommand old new sql h.0 (timed params h.0.formats h.1.now) (Err e)) → Leaves old new) [
      | true ↦ λ shows. inl shows.1
      | false ↦ λ runs. elim runs [
        | inl refused ↦ inl refused.1
        | inr failed ↦ inr failed.3
      ]
    ] h.2

still_table : (old new : State) → IsTable old → new.now ≡ old.now → new.committed ≡ old.committed → new.in_transaction ≡ false → Keeps old new
still_table old new t now committed autocommit = record {
  table = record {
    schema = ap (λ (d : Database). d.schema) now ∙ t.schema;
    rows = subst (λ (d : Database). AreStored (d.trees 0)) (sym now) t.rows;
    autocommit = autocommit;
    committed = committed ∙ t.committed ∙ sym now;
  };
  now = now;
}

pub keeps : (old new : State) → IsTable old → IsTrue new.is_open → Leaves old new → Keeps old new
keeps old new t opened (inl h) = still_table old new t h.0.now_is h.0.committed_is (h.0.mode ∙ t.autocommit)
keeps old new t opened (inr h) = let u = h.undone opened in still_table old new t (u.0 ∙ t.committed) u.1 h.autocommit
