-- What was read of a row is the answer.
use Rattle.std.proofs.Common.{◌≡◌, ◌∙◌, ap, ap₂, sym, subst, Result, Ok, Err, None, Some, Option, Vec, ℕ, List, IfOk}
use Rattle.std.specs.Option.{option_map}
use Rattle.std.specs.declared.alloc.Global.{Global}
use Rattle.std.specs.FinMap as map
use Rattle.sqlite.specs.Order.{Row, column, bytes}
use Rattle.sqlite.specs.Effect.{Database}
use Rattle.sqlite.specs.State.{State}
use Rattle.beldi_blobs.specs.declared.entry.Entry.{Entry}
use Rattle.beldi_blobs.specs.declared.error.BlobErr.{BlobErr}
use Rattle.beldi_blobs.specs.BlobEntries.{IsTable, entries_in, entries_of}
use Rattle.beldi_blobs.specs.BlobCalls.{Keeps, Finds, FindsAbove, ReadsValue, ReadsEntry, IsNext, Puts, PutsOr, Removes, RemovesOr, pair_of}

pub value_is : (s : State) (key : List ℕ) (row : Option Row) (value : Option (Vec ℕ Global)) → Finds s key row → ReadsValue row value → option_map (λ v. v.items) value ≡ map.get (entries_in s) key
value_is s key None None h r = sym h
value_is s key None (Some v) h r = absurd r
value_is s key (Some row) None h r = absurd r
value_is s key (Some row) (Some v) h r = ap Some (sym (ap bytes r) ∙ ap (λ r. bytes (column r 0)) h.1) ∙ sym h.2

pub entry_is : (s : State) (key : List ℕ) (row : Option Row) (entry : Option Entry) → FindsAbove s key row → ReadsEntry row entry → IsNext (entries_in s) key (option_map pair_of entry)
entry_is s key None None h r = h
entry_is s key None (Some e) h r = absurd r
entry_is s key (Some row) None h r = absurd r
entry_is s key (Some row) (Some e) h r =
    let first : h.0.0 ≡ e.key.items = sym (ap (λ r. bytes (column r 0)) h.1) ∙ ap bytes r.0 in
    let second : h.0.1 ≡ e.value.items = sym (ap (λ r. bytes (column r 1)) h.1) ∙ ap bytes r.1 in
    subst (λ p. IsNext (entries_in s) key (Some p)) (ap₂ (λ a b. (a, b)) first second) h.2

pub value_told : (s : State) (key : List ℕ) (row : Option Row) (r : Result (Option (Vec ℕ Global)) BlobErr) → Finds s key row → IfOk r (ReadsValue row) → IfOk r (λ o. option_map (λ v. v.items) o ≡ map.get (entries_in s) key)
value_told s key row (Ok value) h reads = value_is s key row value h reads
value_told s key row (Err e) h reads = tt

pub entry_told : (s : State) (key : List ℕ) (row : Option Row) (r : Result (Option Entry) BlobErr) → FindsAbove s key row → IfOk r (ReadsEntry row) → IfOk r (λ o. IsNext (entries_in s) key (option_map pair_of o))
entry_told s key row (Ok entry) h reads = entry_is s key row entry h reads
entry_told s key row (Err e) h reads = tt

pub same_entries : (old new : State) → Keeps old new → entries_in new ≡ entries_in old
same_entries old new k = ap (λ (d : Database). entries_of (d.trees 0)) k.now

pub put_table : {A : Type 0} (old new : State) (key value : List ℕ) (r : Result A BlobErr) → PutsOr key value old new r → IsTable new
put_table old new key value (Ok done) h = h.table
put_table old new key value (Err e) h = h.table

pub put_entries : {A : Type 0} (old new : State) (key value : List ℕ) (r : Result A BlobErr) → PutsOr key value old new r → Puts key value (entries_in old) (entries_in new) r
put_entries old new key value (Ok done) h = h.entries
put_entries old new key value (Err e) h = same_entries old new h

pub remove_table : {A : Type 0} (old new : State) (key : List ℕ) (r : Result A BlobErr) → RemovesOr key old new r → IsTable new
remove_table old new key (Ok done) h = h.table
remove_table old new key (Err e) h = h.table

pub remove_entries : {A : Type 0} (old new : State) (key : List ℕ) (r : Result A BlobErr) → RemovesOr key old new r → Removes key (entries_in old) (entries_in new) r
remove_entries old new key (Ok done) h = h.entries
remove_entries old new key (Err e) h = same_entries old new h
