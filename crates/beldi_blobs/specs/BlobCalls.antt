-- What a call leaves of the entries, and what it answers.
use Rattle.std.specs.Prelude.{◌≡◌, ℕ, List, [], ◌∷◌, Vec, Option, Some, None, option_map, Result, Ok, Err, IfOk, ⊤}
use Rattle.std.specs.declared.alloc.Global.{Global}
use Rattle.std.specs.Ordering.{nat_cmp}
use Rattle.std.specs.declared.cmp.Ordering.TheVariants.{Less}
use Rattle.std.specs.Cmp.Lexicographic.{slice_cmp}
use Rattle.std.specs.FinMap as map
use Rattle.sqlite.specs.declared.types.Value.TheVariants.{Blob}
use Rattle.sqlite.specs.Order.{Row, column}
use Rattle.sqlite.specs.State.{State}
use Rattle.beldi_blobs.specs.BlobEntries.{Entries, IsTable, entries_in}
use Rattle.beldi_blobs.specs.declared.entry.Entry.{Entry}
use Rattle.beldi_blobs.specs.declared.error.BlobErr.{BlobErr}

-- ---- over maps

-- what is told after a call, given what was told before
abbrev pub Tells : Option Entries → Option Entries → (Entries → Entries → Type 0) → Type 0
Tells None after P = after ≡ None
Tells (Some m) None P = ⊥
Tells (Some m) (Some n) P = P m n

-- an answer for the first entry above a key: that of the least greater key; none, where no greater key has an entry
abbrev pub IsNext : Entries → List ℕ → Option (List ℕ × List ℕ) → Type 0
IsNext m key None = (q : List ℕ) → slice_cmp nat_cmp key q ≡ Less → map.get m q ≡ None
IsNext m key (Some e) =
    (slice_cmp nat_cmp key e.0 ≡ Less) × (map.get m e.0 ≡ Some e.1) × ((q : List ℕ) → slice_cmp nat_cmp key q ≡ Less → slice_cmp nat_cmp q e.0 ≡ Less → map.get m q ≡ None)

abbrev pub pair_of : Entry → List ℕ × List ℕ
pair_of e = (e.key.items, e.value.items)

-- the answer for the value at a key; the entries m stay, as n
abbrev pub Gets : List ℕ → Entries → Entries → Result (Option (Vec ℕ Global)) BlobErr → Type 0
Gets key m n r = (n ≡ m) × IfOk r (λ o. option_map (λ v. v.items) o ≡ map.get m key)

-- the entries m become n: with the new value at the key, or as they were where it was refused
abbrev pub Puts : {A : Type 0} → List ℕ → List ℕ → Entries → Entries → Result A BlobErr → Type 0
Puts key value m n (Ok done) = n ≡ map.insert m key value
Puts key value m n (Err e) = n ≡ m

-- the entries m become n: without the one at the key, or as they were where it was refused
abbrev pub Removes : {A : Type 0} → List ℕ → Entries → Entries → Result A BlobErr → Type 0
Removes key m n (Ok done) = n ≡ map.remove m key
Removes key m n (Err e) = n ≡ m

-- the answer for the first entry above a key; the entries m stay, as n
abbrev pub Nexts : List ℕ → Entries → Entries → Result (Option Entry) BlobErr → Type 0
Nexts key m n r = (n ≡ m) × IfOk r (λ o. IsNext m key (option_map pair_of o))

-- ---- over the states of a connection

-- the call left the table as it was
pub record Keeps (old new : State) : Type 0 where
  pub table : IsTable new
  pub now : new.now ≡ old.now

-- the table was made, without entries
pub record Makes (new : State) : Type 0 where
  pub table : IsTable new
  pub entries : entries_in new ≡ map.empty

-- the value was put
pub record PutsIn (key value : List ℕ) (old new : State) : Type 0 where
  pub table : IsTable new
  pub entries : entries_in new ≡ map.insert (entries_in old) key value

abbrev pub PutsOr : {A E : Type 0} → List ℕ → List ℕ → State → State → Result A E → Type 0
PutsOr key value old new (Ok done) = PutsIn key value old new
PutsOr key value old new (Err e) = Keeps old new

-- the entry at the key was removed, where there was one
pub record RemovesIn (key : List ℕ) (old new : State) : Type 0 where
  pub table : IsTable new
  pub entries : entries_in new ≡ map.remove (entries_in old) key

abbrev pub RemovesOr : {A E : Type 0} → List ℕ → State → State → Result A E → Type 0
RemovesOr key old new (Ok done) = RemovesIn key old new
RemovesOr key old new (Err e) = Keeps old new

-- ---- over the rows of an answer

-- the row with the value at a key
abbrev pub Finds : State → List ℕ → Option Row → Type 0
Finds s key None = map.get (entries_in s) key ≡ None
Finds s key (Some row) = (value : List ℕ) × (row ≡ Blob value ∷ []) × (map.get (entries_in s) key ≡ Some value)

-- the row with the first entry above a key
abbrev pub FindsAbove : State → List ℕ → Option Row → Type 0
FindsAbove s key None = IsNext (entries_in s) key None
FindsAbove s key (Some row) = (e : List ℕ × List ℕ) × (row ≡ Blob e.0 ∷ Blob e.1 ∷ []) × IsNext (entries_in s) key (Some e)

-- a value that was read of a row, and an entry
abbrev pub ReadsValue : Option Row → Option (Vec ℕ Global) → Type 0
ReadsValue None None = ⊤
ReadsValue (Some row) (Some value) = column row 0 ≡ Blob value.items
ReadsValue _ _ = ⊥

abbrev pub ReadsEntry : Option Row → Option Entry → Type 0
ReadsEntry None None = ⊤
ReadsEntry (Some row) (Some e) = (column row 0 ≡ Blob e.key.items) × (column row 1 ≡ Blob e.value.items)
ReadsEntry _ _ = ⊥
