-- What a table over a store keeps beside the rows, what it tells of the store's errors, and when it writes.
use Rattle.std.specs.Prelude.{◌≡◌, ℕ, ◌≤◌, Bool, true, false, not, Result, Ok, Err}
use Rattle.std.specs.FinMap as map
use Rattle.std.specs.BTreeSet.{BTreeSet, contains}
use Rattle.beldi_row.specs.{Key.RowKey, Key.key_cmp, Table.Rows, Table.one_more, declared.act.Act.Act, declared.act.Change.Change, declared.table.TableErr.TableErr}
use Rattle.beldi_table.specs.Opened.{opened}
use Rattle.beldi_sqltable.specs.declared.store.StoreErr.{StoreErr}

-- these are the keys of the open intents
abbrev pub Lists : BTreeSet RowKey → Rows → Type 0
Lists keys m = (q : RowKey) → contains key_cmp keys q ≡ opened q (map.get m q)

-- the number of rows and the keys of the open intents are kept, and are known from the start
pub record Keeps (number : ℕ) (keys : BTreeSet RowKey) (known : Bool) (m : Rows) : Type 0 where
  pub counted : number ≡ map.len m
  pub listed : Lists keys m
  pub surveyed : known ≡ true

-- whether a key has the row of an open intent, and whether it has none
pub record Stood (k : RowKey) (was_open is_new : Bool) (m : Rows) : Type 0 where
  pub stood_open : was_open ≡ opened k (map.get m k)
  pub stood_new : is_new ≡ not (map.contains_key m k)

-- what the table tells of an error of its store
abbrev pub told_as : StoreErr → TableErr
told_as StoreErr.OutOfMemory = TableErr.OutOfMemory
told_as StoreErr.Failed = TableErr.Failed

-- the count of failures after an error, and after an answer
abbrev pub faults_of : TableErr → ℕ → ℕ
faults_of TableErr.Failed n = one_more n
faults_of e n = n

abbrev pub faults_after : {T : Type 0} → Result T TableErr → ℕ → ℕ
faults_after (Ok x) n = n
faults_after (Err e) n = faults_of e n

-- a failure was counted once, and nothing else
pub record Blames {T : Type 0} (old new : ℕ) (result : Result T TableErr) : Type 0 where
  pub later : old ≤ new
  pub counts : new ≡ faults_after result old

-- the act gives a row the next one, and says the same where it has that
abbrev pub links : Act → Bool
links (Act.LinkCell n) = true
links a = false

-- the change leaves the row as it was, where it is not of such an act
abbrev pub leaves : Change → Bool
leaves Change.Bound = false
leaves Change.Did = false
leaves (Change.Tested b) = false
leaves Change.Died = false
leaves (Change.Marked n) = false
leaves c = true
