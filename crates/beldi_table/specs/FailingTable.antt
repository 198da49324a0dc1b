-- Which calls of a failing table fail.
use Rattle.std.specs.Prelude.{◌≡◌, ℕ, ◌==◌, Bool, true, false, List, [], ◌∷◌, Some, if◌then◌else◌}
use Rattle.beldi_row.specs.Table.{TableState, one_more}
use Rattle.beldi_table.specs.{MapTable.rows_of, declared.failing_table.FailingTable.FailingTable}

-- the number stands in the list
abbrev pub stands_in : List ℕ → ℕ → Bool
stands_in [] n = false
stands_in (x ∷ xs) n = if x == n then true else stands_in xs n

-- it tells its failures and its calls
abbrev pub failing_state : FailingTable → TableState
failing_state t = record { rows = Some (rows_of t.table); faults = t.faults; room = t.table.room; calls = Some t.calls }

-- the count of failures after a call that failed or did not
abbrev pub counted : Bool → ℕ → ℕ
counted true n = one_more n
counted false n = n

-- a call of `act` or `next` is counted, and as a failure where its number is one of those that fail; these stay as they are
pub record Counts (before after : FailingTable) : Type 0 where
  pub calls : after.calls ≡ one_more before.calls
  pub faults : after.faults ≡ counted (stands_in before.fail.items before.calls) before.faults
  pub fail : after.fail ≡ before.fail

-- no call is counted
pub record CountsNone (before after : FailingTable) : Type 0 where
  pub calls : after.calls ≡ before.calls
  pub faults : after.faults ≡ before.faults
  pub fail : after.fail ≡ before.fail
