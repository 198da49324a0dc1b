-- A turn of a log collector of the host. It is no event of a run: it moves that collector, and leaves the runs and the book as they are.
use Rattle.std.specs.Prelude.{◌≡◌, ◌≤◌, ◌⊎◌, ℕ, nat_lt, if◌then◌else◌, Option, Some, None, Result, Ok, Err}
use Rattle.std.specs.declared.alloc.AllocError.{AllocError}
use Rattle.beldi_tree.specs.declared.deployment.Deployment.{Deployment}
use Rattle.beldi_row.specs.{declared.table.TableErr.TableErr, Table.Rows, Table.TableState, Table.Tells, Table.HasCause, Table.AtMostOne}
use Rattle.beldi_query.specs.Walk.{Turned}
use Rattle.beldi_prune.specs.{Collectors.collector_at, Collectors.first_collectors, Collectors.set_collector, PruneLaws.TurnedOn, Prune.anew, Prune.prune_asks, Prune.prune_next, Prune.prune_output}
use Rattle.beldi_prune.specs.declared.{collector.LogCollector.LogCollector, collector.GcOutput.GcOutput}
use Rattle.beldi_step.specs.HostStep.{Core, EventOn, counted, most_events}
use Rattle.beldi_step.specs.declared.event.{Event.Event, Pruned.Pruned, EventReply.EventReply}

-- ---- what it is answered
abbrev pub output_pruned : GcOutput → Pruned
output_pruned GcOutput.Going = Pruned.Going
output_pruned GcOutput.Marked = Pruned.Marked
output_pruned GcOutput.Skipped = Pruned.Skipped
output_pruned GcOutput.Dangled = Pruned.Dangled
output_pruned GcOutput.Removed = Pruned.Removed
output_pruned GcOutput.Round = Pruned.Round

abbrev pub pruned_by : Result GcOutput TableErr → Result Pruned AllocError
pruned_by (Ok s) = Ok (output_pruned s)
pruned_by (Err TableErr.OutOfMemory) = Err (record {})
pruned_by (Err TableErr.Failed) = Ok Pruned.Dropped
pruned_by (Err (TableErr.Full live room)) = Ok Pruned.Dropped

-- ---- what it leaves of the host
abbrev pub with_collector : Core → ℕ → LogCollector → Core
with_collector c k w = record c { collectors = set_collector c.collectors k w }

-- a turn counts as an event, unless the host is spent
abbrev pub taken : Core → Core
taken c = if nat_lt c.taken most_events then counted c else c

-- what keeps the host from it, if anything
abbrev pub bar_of : Core → Option Pruned
bar_of c = if nat_lt c.taken most_events then (if c.shut then Some Pruned.Shut else None) else Some Pruned.Spent

-- ---- one turn
-- one witness says what the collector came to, and one where it stands then
abbrev pub PrunesBy : Option Pruned → Deployment → ℕ → Core → Core → TableState → TableState → Result Pruned AllocError → Type 0
PrunesBy (Some y) d k c z old new r = (z ≡ c) × (r ≡ Ok y) × (new ≡ old)
PrunesBy None d k c z old new r = let w = collector_at c.collectors k in (s : Result GcOutput TableErr) × (x : LogCollector)
    × Turned (prune_asks d.life w) c.now (prune_next c.newest d.life c.now w) (prune_output w) (anew w) x old new s × (z ≡ with_collector c k x) × (r ≡ pruned_by s)

-- what a call that makes a turn of the collector of this number does
abbrev pub Prunes : Deployment → ℕ → Core → Core → TableState → TableState → Result Pruned AllocError → Type 0
Prunes d k c z old new r = PrunesBy (bar_of c) d k (taken c) z old new r

-- .. and over rows that are told: from the core c and the rows m it leaves z and n. The table's count of failures was `old` before, and is `new` now.
abbrev pub PrunesOnBy : Option Pruned → Deployment → ℕ → ℕ → ℕ → Core → Rows → Core → Rows → Result Pruned AllocError → Type 0
PrunesOnBy (Some y) d old new k c m z n r = (z ≡ c) × (r ≡ Ok y) × (n ≡ m) × (new ≡ old)
PrunesOnBy None d old new k c m z n r = (s : Result GcOutput TableErr) × (x : LogCollector)
    × TurnedOn c.newest d.life c.now (collector_at c.collectors k) x m n s × (z ≡ with_collector c k x) × (r ≡ pruned_by s) × HasCause old new s

abbrev pub PrunesOn : Deployment → ℕ → ℕ → ℕ → Core → Rows → Core → Rows → Result Pruned AllocError → Type 0
PrunesOn d old new k c m z n r = PrunesOnBy (bar_of c) d old new k (taken c) m z n r

-- ---- its laws
abbrev pub PruningsOverRows : Type 0
PruningsOverRows = (d : Deployment) (k : ℕ) (c b : Core) (old new : TableState) (r : Result Pruned AllocError) → Prunes d k c b old new r → Tells old.rows new.rows (λ m n. PrunesOn d old.faults new.faults k c m b n r)

-- what it leaves of any table, also of one that tells no rows
pub record IsPruned (old new : TableState) : Type 0 where
  pub room : new.room ≡ old.room
  pub calls : AtMostOne old.calls new.calls
  pub later : old.faults ≤ new.faults

abbrev pub PruningsOverAnyTable : Type 0
PruningsOverAnyTable = (d : Deployment) (k : ℕ) (c b : Core) (old new : TableState) (r : Result Pruned AllocError) → Prunes d k c b old new r → IsPruned old new

-- an event leaves the collectors where they stand; after a halt they stand before all rows
abbrev pub CollectorsStay : Type 0
CollectorsStay = (d : Deployment) (room old new : ℕ) (e : Event) (c b : Core) (m n : Rows) (r : Result EventReply AllocError) → EventOn d room old new e c m b n r → (b.collectors ≡ c.collectors) ⊎ (b.collectors ≡ first_collectors)
