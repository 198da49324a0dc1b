-- All that every event keeps: the host has the invariant, and what it and its rows keep beside.
use Rattle.std.specs.Prelude.{ℕ, Result}
use Rattle.std.specs.declared.alloc.AllocError.{AllocError}
use Rattle.std.specs.FinMap as map
use Rattle.beldi_tree.specs.declared.deployment.Deployment.{Deployment}
use Rattle.beldi_row.specs.Table.{Rows}
use Rattle.beldi_step.specs.{HostStep.Core, HostStep.EventOn, HostStep.first_core, declared.event.Event.Event, declared.event.EventReply.EventReply}
use Rattle.beldi_invariant.specs.Invariant.{Invariant}
use Rattle.beldi_upkeep.specs.{Callees.RunsOwe, Callees.Seats, Checked.RootsAreStarted, Deadlines.Near, Passed.PastCalls, Passed.RunsPast}

pub record Upkeep (d : Deployment) (c : Core) (m : Rows) : Type 0 where
  pub invariant : Invariant d c m
  -- callees are registered and told of, and owners end last
  pub seats : Seats m
  pub owe : RunsOwe c m
  -- calls that are past are registered, or have their result
  pub past : PastCalls m
  pub passes : RunsPast c m
  -- deadlines are near
  pub near : Near d c m
  -- each root that has a body is one that the book starts
  pub started : RootsAreStarted c m

-- so it is of a host that nothing has happened to, over no rows ..
abbrev pub BeginsUpkept : Type 0
BeginsUpkept = (d : Deployment) (now : ℕ) → Upkeep d (first_core 0 now) map.empty

-- .. and after every event, whatever it came to
abbrev pub KeepsUpkeep : Type 0
KeepsUpkeep = (d : Deployment) (room old new : ℕ) (e : Event) (c b : Core) (m n : Rows) (r : Result EventReply AllocError) → Upkeep d c m → EventOn d room old new e c m b n r → Upkeep d b n
