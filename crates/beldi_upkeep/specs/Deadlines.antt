-- How far ahead the deadlines of live runs are.
use Rattle.std.specs.Prelude.{◌≡◌, ℕ, ◌+◌, ◌≤◌, Option, Some, None, Result}
use Rattle.std.specs.declared.alloc.AllocError.{AllocError}
use Rattle.std.specs.FinMap as map
use Rattle.beldi_value.specs.declared.id.IntentId.{IntentId}
use Rattle.beldi_tree.specs.declared.deployment.Deployment.{Deployment}
use Rattle.beldi_row.specs.Table.{Rows}
use Rattle.beldi_step.specs.{declared.event.Event.Event, declared.event.EventReply.EventReply, declared.run.Run.Run, RunDeadlines.AreSoon, HostStep.Core, HostStep.EventOn, HostStep.first_core}
use Rattle.beldi_histories.specs.Stands.{key_in}
use Rattle.beldi_invariant.specs.Invariant.{Invariant}
use Rattle.beldi_upkeep.specs.{Callees.Seats, WorksFor.WorksFor, WorksFor.finish_in}

-- a deadline that is at most a life past a finish, where there is one
abbrev pub IsNear : ℕ → ℕ → Option ℕ → Type 0
IsNear life deadline None = Unit {0}
IsNear life deadline (Some f) = deadline ≤ f + life

pub record Near (d : Deployment) (c : Core) (m : Rows) : Type 0 where
  -- a deadline is at most a life ahead ..
  pub soon : AreSoon d c
  -- .. and at most a life past the finish of whom the run works for, in whatever home its row is
  pub near : (n : ℕ) (r : Run) (i : IntentId) (home : ℕ) → map.get c.runs n ≡ Some r → WorksFor r r.at i → IsNear d.life r.deadline (finish_in (map.get m (key_in home i)))

-- ---- so deadlines are near from the first moment on, and an event keeps them so
abbrev pub BeginsNear : Type 0
BeginsNear = (d : Deployment) (newest now : ℕ) → Near d (first_core newest now) map.empty

abbrev pub KeepsNear : Type 0
KeepsNear = (d : Deployment) (room old new : ℕ) (e : Event) (c b : Core) (m n : Rows) (x : Result EventReply AllocError) → Invariant d c m → Seats m → Near d c m → EventOn d room old new e c m b n x → Near d b n
