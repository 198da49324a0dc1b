-- What one step of the host says over rows that are told, and over any table.
use Rattle.std.specs.Prelude.{◌≡◌, ℕ, ◌≤◌, ◌<◌, false, Option, Some, None, Result, Ok}
use Rattle.std.specs.declared.alloc.AllocError.{AllocError}
use Rattle.std.specs.FinMap as map
use Rattle.beldi_tree.specs.declared.deployment.Deployment.{Deployment}
use Rattle.beldi_row.specs.Table.{TableState, Tells, AtMostOne}
use Rattle.beldi_step.specs.HostStep.{Core, most_events, immediate, ended_run, counted, is_halt, plan, Stepped, EventOn}
use Rattle.beldi_step.specs.declared.{event.Event.Event, event.Event.TheVariants.Turn, event.Event.TheVariants.Lost, event.Event.TheVariants.Crash, event.EventReply.EventReply, event.EventReply.TheVariants.Expired, run.Run.Run}

abbrev pub StepsOverRows : Type 0
StepsOverRows = (d : Deployment) (e : Event) (c b : Core) (old new : TableState) (r : Result EventReply AllocError) → Stepped d e c b old new r
    → Tells old.rows new.rows (λ m n. EventOn d old.room old.faults new.faults e c m b n r)

-- what a step leaves of any table, also of one that tells no rows
pub record TableAfter (d : Deployment) (e : Event) (c : Core) (old new : TableState) : Type 0 where
  -- an event that is answered at once leaves the table as it was, and makes no call
  pub untouched : (b : Core) (y : EventReply) → plan d e c ≡ immediate b y → new ≡ old
  pub room : new.room ≡ old.room
  -- a halt makes one for each row, and one more
  pub calls : is_halt e ≡ false → AtMostOne old.calls new.calls
  pub later : old.faults ≤ new.faults

abbrev pub StepsOverAnyTable : Type 0
StepsOverAnyTable = (d : Deployment) (e : Event) (c b : Core) (old new : TableState) (r : Result EventReply AllocError) → Stepped d e c b old new r → TableAfter d e c old new

-- ---- deadlines
-- the run that an event is of
abbrev pub run_of_event : Event → Option ℕ
run_of_event (Turn i) = Some i
run_of_event (Lost i) = Some i
run_of_event (Crash i) = Some i
run_of_event e = None

-- no run acts past its deadline: an event of a live run that is past it makes no call of the table, and the run is over. A host that is
-- shut has no live run.
abbrev pub ExpiresPastDeadline : Type 0
ExpiresPastDeadline = (d : Deployment) (e : Event) (c b : Core) (old new : TableState) (r : Result EventReply AllocError) (i : ℕ) (run : Run) → Stepped d e c b old new r
    → c.taken < most_events → c.shut ≡ false → run_of_event e ≡ Some i → map.get c.runs i ≡ Some run → run.deadline < c.now → (r ≡ Ok Expired) × (b ≡ ended_run (counted c) i) × (new ≡ old)
