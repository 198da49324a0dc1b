-- Which deadlines runs are given, and how far ahead they are: over any table.
use Rattle.std.specs.Prelude.{◌≡◌, ℕ, ◌+◌, ◌≤◌, Option, Some, None, Result}
use Rattle.std.specs.declared.alloc.AllocError.{AllocError}
use Rattle.std.specs.FinMap as map
use Rattle.beldi_tree.specs.declared.deployment.Deployment.{Deployment}
use Rattle.beldi_row.specs.Table.{TableState}
use Rattle.beldi_step.specs.{declared.event.Event.Event, declared.event.EventReply.EventReply, declared.run.Run.Run, HostStep.Core, HostStep.Stepped, HostStep.first_core, HostStep.last_of}

-- ---- which deadline a run is given
-- the run whose turn an event is, if it is live
abbrev pub turning : Event → Core → Option Run
turning (Event.Turn i) c = map.get c.runs i
turning e c = None

-- the deadline of a run that an event starts: that of the run whose turn it is; otherwise the last moment of a life that begins now
abbrev pub deadline_given : Deployment → Core → Option Run → ℕ
deadline_given d c None = last_of c.now d.life
deadline_given d c (Some r) = r.deadline

-- a run that is live after an event, and was not before, has this deadline
abbrev pub CalledRunsHaveTheirCallersDeadline : Type 0
CalledRunsHaveTheirCallersDeadline = (d : Deployment) (e : Event) (c b : Core) (old new : TableState) (x : Result EventReply AllocError) (n : ℕ) (r : Run) → Stepped d e c b old new x
    → map.get c.runs n ≡ None → map.get b.runs n ≡ Some r → r.deadline ≡ deadline_given d c (turning e c)

-- any other run has the deadline that it had
abbrev pub RunsKeepTheirDeadline : Type 0
RunsKeepTheirDeadline = (d : Deployment) (e : Event) (c b : Core) (old new : TableState) (x : Result EventReply AllocError) (n : ℕ) (r s : Run) → Stepped d e c b old new x
    → n ≤ c.last_run → map.get c.runs n ≡ Some s → map.get b.runs n ≡ Some r → r.deadline ≡ s.deadline

-- ---- no deadline is more than a life ahead
abbrev pub AreSoon : Deployment → Core → Type 0
AreSoon d c = (n : ℕ) (r : Run) → map.get c.runs n ≡ Some r → r.deadline ≤ last_of c.now d.life

-- an event keeps that, over any table
abbrev pub KeepsSoon : Type 0
KeepsSoon = (d : Deployment) (e : Event) (c b : Core) (old new : TableState) (x : Result EventReply AllocError) → AreSoon d c → Stepped d e c b old new x → AreSoon d b

-- a host that began without runs, after any events, over any tables
pub data Reached (d : Deployment) : Core → Type 0 where
  at_first : (newest now : ℕ) (c : Core) → c ≡ first_core newest now → Reached d c
  after_step : (e : Event) (c b : Core) (old new : TableState) (x : Result EventReply AllocError) → Reached d c → Stepped d e c b old new x → Reached d b

-- none of its live runs is past a life from now
abbrev pub NoRunIsPastALife : Type 0
NoRunIsPastALife = (d : Deployment) (c : Core) (n : ℕ) (r : Run) → Reached d c → map.get c.runs n ≡ Some r → r.deadline ≤ c.now + d.life
