-- What a halt leaves, and what a host that is shut answers: over any table.
use Rattle.std.specs.Prelude.{◌≡◌, ◌+◌, ◌<◌, true, false, Result, Ok}
use Rattle.std.specs.FinMap as map
use Rattle.std.specs.declared.alloc.AllocError.{AllocError}
use Rattle.beldi_tree.specs.declared.deployment.Deployment.{Deployment}
use Rattle.beldi_row.specs.Table.{Rose, TableState, Tells}
use Rattle.beldi_step.specs.{declared.event.Event.Event, declared.event.Event.TheVariants.Halt, declared.event.EventReply.EventReply, declared.event.EventReply.TheVariants.Dropped, declared.event.EventReply.TheVariants.Halted, declared.event.EventReply.TheVariants.Shut, RunDeadlines.Reached, HostStep.Core, HostStep.Stepped, HostStep.counted, HostStep.first_core, HostStep.is_halt, HostStep.most_events, HostStep.newest_of}

-- a host that is shut answers so to all but a halt: it makes no call, and counts the event
abbrev pub ShutAnswersShut : Type 0
ShutAnswersShut = (d : Deployment) (e : Event) (c b : Core) (old new : TableState) (r : Result EventReply AllocError) → Stepped d e c b old new r
    → c.taken < most_events → c.shut ≡ true → is_halt e ≡ false → (r ≡ Ok Shut) × (b ≡ counted c) × (new ≡ old)

-- .. and no other one answers so
abbrev pub OnlyShutAnswersShut : Type 0
OnlyShutAnswersShut = (d : Deployment) (e : Event) (c b : Core) (old new : TableState) → Stepped d e c b old new (Ok Shut) → (c.shut ≡ true) × (b ≡ counted c) × (new ≡ old)

-- a host comes to be shut by a halt that is dropped, since the table failed
abbrev pub ShutsAtAFailedHalt : Type 0
ShutsAtAFailedHalt = (d : Deployment) (e : Event) (c b : Core) (old new : TableState) (r : Result EventReply AllocError) → Stepped d e c b old new r
    → c.shut ≡ false → b.shut ≡ true → (is_halt e ≡ true) × (r ≡ Ok Dropped) × Rose old.faults new.faults

-- .. and is so until a halt is answered as halted
abbrev pub StaysShut : Type 0
StaysShut = (d : Deployment) (e : Event) (c b : Core) (old new : TableState) (r : Result EventReply AllocError) → Stepped d e c b old new r
    → c.shut ≡ true → b.shut ≡ false → (is_halt e ≡ true) × (r ≡ Ok Halted)

-- after a halt no run is live, whatever it met
abbrev pub HaltsEndRuns : Type 0
HaltsEndRuns = (d : Deployment) (c b : Core) (old new : TableState) (r : Result EventReply AllocError) → Stepped d Halt c b old new r → c.taken < most_events → b.runs ≡ map.empty

-- .. so none is while a host is shut that began without runs
abbrev pub ShutHasNoRuns : Type 0
ShutHasNoRuns = (d : Deployment) (c : Core) → Reached d c → c.shut ≡ true → c.runs ≡ map.empty

-- a halt that is answered as halted leaves what is first over these rows, but for the book and the counts
abbrev pub HaltsAsOpened : Type 0
HaltsAsOpened = (d : Deployment) (e : Event) (c b : Core) (old new : TableState) → Stepped d e c b old new (Ok Halted)
    → Tells old.rows new.rows (λ m n. (n ≡ m) × (b ≡ record (first_core (newest_of m) c.now) { book = c.book; last_run = c.last_run; taken = c.taken + 1 }))
