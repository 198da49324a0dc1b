-- An event is planned, and then followed: what holds between the two.
use Rattle.std.specs.Prelude.{◌≡◌, ℕ, ◌+◌, ◌-◌, ◌^◌, ◌≤◌, ◌<◌, nat_lt, Bool, true, false, ◌++◌, ◌∷◌, [], Option, Some, None, Result, Ok, Err, IsSome}
use Rattle.std.specs.declared.alloc.AllocError.{AllocError}
use Rattle.std.specs.FinMap as map
use Rattle.beldi_value.specs.{Id.root_of, declared.id.IntentId.IntentId, declared.value.Value.Value, declared.outcome.Outcome.Outcome}
use Rattle.beldi_tree.specs.declared.deployment.Deployment.{Deployment}
use Rattle.beldi_book.specs.declared.entry.Entry.TheVariants.{Start}
use Rattle.beldi_row.specs.{declared.table.TableErr.TableErr, declared.table.TableErr.TheVariants.OutOfMemory, Table.TableState}
use Rattle.beldi_query.specs.{declared.query.Query.Query, Query.QueryReply, Query.Came, Query.lends}
use Rattle.beldi_intent.specs.{declared.intent.Binding.Binding, Intent.binding_of}
use Rattle.beldi_step.specs.HostStep.{Core, Plan, immediate, asks, reads_all, plan, plan_of, counted, new_run, unbound, refused, ended_run, marked, after_turn, acted, LocalSteps, Followed}
use Rattle.beldi_step.specs.RunStride.{walking}
use Rattle.beldi_step.specs.declared.{event.Event.Event, event.Event.TheVariants.Ticket, event.Event.TheVariants.Request, event.Event.TheVariants.Turn, event.Event.TheVariants.Lost, event.Event.TheVariants.Ic, event.EventReply.EventReply, run.Mark.Mark, run.Run.Run, run.TurnOutput.TurnOutput, run.Walking.Walking}
use Rattle.beldi_core.specs.{declared.host_core.HostCore.HostCore, declared.events.Planned.Planned as Plans, declared.turns.TurnPlan.TurnPlan as TurnPlans, declared.turns.TurnReply.TurnReply as Turns, declared.events.Declined.Declined, declared.events.Immediate.Immediate, declared.events.Pending.Pending, declared.runs.Copies.Copies, LiveRuns.Numbered, LiveRuns.withdrawn, LiveRuns.started, LiveRuns.callee_for, LiveRuns.copied, LiveRuns.walked_in}

-- the host without its table, as events speak of it
abbrev pub core_in : HostCore → Core
core_in h = record { newest = h.newest; runs = h.runs.runs; last_run = h.runs.given; book = h.book.entries; now = h.now; cursor = h.cursor; taken = h.taken; shut = h.shut; collectors = h.collectors }

abbrev pub runs_of : Core → Numbered
runs_of c = record { runs = c.runs; given = c.last_run }

-- without the run that was started last
abbrev pub without_last : Core → Core
without_last c = record c { runs = (withdrawn (runs_of c)).runs; last_run = (withdrawn (runs_of c)).given }

-- the core that the definition sees while an event waits for its answer: a request has its run's place already
abbrev pub base : Event → Core → Core
base (Request t f a) c = without_last c
base e c = c

abbrev pub event_of : Pending → Event
event_of Pending.Ticket = Ticket
event_of (Pending.Request t f a) = Request t f a
event_of (Pending.Lost i n) = Lost i
event_of Pending.Ic = Ic

abbrev pub Copied : Copies → Option Run → Type 0
Copied n None = ⊥
Copied n (Some r) = n ≡ copied r

-- ---- what was made ready for the answer; `spare` is how many places the book has
pub record RequestReady (d : Deployment) (c : Core) (t f : ℕ) (spare : ℕ) : Type 0 where
  pub run : runs_of c ≡ started (withdrawn (runs_of c)) (new_run d c (root_of t) f)
  pub given : 1 ≤ c.last_run
  pub room : 1 ≤ spare

pub record RunReady (c : Core) (i : ℕ) (n : Copies) (spare : ℕ) : Type 0 where
  pub live : IsSome (map.get c.runs i)
  pub copies : Copied n (map.get c.runs i)
  pub given : c.last_run < c.taken
  pub room : 1 ≤ spare

abbrev pub Ready : Deployment → Pending → Core → ℕ → Type 0
Ready d Pending.Ticket c spare = c.newest < 2 ^ 32 - 1
Ready d (Pending.Request t f a) c spare = RequestReady d c t f spare
Ready d (Pending.Lost i n) c spare = RunReady c i n spare
Ready d Pending.Ic c spare = c.last_run < c.taken

-- a request has the place of its run
abbrev pub HasPlace : Pending → Core → Type 0
HasPlace (Pending.Request t f a) c = 1 ≤ c.last_run
HasPlace p c = Unit

-- ---- planning
-- why a turn is not made, as all events are answered
abbrev pub declined_reply : Declined → EventReply
declined_reply Declined.Spent = EventReply.Spent
declined_reply Declined.Expired = EventReply.Expired
declined_reply Declined.NoRun = EventReply.NoRun
declined_reply Declined.RunOver = EventReply.RunOver
declined_reply Declined.Shut = EventReply.Shut

-- an answer at once, so too
abbrev pub as_reply : Immediate → EventReply
as_reply Immediate.NoTicket = EventReply.NoTicket
as_reply (Immediate.Unknown t) = EventReply.Unknown t
as_reply Immediate.Crowded = EventReply.Crowded
as_reply (Immediate.Declined y) = declined_reply y
as_reply Immediate.Crashed = EventReply.Crashed
as_reply (Immediate.Started i) = EventReply.Started i
as_reply (Immediate.Now n) = EventReply.Now n
as_reply Immediate.ClockEnd = EventReply.ClockEnd

-- out of memory before anything was asked; of the events that ask nothing only one that starts a run may be so
abbrev pub NoMemory : Event → Core → Plan → Core → Result EventReply AllocError → Type 0
NoMemory e c (immediate b y) z r = LocalSteps c b y z r
NoMemory e c (asks q) z r = (z, r) ≡ refused e c OutOfMemory
NoMemory e c reads_all z r = ⊥

pub record Asking (d : Deployment) (e : Event) (c z : Core) (spare : ℕ) (q : Query) (p : Pending) (k : Plan) : Type 0 where
  pub is : k ≡ asks q
  pub event : event_of p ≡ e
  pub core : base e z ≡ c
  pub ready : Ready d p z spare

abbrev pub PlannedBy : Deployment → Event → Core → Core → ℕ → Plan → Result Plans AllocError → Type 0
PlannedBy d e c z spare k (Ok (Plans.Now y)) = k ≡ immediate z (as_reply y)
PlannedBy d e c z spare k (Ok (Plans.Asks q p)) = Asking d e c z spare q p k
PlannedBy d e c z spare k (Ok Plans.ReadsAll) = (k ≡ reads_all) × (z ≡ c)
PlannedBy d e c z spare k (Err w) = NoMemory e c k z (Err w)

-- an event that was counted
abbrev pub PlannedOf : Deployment → Event → Core → Core → ℕ → Result Plans AllocError → Type 0
PlannedOf d e c z spare r = PlannedBy d e c z spare (plan_of d e c) r

abbrev pub Planned : Deployment → Event → Core → Core → ℕ → Result Plans AllocError → Type 0
Planned d e c z spare r = PlannedBy d e (counted c) z spare (plan d e c) r

-- the run that is given a turn, if the event is one
abbrev pub turn_in : Event → Option ℕ
turn_in (Turn i) = Some i
turn_in e = None

-- a turn is not made, or its run asks this
pub record AskingRun (i : ℕ) (c z : Core) (spare : ℕ) (q : Query) (n : Copies) (k : Plan) : Type 0 where
  pub is : k ≡ asks q
  pub core : z ≡ c
  pub ready : RunReady z i n spare

abbrev pub TurnPlanned : ℕ → Core → Core → ℕ → Plan → Result TurnPlans AllocError → Type 0
TurnPlanned i c z spare k (Ok (TurnPlans.Declined y)) = k ≡ immediate z (declined_reply y)
TurnPlanned i c z spare k (Ok (TurnPlans.Asks q n)) = AskingRun i c z spare q n k
TurnPlanned i c z spare k (Err w) = NoMemory (Turn i) c k z (Err w)

-- ---- following
-- the answer to a turn, as all events are answered, with what was told apart
abbrev pub reply_of : EventReply → Turns → EventReply
reply_of told (Turns.Made over) = EventReply.Acted None None over None
reply_of told (Turns.Declined y) = declined_reply y
reply_of told Turns.Told = told

abbrev pub reply_in : EventReply → Result Turns AllocError → Result EventReply AllocError
reply_in told (Ok x) = Ok (reply_of told x)
reply_in told (Err w) = Err w

-- what lies apart is as it was, unless it is the answer
abbrev pub KeepsApart : EventReply → EventReply → Result Turns AllocError → Type 0
KeepsApart old new (Ok Turns.Told) = Unit {0}
KeepsApart old new r = new ≡ old

-- a request whose run was started, by what its bind came to
abbrev pub BoundTo : Core → ℕ → ℕ → Value → Binding → Core → EventReply → Type 0
BoundTo k t f a Binding.Bound z x = (z ≡ record k { book = k.book ++ Start t f a ∷ [] }) × (x ≡ EventReply.Bound t k.last_run)
BoundTo k t f a b z x = (z ≡ without_last k) × (x ≡ unbound t b)

abbrev pub BoundBy : Core → ℕ → ℕ → Value → QueryReply → Core → Result EventReply AllocError → Type 0
BoundBy k t f a u z (Ok x) = BoundTo k t f a (binding_of u) z x
BoundBy k t f a u z (Err w) = (z ≡ without_last k) × (lends u ≡ true)

-- the answer to a turn that was made, unless there was no memory for the run that it starts
abbrev pub acted_unless : IntentId → Option Mark → Bool → Option Outcome → Result (Option ℕ) AllocError → Result EventReply AllocError
acted_unless id m over reply (Ok n) = Ok (acted id m over reply n)
acted_unless id m over reply (Err e) = Err e

abbrev pub mark_told : Result TurnOutput (Option Mark) → Option Mark
mark_told (Ok x) = x.mark
mark_told (Err m) = m

-- a turn of the run i was made, whose copies are n: from a core whose runs have gone on, it is told; where there is no memory for
-- that, the run is over
abbrev pub entered : Core → Copies → TurnOutput → Core
entered c n x = record c { book = marked c.book n.id x.mark }

abbrev pub TellsTurn : Core → ℕ → Copies → TurnOutput → Core → Result EventReply AllocError → Type 0
TellsTurn c i n x z (Ok y) = (z, y) ≡ after_turn (entered c n x) (callee_for n.callee (map.get c.runs i)) n.id x x.wait
TellsTurn c i n x z (Err e) = z ≡ ended_run (entered c n x) i

-- the one query of an event that was planned, and what follows
abbrev pub Asked : Deployment → Event → Core → Core → Query → TableState → TableState → Result EventReply AllocError → Type 0
Asked d e k z q old new r = (w : Result QueryReply TableErr) × Followed d e (base e k) w z r × Came q k.now w old new

-- ---- a run that walks
-- what is told of the walk of a live run that is not past its deadline, where the host is not shut: none may be told
abbrev pub IsWalk : Core → Walking → Option Run → Type 0
IsWalk c w None = ⊥
IsWalk c w (Some r) = (c.shut ≡ false) × (nat_lt r.deadline c.now ≡ false) × (walking r ≡ Some w)

abbrev pub WalkTold : Core → ℕ → Option Walking → Type 0
WalkTold c i None = Unit {0}
WalkTold c i (Some w) = IsWalk c w (map.get c.runs i)

-- the run of number i is set forward to the row of a number, by so many turns
abbrev pub strode : Core → ℕ → ℕ → ℕ → Core
strode c i turns row = record c { runs = walked_in c.runs i row (map.get c.runs i); taken = c.taken + turns }
