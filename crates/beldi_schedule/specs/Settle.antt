-- Settling, as a machine over the events of a host: each live run is given turns until all that are left wait, and an intent that has
-- no run is given one. The runs that wait are the live ones up to a number, so no set of them is kept.
use Rattle.std.specs.Prelude.{◌≡◌, ℕ, ◌+◌, ◌-◌, ◌<◌, ◌≤◌, nat_le, Bool, true, false, not, ◌&&◌, List, [], ◌∷◌, ◌++◌, Option, Some, None, if◌then◌else◌}
use Rattle.beldi_step.specs.{declared.event.Event.Event, declared.event.EventReply.EventReply, HostStep.Core, HostStep.most_events, Next.next_run, Next.reset}
use Rattle.beldi_schedule.specs.declared.machine.{At.At, Next.Next, Next.TheVariants.Turn, Next.TheVariants.Collect, Next.TheVariants.Reset, Settled.Settled, Settled.TheVariants.All, Settled.TheVariants.Unsettled, Settled.TheVariants.Spent, Settled.TheVariants.Shut, Settled.TheVariants.Stuck, Standing.Standing, Standing.TheVariants.Working, Standing.TheVariants.Over}

abbrev pub first_at : At
first_at = record { turns = 0; past = 0; waiting = []; moved = false; round = None }

-- it is over where the budget is used up
abbrev pub go_on : ℕ → At → Standing
go_on budget s = if nat_le budget s.turns then Over (Unsettled s.turns) else Working s

-- ---- what comes next
abbrev pub is_empty : {X : Type 0} → List X → Bool
is_empty [] = true
is_empty (x ∷ xs) = false

-- no run is taken to wait
abbrev pub unparked : At → At
unparked s = record s { past = 0; waiting = []; moved = false }

-- the turn of a run, if there is one
abbrev pub turn_or : At → Next → Option ℕ → Next
turn_or s n (Some i) = Turn s i
turn_or s n None = n

-- all live runs wait: they are given turns again where a turn was counted meanwhile
abbrev pub restless : Core → At → Next
restless c s = if s.moved && not (is_empty s.waiting) then turn_or (unparked s) (Reset s) (next_run c 0) else Reset s

-- the least run that is not known to wait is given a turn; where there is none, the intent collector goes round
abbrev pub by_round : Core → At → Option Bool → Next
by_round c s (Some b) = Collect s
by_round c s None = turn_or s (restless c s) (next_run c s.past)

abbrev pub next_of : Core → At → Next
next_of c s = by_round c s s.round

-- the intent collector stands before all rows, and goes round
abbrev pub begun : At → At
begun s = record s { round = Some false }

-- ---- what follows of an answer
-- the run stays where it stands
abbrev pub is_waiting : EventReply → Bool
is_waiting (EventReply.Held o) = true
is_waiting (EventReply.NotYet id) = true
is_waiting (EventReply.Full live room) = true
is_waiting EventReply.Worn = true
is_waiting EventReply.Crowded = true
is_waiting x = false

abbrev pub parked : At → ℕ → EventReply → At
parked s i x = record s { past = i; waiting = s.waiting ++ (i, x) ∷ [] }

-- so many turns more
abbrev pub strode : At → ℕ → At
strode s n = record s { turns = s.turns + n; moved = true }

-- a turn more
abbrev pub counted : ℕ → At → Standing
counted budget s = go_on budget (strode s 1)

-- a host that is spent takes no event more, and one that is shut none but a halt
abbrev pub is_turned_away : EventReply → Bool
is_turned_away EventReply.Spent = true
is_turned_away EventReply.Shut = true
is_turned_away x = false

abbrev pub away : ℕ → EventReply → Settled
away n EventReply.Shut = Shut n
away n x = Spent n

abbrev pub unless_away : At → EventReply → Standing → Standing
unless_away s x next = if is_turned_away x then Over (away s.turns x) else next

-- a run was given a turn
abbrev pub on_turn_reply : ℕ → At → ℕ → EventReply → Standing
on_turn_reply budget s i x = unless_away s x (if is_waiting x then Working (parked s i x) else counted budget s)

-- the intent collector has gone round, or can start no run
abbrev pub ends_round : EventReply → Bool
ends_round EventReply.Round = true
ends_round EventReply.Crowded = true
ends_round x = false

-- it started a run, or the table failed
abbrev pub counts : EventReply → Bool
counts (EventReply.Launched i id) = true
counts EventReply.Dropped = true
counts x = false

-- nobody goes on, by the least live run
abbrev pub end_of : At → Option ℕ → Settled
end_of s None = All s.turns
end_of s (Some i) = Stuck s.turns s.waiting

-- that is the end, unless the intent collector started a run
abbrev pub round_over : Option ℕ → At → Option Bool → Standing
round_over live s (Some true) = Working (record s { round = None })
round_over live s b = Over (end_of s live)

-- the intent collector was given a turn; then this is the least live run
abbrev pub on_ic_reply : ℕ → Option ℕ → At → EventReply → Standing
on_ic_reply budget live s x = unless_away s x (if ends_round x then round_over live s s.round else if counts x then counted budget (record s { round = Some true }) else Working s)

-- ---- an event
-- the event that comes next, and the core that it comes to
abbrev pub event_of : Next → Event
event_of (Turn s i) = Event.Turn i
event_of (Collect s) = Event.Ic
event_of (Reset s) = Event.Ic

abbrev pub core_for : Next → Core → Core
core_for (Turn s i) c = c
core_for (Collect s) c = c
core_for (Reset s) c = reset c

-- what follows of its answer, with the core after it
abbrev pub on_reply_of : ℕ → Core → Next → EventReply → Standing
on_reply_of budget c (Turn s i) x = on_turn_reply budget s i x
on_reply_of budget c (Collect s) x = on_ic_reply budget (next_run c 0) s x
on_reply_of budget c (Reset s) x = on_ic_reply budget (next_run c 0) (begun s) x

-- the turns that were counted at its end
abbrev pub turns_of : Settled → ℕ
turns_of (All n) = n
turns_of (Unsettled n) = n
turns_of (Spent n) = n
turns_of (Shut n) = n
turns_of (Stuck n ws) = n

-- ---- what is kept: a settling that goes on has turns left, and the events that it went on after were taken, one at least
abbrev pub HasTurns : ℕ → Standing → Type 0
HasTurns budget (Working s) = s.turns < budget
HasTurns budget (Over r) = Unit {0}

abbrev pub turns_in : Next → ℕ
turns_in (Turn s i) = s.turns
turns_in (Collect s) = s.turns
turns_in (Reset s) = s.turns

abbrev pub WasTaken : Core → Core → Standing → Type 0
WasTaken c z (Working s) = (c.taken < z.taken) × (z.taken ≤ most_events)
WasTaken c z (Over r) = Unit {0}

-- how many events a settling may still make; none where it is over
abbrev pub events_left : Core → Standing → ℕ
events_left c (Working s) = most_events - c.taken + 1
events_left c (Over r) = 0
