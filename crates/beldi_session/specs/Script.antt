-- What a script has the program do, line by line.
use Rattle.std.specs.Prelude.{ℕ, zero, suc, ◌+◌, nat_lt, Bool, true, false, ◌&&◌, List, [], ◌∷◌, ◌++◌, Result, Ok, Err, if◌then◌else◌}
use Rattle.beldi_value.specs.declared.value.Value.{Value}
use Rattle.beldi_tree.specs.declared.deployment.Deployment.{Deployment}
use Rattle.beldi_step.specs.declared.event.{Event.Event, Pruned.Pruned}
use Rattle.beldi_script.specs.declared.line.Line.{Line}
use Rattle.beldi_schedule.specs.{declared.machine.Standing.Standing, Settle.first_at, Settle.go_on}
use Rattle.beldi_tidy.specs.Sweeping.{ends_round}
use Rattle.beldi_session.specs.{declared.refusal.Refusal.Refusal, declared.session.Taker.Taker, declared.sweeping.Swept.Swept, declared.sweeping.Swept.TheVariants.All, declared.sweeping.Swept.TheVariants.Unswept, Source.Numbered, Source.said_at}

-- carry out an event; call a function with a ticket, and see what comes of it; go on with a settling, within a budget, from where it
-- stands; give the log collector of this number a turn; go on with a sweep of it, within a budget, after so many turns; tell how a sweep
-- ended, what a ticket's run gave, how many rows there are, the tables, or the book; refuse a line. No line calls.
pub data Action : Type 0 where
  Carry : Event → Action
  Call : ℕ → ℕ → Value → Action
  Settle : ℕ → Standing → Action
  Prune : ℕ → Action
  Sweep : ℕ → ℕ → ℕ → Action
  TellSwept : Swept → Action
  TellReply : ℕ → Action
  CountRows : Action
  ListTables : Action
  ListBook : Action
  Refuse : Refusal → Action

abbrev pub times : ℕ → Action → List Action
times zero a = []
times (suc n) a = a ∷ times n a

-- one turn
abbrev pub turn_of : Taker → Action
turn_of (Taker.Run r) = Carry (Event.Turn r)
turn_of Taker.IntentCollector = Carry Event.Ic
turn_of (Taker.LogCollector k) = Prune k

-- a sweep, after so many turns: it goes on while its budget has more
abbrev pub sweep_at : ℕ → ℕ → ℕ → Action
sweep_at k budget n = if nat_lt n budget then Sweep k budget n else TellSwept (Unswept budget)

-- .. after the next one, by whether that ended the round: then it is the last one, and counts
abbrev pub sweep_next : ℕ → ℕ → ℕ → Bool → Action
sweep_next k budget n true = TellSwept (All (n + 1))
sweep_next k budget n false = sweep_at k budget (n + 1)

abbrev pub on_sweep_reply : ℕ → ℕ → ℕ → Pruned → Action
on_sweep_reply k budget n x = sweep_next k budget n (ends_round x)

abbrev pub actions_of : Line → List Action
actions_of Line.Ticket = Carry Event.Ticket ∷ []
actions_of (Line.Request t f a) = Carry (Event.Request t f a) ∷ []
actions_of (Line.Turn r n) = times n (Carry (Event.Turn r))
actions_of (Line.Lost r) = Carry (Event.Lost r) ∷ []
actions_of (Line.Crash r) = Carry (Event.Crash r) ∷ []
actions_of (Line.Restart id f) = Carry (Event.Restart id f) ∷ []
actions_of (Line.Ic n) = times n (Carry Event.Ic)
actions_of (Line.Gc k n) = times n (Prune k)
actions_of (Line.Sweep k n) = sweep_at k n 0 ∷ []
actions_of (Line.Settle n) = Settle n (go_on n first_at) ∷ []
actions_of (Line.Tick n) = Carry (Event.Tick n) ∷ []
actions_of Line.Halt = Carry Event.Halt ∷ []
actions_of (Line.Reply t) = TellReply t ∷ []
actions_of Line.Rows = CountRows ∷ []
actions_of Line.Tables = ListTables ∷ []
actions_of Line.Book = ListBook ∷ []
actions_of Line.Blank = []

-- a line's actions; one that is refused ends the script
abbrev pub and_then : Result Line Refusal → List Action → List Action
and_then (Ok l) more = actions_of l ++ more
and_then (Err x) more = Refuse x ∷ []

-- the actions of the lines up to the first one that is refused; where none is, the last listings follow
abbrev pub actions_in : Deployment → List Numbered → List Action
actions_in d [] = ListTables ∷ ListBook ∷ []
actions_in d (l ∷ ls) = and_then (said_at d l) (actions_in d ls)

abbrev pub is_ok : {A B : Type 0} → Result A B → Bool
is_ok (Ok a) = true
is_ok (Err b) = false

-- no line is refused
abbrev pub is_whole : Deployment → List Numbered → Bool
is_whole d [] = true
is_whole d (l ∷ ls) = is_ok (said_at d l) && is_whole d ls
