-- The host without its table, and what one event does.
use Rattle.std.specs.Prelude.{◌≡◌, ℕ, ◌+◌, ◌-◌, ◌^◌, ◌==◌, ◌||◌, nat_lt, nat_le, min, max, Bool, true, false, not, ◌&&◌, List, [], ◌∷◌, ◌++◌, option_to_list, Option, Some, None, Result, Ok, Err, IfOk, if◌then◌else◌}
use Rattle.std.specs.{List.list_any, Option.option_map, FinMap.FinMap, Ordering.nat_cmp, Ordering.is_eq, declared.alloc.AllocError.AllocError}
use Rattle.std.specs.FinMap as map
use Rattle.beldi_value.specs.{Id.id_cmp, Id.root_of, declared.id.IntentId.IntentId, declared.value.Value.Value, declared.outcome.Outcome.Outcome}
use Rattle.beldi_tree.specs.declared.deployment.Deployment.{Deployment}
use Rattle.beldi_book.specs.{declared.entry.Entry.Entry, LinearOrder.count_changes}
use Rattle.beldi_row.specs.{declared.table.TableErr.TableErr, Table.Rows, Table.TableState, Table.Tells, Table.IsNotFull, Table.HasCause, declared.row.Row.Row, Key.RowKey, Key.key_ticket, Key.least_key}
use Rattle.beldi_query.specs.{declared.query.Query.Query, Query.QueryReply, Query.lends, Query.Came, Query.CameOn}
use Rattle.beldi_intent.specs.{declared.intent.Binding.Binding, Intent.issue_asks, Intent.bind_asks, Intent.is_added, Intent.binding_of}
use Rattle.beldi_collect.specs.{declared.cursor.Found.Found, Collect.collect_asks, Collect.collect_output}
use Rattle.beldi_prune.specs.{Collectors.first_collectors, declared.collector.LogCollector.LogCollector}
use Rattle.beldi_step.specs.declared.event.Event.TheVariants.{Ticket, Request, Turn, Lost, Crash, Restart, Tick, Ic, Halt}
use Rattle.beldi_step.specs.{declared.event.Event.Event, declared.event.EventReply.EventReply, declared.run.Mark.Mark, declared.run.Run.Run, declared.run.RunAt.TheVariants.Looks, declared.run.Wait.Wait, declared.run.TurnOutput.TurnOutput, Run.Turned, Run.output_of, Run.run_asks, Run.run_told, Run.callee_of}

-- the newest ticket, the live runs by number, how many runs were ever started, the book, the moment, where the intent collector
-- stands, how many events were taken, whether the reading of the last halt failed, and where the log collectors stand
pub record Core : Type 0 where
  pub newest : ℕ
  pub runs : FinMap nat_cmp Run
  pub last_run : ℕ
  pub book : List Entry
  pub now : ℕ
  pub cursor : RowKey
  pub taken : ℕ
  pub shut : Bool
  pub collectors : List LogCollector

-- the greatest ticket that a key names, 0 where there is none
abbrev pub greatest : List (RowKey × Row) → ℕ
greatest [] = 0
greatest (e ∷ es) = max (key_ticket e.0) (greatest es)

abbrev pub newest_of : Rows → ℕ
newest_of m = greatest (map.entries m)

-- a host that nothing has happened to, over rows whose newest ticket is this one
abbrev pub first_core : ℕ → ℕ → Core
first_core newest now = record { newest = newest; runs = map.empty; last_run = 0; book = []; now = now; cursor = least_key; taken = 0; shut = false; collectors = first_collectors }

abbrev pub most_runs : ℕ
most_runs = 1024

abbrev pub most_events : ℕ
most_events = 2 ^ 62

-- an event is answered at once, or asks one thing of the table; a halt reads the keys of all rows
pub data Plan : Type 0 where
  immediate : Core → EventReply → Plan
  asks : Query → Plan
  reads_all : Plan

-- ---- what an event asks
-- a number that no live run has
abbrev pub no_run : Core → ℕ → EventReply
no_run c i = if (i == 0) || nat_lt c.last_run i then EventReply.NoRun else EventReply.RunOver

abbrev pub ended_run : Core → ℕ → Core
ended_run c i = record c { runs = map.remove c.runs i }

-- the last moment of a life that begins now, as a number of 64 bits
abbrev pub last_of : ℕ → ℕ → ℕ
last_of now life = min (now + life) (2 ^ 64 - 1)

-- a run that no call started may act for the deployment's life from now on
abbrev pub new_run : Deployment → Core → IntentId → ℕ → Run
new_run d c id f = record { id = id; func = f; deadline = last_of c.now d.life; at = Looks }

-- a run more
abbrev pub with_run : Core → Run → Core
with_run c r = record c { runs = map.insert c.runs (c.last_run + 1) r; last_run = c.last_run + 1 }

abbrev pub is_crowded : Core → Bool
is_crowded c = nat_le most_runs (map.len c.runs)

abbrev pub request_plan : Core → ℕ → ℕ → Value → Plan
request_plan c t f a =
    if (t == 0) || nat_lt c.newest t then immediate c (EventReply.Unknown t) else
    if is_crowded c then immediate c EventReply.Crowded else
    asks (bind_asks t f a)

-- an event of the run of this number: one that is past its deadline is over, and does nothing more
abbrev pub in_time : Core → ℕ → Run → Plan → Plan
in_time c i r p = if nat_lt r.deadline c.now then immediate (ended_run c i) EventReply.Expired else p

abbrev pub run_plan : Core → ℕ → Option Run → Plan
run_plan c i None = immediate c (no_run c i)
run_plan c i (Some r) = in_time c i r (asks (run_asks r))

abbrev pub crash_plan : Core → ℕ → Option Run → Plan
crash_plan c i None = immediate c (no_run c i)
crash_plan c i (Some r) = in_time c i r (immediate (ended_run c i) EventReply.Crashed)

abbrev pub restart_plan : Deployment → Core → IntentId → ℕ → Plan
restart_plan d c id f = if is_crowded c then immediate c EventReply.Crowded else immediate (with_run c (new_run d c id f)) (EventReply.Started (c.last_run + 1))

-- the moment of a host is at most this one, in ticks
abbrev pub last_moment : ℕ
last_moment = 2 ^ 62

abbrev pub tick_plan : Core → ℕ → Plan
tick_plan c n = if nat_lt last_moment (c.now + n) then immediate c EventReply.ClockEnd else immediate (record c { now = c.now + n }) (EventReply.Now (c.now + n))

abbrev pub plan_of : Deployment → Event → Core → Plan
plan_of d Ticket c = if c.newest == 2 ^ 32 - 1 then immediate c EventReply.NoTicket else asks (issue_asks (c.newest + 1))
plan_of d (Request t f a) c = request_plan c t f a
plan_of d (Turn i) c = run_plan c i (map.get c.runs i)
plan_of d (Lost i) c = run_plan c i (map.get c.runs i)
plan_of d (Crash i) c = crash_plan c i (map.get c.runs i)
plan_of d (Restart id f) c = restart_plan d c id f
plan_of d (Tick n) c = tick_plan c n
plan_of d Ic c = asks (collect_asks c.cursor)
plan_of d Halt c = reads_all

abbrev pub is_halt : Event → Bool
is_halt Halt = true
is_halt e = false

-- a host that is shut answers so to all but a halt
abbrev pub open_plan : Deployment → Event → Core → Plan
open_plan d e c = if c.shut && not (is_halt e) then immediate c EventReply.Shut else plan_of d e c

abbrev pub counted : Core → Core
counted c = record c { taken = c.taken + 1 }

-- a host that is spent counts no event
abbrev pub plan : Deployment → Event → Core → Plan
plan d e c = if nat_lt c.taken most_events then open_plan d e (counted c) else immediate c EventReply.Spent

-- ---- what follows where the table told
-- a ticket, by whether its row was added
abbrev pub ticket_next : Core → Bool → Core × EventReply
ticket_next c true = (record c { newest = c.newest + 1 }, EventReply.Issued (c.newest + 1))
ticket_next c false = (c, EventReply.Gone (c.newest + 1))

abbrev pub bound_next : Deployment → Core → ℕ → ℕ → Value → Core × EventReply
bound_next d c t f a = (record (with_run c (new_run d c (root_of t) f)) { book = c.book ++ Entry.Start t f a ∷ [] }, EventReply.Bound t (c.last_run + 1))

-- the answer where the root was not bound now
abbrev pub unbound : ℕ → Binding → EventReply
unbound t Binding.Bound = EventReply.Gone t
unbound t Binding.Running = EventReply.Running t
unbound t (Binding.Other f a) = EventReply.Other t f a
unbound t (Binding.Ended o) = EventReply.Replied t o
unbound t Binding.Gone = EventReply.Gone t

-- a request, by what its bind came to
abbrev pub request_next : Deployment → Core → ℕ → ℕ → Value → Binding → Core × EventReply
request_next d c t f a Binding.Bound = bound_next d c t f a
request_next d c t f a b = (c, unbound t b)

-- the entry of a mark
abbrev pub entry_of : IntentId → Mark → Entry
entry_of id (Mark.Read version) = Entry.Read id version
entry_of id Mark.Step = Entry.Step id
entry_of id Mark.CommittedTx = Entry.CommittedTx id
entry_of id (Mark.AbortedTx p holder) = Entry.AbortedTx id p holder

-- the book with the entry of an act, if it made one
abbrev pub marked : List Entry → IntentId → Option Mark → List Entry
marked book id m = book ++ option_to_list (option_map (entry_of id) m)

abbrev pub put_run : FinMap nat_cmp Run → ℕ → Option Run → FinMap nat_cmp Run
put_run m i None = map.remove m i
put_run m i (Some r) = map.insert m i r

-- whether an intent has a live run
abbrev pub has_run : FinMap nat_cmp Run → IntentId → Bool
has_run m id = list_any (λ e. is_eq (id_cmp e.1.id id)) (map.entries m)

-- a turn that was made: its entry, the run that it started, whether its own run is over, and the root that it ended
abbrev pub acted : IntentId → Option Mark → Bool → Option Outcome → Option ℕ → EventReply
acted id m over reply started = EventReply.Acted (option_map (entry_of id) m) started over (option_map (λ (o : Outcome). (id.ticket, o)) reply)

-- .. from the core that it left, and the number of the run that it started
abbrev pub made : IntentId → TurnOutput → Core × Option ℕ → Core × EventReply
made id x p = (p.0, acted id x.mark x.over x.reply p.1)

-- a run of what is called is started, if anything is
abbrev pub started : Core → Option Run → Core × Option ℕ
started c None = (c, None)
started c (Some r) = (with_run c r, Some (c.last_run + 1))

-- .. where it has none, and there is a place for one
abbrev pub may_start : Core → Option Run → Core × Option ℕ
may_start c None = (c, None)
may_start c (Some r) = if has_run c.runs r.id || is_crowded c then (c, None) else started c (Some r)

-- what follows of a turn, where this is a run of what it calls: it was made, or its run waits. Where the result of a call is not
-- there, it waits for a live run of the callee, or one is started.
abbrev pub after_turn : Core → Option Run → IntentId → TurnOutput → Option Wait → Core × EventReply
after_turn c o id x None = made id x (if x.starts then may_start c o else (c, None))
after_turn c o id x (Some (Wait.Held w)) = (c, EventReply.Held w)
after_turn c o id x (Some Wait.Worn) = (c, EventReply.Worn)
after_turn c o id x (Some (Wait.Result callee)) =
    if has_run c.runs callee then (c, EventReply.NotYet callee) else
    if is_crowded c then (c, EventReply.Crowded) else
    made id x (started c o)

-- the core after a turn, but for a run that it started
abbrev pub turned_core : Core → ℕ → IntentId → Turned → Core
turned_core c i id s = record c { runs = put_run c.runs i s.next; book = marked c.book id s.mark }

abbrev pub turn_next : Core → ℕ → Run → Turned → Core × EventReply
turn_next c i r s = after_turn (turned_core c i r.id s) (callee_of r) r.id (output_of s) s.wait

-- the run of this number is over, and the book has the entry of its act
abbrev pub without_run : Core → ℕ → IntentId → Option Mark → Core
without_run c i id m = record c { runs = map.remove c.runs i; book = marked c.book id m }

abbrev pub run_next : Deployment → Core → ℕ → QueryReply → Option Run → Core × EventReply
run_next d c i t None = (c, no_run c i)
run_next d c i t (Some r) = turn_next c i r (run_told d (count_changes c.book) r t)

-- ---- the intent collector: it goes from row to row, and launches a run of each intent that has not ended and has none
abbrev pub passed : Core → RowKey → Core × EventReply
passed c k = (record c { cursor = k }, EventReply.Passed)

abbrev pub launched : Deployment → Core → IntentId → ℕ → Core × EventReply
launched d c id f = (with_run c (new_run d c id f), EventReply.Launched (c.last_run + 1) id)

-- at an intent that has not ended it stays where the host is crowded
abbrev pub collected : Deployment → Core → RowKey → IntentId → ℕ → Core × EventReply
collected d c k id f =
    if has_run c.runs id then passed c k else
    if is_crowded c then (c, EventReply.Crowded) else
    launched d (record c { cursor = k }) id f

abbrev pub collect_next : Deployment → Core → Found → Core × EventReply
collect_next d c Found.Round = (record c { cursor = least_key }, EventReply.Round)
collect_next d c (Found.Passed k) = passed c k
collect_next d c (Found.Unended k id f) = collected d c k id f

-- .. and nobody heard it
abbrev pub unheard_next : Deployment → Core → ℕ → QueryReply → Option Run → Core
unheard_next d c i t None = c
unheard_next d c i t (Some r) = without_run c i r.id (run_told d (count_changes c.book) r t).mark

-- a crash, a restart, a tick and a halt ask nothing, so they hear nothing
abbrev pub on_reply : Deployment → Event → Core → QueryReply → Core × EventReply
on_reply d Ticket c t = ticket_next c (is_added t)
on_reply d (Request t f a) c u = request_next d c t f a (binding_of u)
on_reply d (Turn i) c t = run_next d c i t (map.get c.runs i)
on_reply d (Lost i) c t = (unheard_next d c i t (map.get c.runs i), EventReply.Dropped)
on_reply d (Crash i) c t = (c, EventReply.Crashed)
on_reply d (Restart id f) c t = (c, EventReply.Crowded)
on_reply d (Tick n) c t = (c, EventReply.ClockEnd)
on_reply d Ic c t = collect_next d c (collect_output t)
on_reply d Halt c t = (c, EventReply.Spent)

-- .. and then out of memory: what is left, none where that cannot be
abbrev pub if_lent : Bool → Core → Option Core
if_lent true c = Some c
if_lent false c = None

abbrev pub no_memory : Deployment → Event → Core → QueryReply → Option Core
no_memory d Ticket c t = None
no_memory d (Request t f a) c u = if_lent (lends u) c
no_memory d (Turn i) c t = Some (unheard_next d c i t (map.get c.runs i))
no_memory d (Lost i) c t = None
no_memory d (Crash i) c t = None
no_memory d (Restart id f) c t = None
no_memory d (Tick n) c t = None
no_memory d Ic c t = if_lent (lends t) c
no_memory d Halt c t = None

-- ---- what follows where it did not
abbrev pub refused_by : TableErr → Result EventReply AllocError
refused_by TableErr.OutOfMemory = Err (record {})
refused_by TableErr.Failed = Ok EventReply.Dropped
refused_by (TableErr.Full live room) = Ok (EventReply.Full live room)

-- a run that had the event is over, but for a turn where there was no room
abbrev pub refused : Event → Core → TableErr → Core × Result EventReply AllocError
refused Ticket c e = (c, refused_by e)
refused (Request t f a) c e = (c, refused_by e)
refused (Turn i) c (TableErr.Full live room) = (c, Ok (EventReply.Full live room))
refused (Turn i) c e = (ended_run c i, refused_by e)
refused (Lost i) c TableErr.OutOfMemory = (ended_run c i, Err (record {}))
refused (Lost i) c e = (ended_run c i, Ok EventReply.Dropped)
refused (Crash i) c e = (c, refused_by e)
refused (Restart id f) c e = (c, refused_by e)
refused (Tick n) c e = (c, refused_by e)
refused Ic c e = (c, refused_by e)
refused Halt c e = (c, refused_by e)

-- ---- a halt: what is volatile is gone; the book, the moment and the counts stay
abbrev pub halted : ℕ → Bool → Core → Core
halted newest shut c = record c { newest = newest; runs = map.empty; cursor = least_key; shut = shut; collectors = first_collectors }

-- .. by the newest ticket that was read, or what the reading met
abbrev pub halt_next : Core → Result ℕ TableErr → Core × Result EventReply AllocError
halt_next c (Ok t) = (halted t false c, Ok EventReply.Halted)
halt_next c (Err TableErr.OutOfMemory) = (halted c.newest c.shut c, Err (record {}))
halt_next c (Err e) = (halted c.newest true c, Ok EventReply.Dropped)

-- what the reading of a halt came to, over rows that are told
abbrev pub HaltOn : Result ℕ TableErr → Rows → Rows → Type 0
HaltOn w m n = (n ≡ m) × IfOk w (λ t. t ≡ newest_of m)

-- .. over any table: it makes as many calls as it takes
pub record HaltCame (w : Result ℕ TableErr) (old new : TableState) : Type 0 where
  pub rows : Tells old.rows new.rows (λ m n. HaltOn w m n)
  pub fits : IsNotFull w
  pub cause : HasCause old.faults new.faults w
  pub room : new.room ≡ old.room

-- ---- one event
-- what followed, by what the query came to
abbrev pub Followed : Deployment → Event → Core → Result QueryReply TableErr → Core → Result EventReply AllocError → Type 0
Followed d e c (Ok t) z (Ok x) = (z, x) ≡ on_reply d e c t
Followed d e c (Ok t) z (Err w) = no_memory d e c t ≡ Some z
Followed d e c (Err v) z r = (z, r) ≡ refused e c v

-- a run was started
abbrev pub StartsRun : EventReply → Type 0
StartsRun (EventReply.Started i) = Unit {0}
StartsRun x = ⊥

-- an event that is answered at once makes no call; out of memory it is only where a run would start
abbrev pub LocalSteps : Core → Core → EventReply → Core → Result EventReply AllocError → Type 0
LocalSteps c b y z (Ok x) = (z ≡ b) × (x ≡ y)
LocalSteps c b y z (Err w) = (z ≡ c) × StartsRun y

-- any other but a halt makes one query, and one witness says what it came to
abbrev pub StepBy : Deployment → Event → Core → Plan → Core → TableState → TableState → Result EventReply AllocError → Type 0
StepBy d e c (immediate b y) z old new r = LocalSteps c b y z r × (new ≡ old)
StepBy d e c (asks q) z old new r = (w : Result QueryReply TableErr) × Followed d e c w z r × Came q c.now w old new
StepBy d e c reads_all z old new r = (w : Result ℕ TableErr) × ((z, r) ≡ halt_next c w) × HaltCame w old new

-- what a call that carries out an event does
abbrev pub Stepped : Deployment → Event → Core → Core → TableState → TableState → Result EventReply AllocError → Type 0
Stepped d e c z old new r = StepBy d e (counted c) (plan d e c) z old new r

-- .. and over rows that are told: from the core c and the rows m an event leaves z and n, and comes to r. The table's count of
-- failures was `old` before, and is `new` now.
abbrev pub EventBy : Deployment → ℕ → ℕ → ℕ → Event → Core → Plan → Rows → Core → Rows → Result EventReply AllocError → Type 0
EventBy d room old new e c (immediate b y) m z n r = LocalSteps c b y z r × (n ≡ m) × (new ≡ old)
EventBy d room old new e c (asks q) m z n r = (w : Result QueryReply TableErr) × Followed d e c w z r × CameOn q c.now room w m n × HasCause old new w
EventBy d room old new e c reads_all m z n r = (w : Result ℕ TableErr) × ((z, r) ≡ halt_next c w) × HaltOn w m n × HasCause old new w

abbrev pub EventOn : Deployment → ℕ → ℕ → ℕ → Event → Core → Rows → Core → Rows → Result EventReply AllocError → Type 0
EventOn d room old new e c m z n r = EventBy d room old new e (counted c) (plan d e c) m z n r
