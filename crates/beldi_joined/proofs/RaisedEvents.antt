-- Events of a host behind a longer book.
use Rattle.std.specs.Prelude.{ℕ, ◌≡◌, ◌+◌, ◌==◌, ◌||◌, ◌&&◌, not, ◌^◌, ◌-◌, nat_le, nat_lt, Bool, true, false, List, [], ◌∷◌, ◌++◌, option_to_list, Option, Some, None, Result, Ok, Err, if◌then◌else◌, refl}
use Rattle.std.specs.{Option.option_map, declared.alloc.AllocError.AllocError}
use Rattle.std.specs.FinMap as finite
use Rattle.std.proofs.Common.{ap, sym, subst, ◌∙◌}
use Rattle.beldi_value.specs.{Id.root_of, declared.id.IntentId.IntentId, declared.value.Value.Value, declared.outcome.Outcome.Outcome}
use Rattle.beldi_tree.specs.declared.deployment.Deployment.{Deployment}
use Rattle.beldi_book.specs.{declared.entry.Entry.Entry, LinearOrder.count_changes}
use Rattle.beldi_row.specs.{declared.table.TableErr.TableErr, Table.Rows, Key.RowKey}
use Rattle.beldi_query.specs.{Query.QueryReply, Query.lends}
use Rattle.beldi_intent.specs.Intent.{binding_of, bind_asks, is_added, issue_asks}
use Rattle.beldi_intent.specs.declared.intent.Binding.{Binding}
use Rattle.beldi_collect.specs.{declared.cursor.Found.Found, Collect.collect_output}
use Rattle.beldi_step.specs.declared.event.Event.TheVariants.{Ticket, Request, Turn, Lost, Crash, Restart, Tick, Ic, Halt}
use Rattle.beldi_step.specs.declared.{event.Event.Event, event.EventReply.EventReply, run.Mark.Mark, run.Run.Run, run.Wait.Wait, run.TurnOutput.TurnOutput}
use Rattle.beldi_step.specs.Run.{Turned, callee_of, run_asks, run_told, output_of}
use Rattle.beldi_step.specs.HostStep.{LocalSteps, Core, EventBy, EventOn, Followed, Plan, StartsRun, after_turn, asks, immediate, bound_next, collect_next, collected, counted, crash_plan, ended_run, entry_of, halt_next, halted, has_run, on_reply, if_lent, in_time, is_crowded, is_halt, last_moment, launched, made, marked, may_start, most_events, most_runs, new_run, no_memory, no_run, open_plan, plan, plan_of, reads_all, refused, refused_by, request_next, request_plan, restart_plan, run_next, run_plan, started, ticket_next, turn_next, turned_core, unheard_next, with_run, without_run}
use Rattle.beldi_joined.specs.Joined.{behind, joined, raised, raised_answer, raised_entry, raised_mark, raised_run, raised_reply}
use Rattle.beldi_joined.proofs.Books.{count_joined, joined_more}
use Rattle.beldi_joined.proofs.RaisedRuns.{empty_raised, get_raised, has_raised, insert_raised, len_raised, put_raised, remove_raised}
use Rattle.beldi_joined.proofs.RaisedTurns.{asked_raised, callee_raised, if_pushed, raised_turn_output, raised_turned, output_raised, told_raised}

module _ (base : List Entry) where
  abbrev more : ℕ
  more = count_changes base

  -- a core with an answer, with the number of a run, and a plan
  abbrev answered : Core × EventReply → Core × EventReply
  answered p = (behind base p.0, raised_reply more p.1)

  abbrev numbered : Core × Option ℕ → Core × Option ℕ
  numbered p = (behind base p.0, p.1)

  abbrev planned : Plan → Plan
  planned (immediate c y) = immediate (behind base c) (raised_reply more y)
  planned (asks q) = asks q
  planned reads_all = reads_all

  -- ---- the book and the runs
  entry_raised : (id : IntentId) (m : Mark) → entry_of id (raised_mark more m) ≡ raised_entry more (entry_of id m)
  entry_raised id (Mark.Read version) = refl
  entry_raised id Mark.Step = refl
  entry_raised id Mark.CommittedTx = refl
  entry_raised id (Mark.AbortedTx p holder) = refl

  entry_if_raised : (id : IntentId) (m : Option Mark) → option_map (entry_of id) (option_map (raised_mark more) m) ≡ option_map (raised_entry more) (option_map (entry_of id) m)
  entry_if_raised id None = refl
  entry_if_raised id (Some m) = ap Some (entry_raised id m)

  list_raised : (o : Option Entry) → option_to_list (option_map (raised_entry more) o) ≡ raised more (option_to_list o)
  list_raised None = refl
  list_raised (Some e) = refl

  marked_behind : (book : List Entry) (id : IntentId) (m : Option Mark) → marked (joined base book) id (option_map (raised_mark more) m) ≡ joined base (marked book id m)
  marked_behind book id m = ap (λ o. joined base book ++ option_to_list o) (entry_if_raised id m) ∙ ap (λ es. joined base book ++ es) (list_raised (option_map (entry_of id) m)) ∙ sym (joined_more base book (option_to_list (option_map (entry_of id) m)))

  module _ (c : Core) where
    with_behind : (r : Run) → with_run (behind base c) (raised_run more r) ≡ behind base (with_run c r)
    with_behind r = ap (λ runs. record (behind base c) { runs = runs; last_run = c.last_run + 1 }) (sym (insert_raised more c.runs (c.last_run + 1) r))

    ended_behind : (i : ℕ) → ended_run (behind base c) i ≡ behind base (ended_run c i)
    ended_behind i = ap (λ runs. record (behind base c) { runs = runs }) (sym (remove_raised more c.runs i))

    without_behind : (i : ℕ) (id : IntentId) (m : Option Mark) → without_run (behind base c) i id (option_map (raised_mark more) m) ≡ behind base (without_run c i id m)
    without_behind i id m = λ j. record (behind base c) { runs = sym (remove_raised more c.runs i) j; book = marked_behind c.book id m j }

    turned_behind : (i : ℕ) (id : IntentId) (s : Turned) → turned_core (behind base c) i id (raised_turned more s) ≡ behind base (turned_core c i id s)
    turned_behind i id s = λ j. record (behind base c) { runs = sym (put_raised more c.runs i s.next) j; book = marked_behind c.book id s.mark j }

    crowded_behind : is_crowded (behind base c) ≡ is_crowded c
    crowded_behind = ap (nat_le most_runs) (len_raised more c.runs)

    none_behind : (i : ℕ) → no_run c i ≡ raised_reply more (no_run c i)
    none_behind i = if_pushed (raised_reply more) ((i == 0) || nat_lt c.last_run i) EventReply.NoRun EventReply.RunOver

  -- ---- what follows of a turn
  made_behind : (id : IntentId) (x : TurnOutput) (p : Core × Option ℕ) → made id (raised_turn_output more x) (numbered p) ≡ answered (made id x p)
  made_behind id x p = ap (λ e. (behind base p.0, EventReply.Acted e p.1 x.over (option_map (λ (o : Outcome). (id.ticket, o)) x.reply))) (entry_if_raised id x.mark)

  started_behind : (c : Core) (o : Option Run) → started (behind base c) (option_map (raised_run more) o) ≡ numbered (started c o)
  started_behind c None = refl
  started_behind c (Some r) = ap (λ z. (z, Some (c.last_run + 1))) (with_behind c r)

  may_start_behind : (c : Core) (o : Option Run) → may_start (behind base c) (option_map (raised_run more) o) ≡ numbered (may_start c o)
  may_start_behind c None = refl
  may_start_behind c (Some r) = (λ j. if has_raised more c.runs r.id j || crowded_behind c j then (behind base c, None) else started_behind c (Some r) j)
      ∙ if_pushed numbered (has_run c.runs r.id || is_crowded c) (c, None) (started c (Some r))

  may_behind : (c : Core) (o : Option Run) (b : Bool) → (if b then may_start (behind base c) (option_map (raised_run more) o) else (behind base c, None)) ≡ numbered (if b then may_start c o else (c, None))
  may_behind c o true = may_start_behind c o
  may_behind c o false = refl

  after_behind : (c : Core) (o : Option Run) (id : IntentId) (x : TurnOutput) (w : Option Wait) → after_turn (behind base c) (option_map (raised_run more) o) id (raised_turn_output more x) w ≡ answered (after_turn c o id x w)
  after_behind c o id x None = ap (made id (raised_turn_output more x)) (may_behind c o x.starts) ∙ made_behind id x (if x.starts then may_start c o else (c, None))
  after_behind c o id x (Some (Wait.Held w)) = refl
  after_behind c o id x (Some Wait.Worn) = refl
  after_behind c o id x (Some (Wait.Result callee)) =
      (λ j. if has_raised more c.runs callee j then (behind base c, EventReply.NotYet callee) else (if crowded_behind c j then (behind base c, EventReply.Crowded) else (ap (made id (raised_turn_output more x)) (started_behind c o) ∙ made_behind id x (started c o)) j))
      ∙ ap (λ z. if has_run c.runs callee then (behind base c, EventReply.NotYet callee) else z) (if_pushed answered (is_crowded c) (c, EventReply.Crowded) (made id x (started c o)))
      ∙ if_pushed answered (has_run c.runs callee) (c, EventReply.NotYet callee) (if is_crowded c then (c, EventReply.Crowded) else made id x (started c o))

  turn_behind : (c : Core) (i : ℕ) (r : Run) (s : Turned) → turn_next (behind base c) i (raised_run more r) (raised_turned more s) ≡ answered (turn_next c i r s)
  turn_behind c i r s = (λ j. after_turn (turned_behind c i r.id s j) (callee_raised more r j) r.id (output_raised more s j) s.wait) ∙ after_behind (turned_core c i r.id s) (callee_of r) r.id (output_of s) s.wait

  -- what a run goes on to, by how many changes there are behind the longer book
  run_raised : (d : Deployment) (c : Core) (r : Run) (t : QueryReply) → run_told d (count_changes (joined base c.book)) (raised_run more r) t ≡ raised_turned more (run_told d (count_changes c.book) r t)
  run_raised d c r t = ap (λ k. run_told d k (raised_run more r) t) (count_joined base c.book) ∙ told_raised more d r (count_changes c.book) t

  run_behind : (d : Deployment) (c : Core) (i : ℕ) (t : QueryReply) (o : Option Run) → run_next d (behind base c) i t (option_map (raised_run more) o) ≡ answered (run_next d c i t o)
  run_behind d c i t None = ap (λ x. (behind base c, x)) (none_behind c i)
  run_behind d c i t (Some r) = ap (turn_next (behind base c) i (raised_run more r)) (run_raised d c r t) ∙ turn_behind c i r (run_told d (count_changes c.book) r t)

  unheard_behind : (d : Deployment) (c : Core) (i : ℕ) (t : QueryReply) (o : Option Run) → unheard_next d (behind base c) i t (option_map (raised_run more) o) ≡ behind base (unheard_next d c i t o)
  unheard_behind d c i t None = refl
  unheard_behind d c i t (Some r) = ap (λ (s : Turned). without_run (behind base c) i r.id s.mark) (run_raised d c r t) ∙ without_behind c i r.id (run_told d (count_changes c.book) r t).mark

  -- ---- what an event asks
  in_time_behind : (c : Core) (i : ℕ) (r : Run) (p q : Plan) → q ≡ planned p → in_time (behind base c) i (raised_run more r) q ≡ planned (in_time c i r p)
  in_time_behind c i r p q same = (λ j. if nat_lt r.deadline c.now then immediate (ended_behind c i j) EventReply.Expired else same j) ∙ if_pushed planned (nat_lt r.deadline c.now) (immediate (ended_run c i) EventReply.Expired) p

  run_planned : (c : Core) (i : ℕ) (o : Option Run) → run_plan (behind base c) i (option_map (raised_run more) o) ≡ planned (run_plan c i o)
  run_planned c i None = ap (immediate (behind base c)) (none_behind c i)
  run_planned c i (Some r) = in_time_behind c i r (asks (run_asks r)) (asks (run_asks (raised_run more r))) (ap asks (asked_raised more r))

  crash_planned : (c : Core) (i : ℕ) (o : Option Run) → crash_plan (behind base c) i (option_map (raised_run more) o) ≡ planned (crash_plan c i o)
  crash_planned c i None = ap (immediate (behind base c)) (none_behind c i)
  crash_planned c i (Some r) = in_time_behind c i r (immediate (ended_run c i) EventReply.Crashed) (immediate (ended_run (behind base c) i) EventReply.Crashed) (ap (λ z. immediate z EventReply.Crashed) (ended_behind c i))

  request_planned : (c : Core) (t f : ℕ) (a : Value) → request_plan (behind base c) t f a ≡ planned (request_plan c t f a)
  request_planned c t f a =
      let histories = (t == 0) || nat_lt c.newest t in
      (λ j. if histories then immediate (behind base c) (EventReply.Unknown t) else (if crowded_behind c j then immediate (behind base c) EventReply.Crowded else asks (bind_asks t f a)))
      ∙ ap (λ z. if histories then immediate (behind base c) (EventReply.Unknown t) else z) (if_pushed planned (is_crowded c) (immediate c EventReply.Crowded) (asks (bind_asks t f a)))
      ∙ if_pushed planned histories (immediate c (EventReply.Unknown t)) (if is_crowded c then immediate c EventReply.Crowded else asks (bind_asks t f a))

  restart_planned : (d : Deployment) (c : Core) (id : IntentId) (f : ℕ) → restart_plan d (behind base c) id f ≡ planned (restart_plan d c id f)
  restart_planned d c id f = (λ j. if crowded_behind c j then immediate (behind base c) EventReply.Crowded else immediate (with_behind c (new_run d c id f) j) (EventReply.Started (c.last_run + 1)))
      ∙ if_pushed planned (is_crowded c) (immediate c EventReply.Crowded) (immediate (with_run c (new_run d c id f)) (EventReply.Started (c.last_run + 1)))

  planned_of : (d : Deployment) (e : Event) (c : Core) → plan_of d e (behind base c) ≡ planned (plan_of d e c)
  planned_of d Ticket c = if_pushed planned (c.newest == 2 ^ 32 - 1) (immediate c EventReply.NoTicket) (asks (issue_asks (c.newest + 1)))
  planned_of d (Request t f a) c = request_planned c t f a
  planned_of d (Turn i) c = ap (run_plan (behind base c) i) (get_raised more c.runs i) ∙ run_planned c i (finite.get c.runs i)
  planned_of d (Lost i) c = ap (run_plan (behind base c) i) (get_raised more c.runs i) ∙ run_planned c i (finite.get c.runs i)
  planned_of d (Crash i) c = ap (crash_plan (behind base c) i) (get_raised more c.runs i) ∙ crash_planned c i (finite.get c.runs i)
  planned_of d (Restart id f) c = restart_planned d c id f
  planned_of d (Tick n) c = if_pushed planned (nat_lt last_moment (c.now + n)) (immediate c EventReply.ClockEnd) (immediate (record c { now = c.now + n }) (EventReply.Now (c.now + n)))
  planned_of d Ic c = refl
  planned_of d Halt c = refl

  plan_behind : (d : Deployment) (e : Event) (c : Core) → plan d e (behind base c) ≡ planned (plan d e c)
  plan_behind d e c =
      let away = c.shut && not (is_halt e) in
      let open_is = ap (λ z. if away then immediate (behind base (counted c)) EventReply.Shut else z) (planned_of d e (counted c)) ∙ if_pushed planned away (immediate (counted c) EventReply.Shut) (plan_of d e (counted c)) in
      ap (λ z. if nat_lt c.taken most_events then z else immediate (behind base c) EventReply.Spent) open_is ∙ if_pushed planned (nat_lt c.taken most_events) (open_plan d e (counted c)) (immediate c EventReply.Spent)

  -- ---- what follows where the table told
  ticket_behind : (c : Core) (b : Bool) → ticket_next (behind base c) b ≡ answered (ticket_next c b)
  ticket_behind c true = refl
  ticket_behind c false = refl

  bound_behind : (d : Deployment) (c : Core) (t f : ℕ) (a : Value) → bound_next d (behind base c) t f a ≡ answered (bound_next d c t f a)
  bound_behind d c t f a = λ j. (record (with_behind c (new_run d c (root_of t) f) j) { book = sym (joined_more base c.book (Entry.Start t f a ∷ [])) j }, EventReply.Bound t (c.last_run + 1))

  request_behind : (d : Deployment) (c : Core) (t f : ℕ) (a : Value) (b : Binding) → request_next d (behind base c) t f a b ≡ answered (request_next d c t f a b)
  request_behind d c t f a Binding.Bound = bound_behind d c t f a
  request_behind d c t f a Binding.Running = refl
  request_behind d c t f a (Binding.Other g v) = refl
  request_behind d c t f a (Binding.Ended o) = refl
  request_behind d c t f a Binding.Gone = refl

  collected_behind : (d : Deployment) (c : Core) (k : RowKey) (id : IntentId) (f : ℕ) → collected d (behind base c) k id f ≡ answered (collected d c k id f)
  collected_behind d c k id f =
      let b : Core = record c { cursor = k } in
      (λ j. if has_raised more c.runs id j then (behind base b, EventReply.Passed) else (if crowded_behind c j then (behind base c, EventReply.Crowded) else (with_behind b (new_run d b id f) j, EventReply.Launched (c.last_run + 1) id)))
      ∙ ap (λ z. if has_run c.runs id then (behind base b, EventReply.Passed) else z) (if_pushed answered (is_crowded c) (c, EventReply.Crowded) (launched d b id f))
      ∙ if_pushed answered (has_run c.runs id) (b, EventReply.Passed) (if is_crowded c then (c, EventReply.Crowded) else launched d b id f)

  collect_behind : (d : Deployment) (c : Core) (x : Found) → collect_next d (behind base c) x ≡ answered (collect_next d c x)
  collect_behind d c Found.Round = refl
  collect_behind d c (Found.Passed k) = refl
  collect_behind d c (Found.Unended k id f) = collected_behind d c k id f

  on_reply_behind : (d : Deployment) (e : Event) (c : Core) (t : QueryReply) → on_reply d e (behind base c) t ≡ answered (on_reply d e c t)
  on_reply_behind d Ticket c t = ticket_behind c (is_added t)
  on_reply_behind d (Request t f a) c u = request_behind d c t f a (binding_of u)
  on_reply_behind d (Turn i) c t = ap (run_next d (behind base c) i t) (get_raised more c.runs i) ∙ run_behind d c i t (finite.get c.runs i)
  on_reply_behind d (Lost i) c t = ap (λ z. (z, EventReply.Dropped)) (ap (unheard_next d (behind base c) i t) (get_raised more c.runs i) ∙ unheard_behind d c i t (finite.get c.runs i))
  on_reply_behind d (Crash i) c t = refl
  on_reply_behind d (Restart id f) c t = refl
  on_reply_behind d (Tick n) c t = refl
  on_reply_behind d Ic c t = collect_behind d c (collect_output t)
  on_reply_behind d Halt c t = refl

  lent_behind : (b : Bool) (c : Core) → if_lent b (behind base c) ≡ option_map (behind base) (if_lent b c)
  lent_behind true c = refl
  lent_behind false c = refl

  no_memory_behind : (d : Deployment) (e : Event) (c : Core) (t : QueryReply) → no_memory d e (behind base c) t ≡ option_map (behind base) (no_memory d e c t)
  no_memory_behind d Ticket c t = refl
  no_memory_behind d (Request t f a) c u = lent_behind (lends u) c
  no_memory_behind d (Turn i) c t = ap Some (ap (unheard_next d (behind base c) i t) (get_raised more c.runs i) ∙ unheard_behind d c i t (finite.get c.runs i))
  no_memory_behind d (Lost i) c t = refl
  no_memory_behind d (Crash i) c t = refl
  no_memory_behind d (Restart id f) c t = refl
  no_memory_behind d (Tick n) c t = refl
  no_memory_behind d Ic c t = lent_behind (lends t) c
  no_memory_behind d Halt c t = refl

  -- ---- where it did not
  abbrev failed : Core × Result EventReply AllocError → Core × Result EventReply AllocError
  failed p = (behind base p.0, raised_answer more p.1)

  refused_same : (v : TableErr) → refused_by v ≡ raised_answer more (refused_by v)
  refused_same TableErr.OutOfMemory = refl
  refused_same TableErr.Failed = refl
  refused_same (TableErr.Full live room) = refl

  refused_behind : (e : Event) (c : Core) (v : TableErr) → refused e (behind base c) v ≡ failed (refused e c v)
  refused_behind Ticket c v = ap (λ x. (behind base c, x)) (refused_same v)
  refused_behind (Request t f a) c v = ap (λ x. (behind base c, x)) (refused_same v)
  refused_behind (Turn i) c (TableErr.Full live room) = refl
  refused_behind (Turn i) c TableErr.OutOfMemory = ap (λ z. (z, Err (record {}))) (ended_behind c i)
  refused_behind (Turn i) c TableErr.Failed = ap (λ z. (z, Ok EventReply.Dropped)) (ended_behind c i)
  refused_behind (Lost i) c TableErr.OutOfMemory = ap (λ z. (z, Err (record {}))) (ended_behind c i)
  refused_behind (Lost i) c TableErr.Failed = ap (λ z. (z, Ok EventReply.Dropped)) (ended_behind c i)
  refused_behind (Lost i) c (TableErr.Full live room) = ap (λ z. (z, Ok EventReply.Dropped)) (ended_behind c i)
  refused_behind (Crash i) c v = ap (λ x. (behind base c, x)) (refused_same v)
  refused_behind (Restart id f) c v = ap (λ x. (behind base c, x)) (refused_same v)
  refused_behind (Tick n) c v = ap (λ x. (behind base c, x)) (refused_same v)
  refused_behind Ic c v = ap (λ x. (behind base c, x)) (refused_same v)
  refused_behind Halt c v = ap (λ x. (behind base c, x)) (refused_same v)

  -- ---- a halt
  halted_behind : (t : ℕ) (shut : Bool) (c : Core) → halted t shut (behind base c) ≡ behind base (halted t shut c)
  halted_behind t shut c = ap (λ runs. record (halted t shut (behind base c)) { runs = runs }) (sym (empty_raised more))

  halt_behind : (c : Core) (w : Result ℕ TableErr) → halt_next (behind base c) w ≡ failed (halt_next c w)
  halt_behind c (Ok t) = ap (λ z. (z, Ok EventReply.Halted)) (halted_behind t false c)
  halt_behind c (Err TableErr.OutOfMemory) = ap (λ z. (z, Err (record {}))) (halted_behind c.newest c.shut c)
  halt_behind c (Err v) = ap (λ z. (z, Ok EventReply.Dropped)) (halted_behind c.newest true c)

  -- ---- one event
  starts_same : (y : EventReply) → StartsRun y → StartsRun (raised_reply more y)
  starts_same (EventReply.Started i) h = tt
  starts_same y h = absurd h

  at_once_behind : (c b : Core) (y : EventReply) (z : Core) (r : Result EventReply AllocError) → LocalSteps c b y z r → LocalSteps (behind base c) (behind base b) (raised_reply more y) (behind base z) (raised_answer more r)
  at_once_behind c b y z (Ok x) h = (ap (behind base) h.0, ap (raised_reply more) h.1)
  at_once_behind c b y z (Err w) h = (ap (behind base) h.0, starts_same y h.1)

  followed_behind : (d : Deployment) (e : Event) (c : Core) (w : Result QueryReply TableErr) (z : Core) (r : Result EventReply AllocError) → Followed d e c w z r → Followed d e (behind base c) w (behind base z) (raised_answer more r)
  followed_behind d e c (Ok t) z (Ok x) h = ap answered h ∙ sym (on_reply_behind d e c t)
  followed_behind d e c (Ok t) z (Err w) h = no_memory_behind d e c t ∙ ap (option_map (behind base)) h
  followed_behind d e c (Err v) z r h = ap failed h ∙ sym (refused_behind e c v)

  module _ (d : Deployment) (room old new : ℕ) (e : Event) where
    event_behind : (c : Core) (p : Plan) (m : Rows) (z : Core) (n : Rows) (r : Result EventReply AllocError) → EventBy d room old new e c p m z n r → EventBy d room old new e (behind base c) (planned p) m (behind base z) n (raised_answer more r)
    event_behind c (immediate b y) m z n r h = (at_once_behind c b y z r h.0, h.1, h.2)
    event_behind c (asks q) m z n r h = (h.0, followed_behind d e c h.0 z r h.1, h.2, h.3)
    event_behind c reads_all m z n r h = (h.0, ap failed h.1 ∙ sym (halt_behind c h.0), h.2, h.3)

    pub step_behind : (c b : Core) (m n : Rows) (r : Result EventReply AllocError) → EventOn d room old new e c m b n r → EventOn d room old new e (behind base c) m (behind base b) n (raised_answer more r)
    step_behind c b m n r h = subst (λ p. EventBy d room old new e (behind base (counted c)) p m (behind base b) n (raised_answer more r)) (sym (plan_behind d e c)) (event_behind (counted c) (plan d e c) m b n r h)

pub steps_behind : (d : Deployment) (base : List Entry) (room old new : ℕ) (e : Event) (c b : Core) (m n : Rows) (r : Result EventReply AllocError) → EventOn d room old new e c m b n r → EventOn d room old new e (behind base c) m (behind base b) n (raised_answer (count_changes base) r)
steps_behind d base room old new e c b m n r h = step_behind base d room old new e c b m n r h
