-- What one event changes: at most one row, never past the room, and at most one entry of the book, which its answer tells.
use Rattle.std.specs.Prelude.{◌&&◌}
use Rattle.std.proofs.Common.{nat_lt}
use Rattle.std.proofs.lemmas.List.{append-nil}
use Rattle.beldi_query.specs.declared.query.Query.TheVariants.{Act}
use Rattle.beldi_collect.specs.declared.cursor.Found.{Found}
use Rattle.beldi_row.specs.Act.{prunes}
use Rattle.beldi_query.specs.Query.{may_remove}
use Rattle.beldi_step.proofs.{StepRuns.of_plan, Spares.plan_removes, Spares.plan_spares}
use Rattle.beldi_step.specs.{declared.run.RunAt.RunAt, Run.callee_of, HostStep.immediate}
use Rattle.beldi_invariant.proofs.Names.{After, AllocError, Begins, Begun, Binding, Body, BookGrew, Bool, Caller, CameOn, ChangesOneRow, Core, Crash, Deployment, DropsHaveCause, Err, Event, EventBy, Failed, Followed, Full, Func, Halt, HaltCame, Ic, IfOk, IntentId, IsTrue, KeepsRoom, Looks, Lost, Machine, Mark, None, Ok, OneRowChanged, Option, OutOfMemory, Plan, Query, Registers, Request, Restart, Result, Rose, Row, RowAct, RowKey, Rows, Run, RunTx, StageOutput, EventReply, Some, Stage, Start, StepBy, TableErr, TableState, Tick, Ticket, QueryReply, Turn, Turned, Value, Wait, WritesWhatIsTold, [], act, after_act, after_turn, ap, arith, asks, local_steps_of, begin_in, binding_of, body_registered, body_told, bound_by, bound_of, chain_off, collect_next, collect_output, collected, cond, content, content_of, count_changes, counted, crash_plan, ended_run, reply_entries, entry_of, false, first_stage, func_at, goes_from, goes_to, halt_next, halted, has_run, head_key, on_reply, if_lent, if◌then◌else◌, inl, inr, is_added, is_crowded, is_dropped, is_lost, is_some, item_head, key_total, last_moment, launched, least_key, len-insert, len-remove, lends, made, marked, may_start, no_memory, no_run, not, off, option_map, option_to_list, passed, plan, plan_of, query_adds, reads_all, refl, refused, refused_by, refused_stand, request_next, rows_after, run_next, run_plan, run_told, same_some, output_of, set_others, set_row, stage_output, started, starts_of, subst, sym, ticket_next, told_at, true, turn_next, turned_by, turned_core, unbound, unheard_next, ℕ, ◌+◌, ◌-◌, ◌<◌, ◌==◌, ◌^◌, ◌||◌, ◌∙◌, ◌≡◌, ◌≤◌}
use Rattle.beldi_invariant.proofs.Moves.{if_plan}
use Rattle.beldi_invariant.proofs.Names.map

-- ---- rows
same_rows : (c : Core) (m n : Rows) → n ≡ m → OneRowChanged c m n
same_rows c m n same = record { key = least_key; rows = inl same; others = λ x apart. ap (λ l. content_of l x) same }

one_act : (c : Core) (m n : Rows) (k : RowKey) (a : RowAct) → prunes a ≡ false → n ≡ after_act a c.now k m → OneRowChanged c m n
one_act c m n k a keeps is = record { key = k; rows = inr (a, keeps, is); others = λ x apart. ap (λ l. content_of l x) is ∙ ap content (chain_off m (after_act a c.now k m) k (head_key x) (set_others m k (act a c.now (map.get m k)).0) (item_head x) apart) }

by_query : (c : Core) (q : Query) (m n : Rows) → may_remove q ≡ false → n ≡ rows_after q c.now m → OneRowChanged c m n
by_query c (Act k a) m n keeps is = one_act c m n k a keeps is
by_query c (After k) m n keeps is = same_rows c m n is

came_on_one : (c : Core) (room : ℕ) (q : Query) → may_remove q ≡ false → (w : Result QueryReply TableErr) (m n : Rows) → CameOn q c.now room w m n → OneRowChanged c m n
came_on_one c room q keeps (Ok t) m n p = by_query c q m n keeps p.0
came_on_one c room q keeps (Err v) m n p = same_rows c m n (refused_stand q c.now room v m n p)

by_plan : (d : Deployment) (room old new : ℕ) (e : Event) (c b : Core) (m n : Rows) (r : Result EventReply AllocError) (p : Plan) → plan_removes p ≡ false → EventBy d room old new e c p m b n r → OneRowChanged c m n
by_plan d room old new e c b m n r (immediate k y) keeps s = same_rows c m n s.1
by_plan d room old new e c b m n r (asks q) keeps s = came_on_one c room q keeps s.0 m n s.2
by_plan d room old new e c b m n r reads_all keeps s = same_rows c m n s.2.0

pub one_row : ChangesOneRow
one_row d room old new e c b m n r s = let o = by_plan d room old new e (counted c) b m n r (plan d e c) (plan_spares d e c) s in record { key = o.key; rows = o.rows; others = o.others }

-- ---- no event takes the rows past the room
set_fits : (m : Rows) (k : RowKey) (room : ℕ) (v : Option Row) → map.len m ≤ room → (IsTrue (not (map.contains_key m k) && is_some v) → map.len m < room) → map.len (set_row m k v) ≤ room
set_fits m k room None h more = subst (λ n. n ≤ room) (sym (len-remove key_total m k)) (by_test (map.contains_key m k))
  where
    by_test : (b : Bool) → cond b (map.len m - 1) (map.len m) ≤ room
    by_test b = grind arith
set_fits m k room (Some r) h more = subst (λ n. n ≤ room) (sym (len-insert key_total m k r)) (by_test (map.contains_key m k) more)
  where
    by_test : (b : Bool) → (IsTrue (not b && true) → map.len m < room) → cond b (map.len m) (map.len m + 1) ≤ room
    by_test b more = grind arith

adds_row : (a : RowAct) (now : ℕ) (o : Option Row) → IsTrue (not (is_some o) && is_some (act a now o).0) → IsTrue (not (is_some o) && is_some (off a now).0)
adds_row a now o h = grind arith

query_fits : (q : Query) (now room : ℕ) (m : Rows) → map.len m ≤ room → (IsTrue (query_adds q now m) → map.len m < room) → map.len (rows_after q now m) ≤ room
query_fits (Act k a) now room m h more = set_fits m k room (act a now (map.get m k)).0 h (λ t. more (adds_row a now (map.get m k) t))
query_fits (After k) now room m h more = h

came_fits : (q : Query) (now room : ℕ) (w : Result QueryReply TableErr) (m n : Rows) → CameOn q now room w m n → map.len m ≤ room → map.len n ≤ room
came_fits q now room (Ok t) m n p h = subst (λ l. map.len l ≤ room) (sym p.0) (query_fits q now room m h p.2)
came_fits q now room (Err v) m n p h = subst (λ l. map.len l ≤ room) (sym (refused_stand q now room v m n p)) h

plan_fits : (d : Deployment) (room old new : ℕ) (e : Event) (c b : Core) (m n : Rows) (r : Result EventReply AllocError) (p : Plan) → EventBy d room old new e c p m b n r → map.len m ≤ room → map.len n ≤ room
plan_fits d room old new e c b m n r (immediate k y) s h = subst (λ l. map.len l ≤ room) (sym s.1) h
plan_fits d room old new e c b m n r (asks q) s h = came_fits q c.now room s.0 m n s.2 h
plan_fits d room old new e c b m n r reads_all s h = subst (λ l. map.len l ≤ room) (sym s.2.0) h

pub keeps_room : KeepsRoom
keeps_room d room old new e c b m n r s h = plan_fits d room old new e (counted c) b m n r (plan d e c) s h

-- ---- the book
-- the entry of an act starts nothing
act_starts_none : (id : IntentId) (k : Option Mark) → starts_of (option_to_list (option_map (entry_of id) k)) ≡ []
act_starts_none id k = grind arith

-- an answer that tells no entry
abbrev is_silent : EventReply → Bool
is_silent (EventReply.Bound t run) = false
is_silent (EventReply.Acted entry started over reply) = false
is_silent x = true

told_none : (e : Event) (x : EventReply) → is_silent x ≡ true → (reply_entries e x ≡ []) × (bound_of e x ≡ [])
told_none e x silent = grind arith

-- out of memory for what was lent, nothing was done
pub lent_only : (b : Bool) (c z : Core) → if_lent b c ≡ Some z → (z ≡ c) × (b ≡ true)
lent_only b c z h = grind arith

-- nothing is written, and nothing told
none : (e : Event) (c b : Core) (x : EventReply) → b.book ≡ c.book → is_silent x ≡ true → BookGrew e c b (Ok x)
none e c b x same silent = let t = told_none e x silent in record { entry = None; book = same ∙ sym (append-nil c.book); starts = sym t.1; told = λ l. sym t.0 }

none_told : (e : Event) (c b : Core) (w : AllocError) → b.book ≡ c.book → BookGrew e c b (Err w)
none_told e c b w same = record { entry = None; book = same ∙ sym (append-nil c.book); starts = refl; told = tt }

-- an answer at once leaves the book as it was, and tells no entry; and it is not dropped
abbrev PlanTells : Core → Plan → Type 0
PlanTells c (immediate b y) = (b.book ≡ c.book) × (is_silent y ≡ true) × (is_dropped y ≡ false)
PlanTells c (asks q) = Unit {0}
PlanTells c reads_all = Unit {0}

no_run_tells : (c : Core) (b : Bool) → PlanTells c (immediate c (if b then EventReply.NoRun else EventReply.RunOver))
no_run_tells c b = grind arith

run_tells : (c : Core) (i : ℕ) (o : Option Run) → PlanTells c (run_plan c i o)
run_tells c i o = grind arith

crash_tells : (c : Core) (i : ℕ) (o : Option Run) → PlanTells c (crash_plan c i o)
crash_tells c i o = grind arith

plan_of_tells : (d : Deployment) (e : Event) (c : Core) → PlanTells c (plan_of d e c)
plan_of_tells d Ticket c = if_plan (PlanTells c) (c.newest == 2 ^ 32 - 1) _ _ (λ t. (refl, refl, refl)) (λ t. tt)
plan_of_tells d (Request t f a) c =
    if_plan (PlanTells c) ((t == 0) || nat_lt c.newest t) _ _ (λ u. (refl, refl, refl)) (λ u. if_plan (PlanTells c) (is_crowded c) _ _ (λ u. (refl, refl, refl)) (λ u. tt))
plan_of_tells d (Turn i) c = run_tells c i (map.get c.runs i)
plan_of_tells d (Lost i) c = run_tells c i (map.get c.runs i)
plan_of_tells d (Crash i) c = crash_tells c i (map.get c.runs i)
plan_of_tells d (Restart id f) c = if_plan (PlanTells c) (is_crowded c) _ _ (λ u. (refl, refl, refl)) (λ u. (refl, refl, refl))
plan_of_tells d Ic c = tt
plan_of_tells d Halt c = tt
plan_of_tells d (Tick n) c = if_plan (PlanTells c) (nat_lt last_moment (c.now + n)) _ _ (λ u. (refl, refl, refl)) (λ u. (refl, refl, refl))

plan_tells : (d : Deployment) (e : Event) (c : Core) → PlanTells (counted c) (plan d e c)
plan_tells d e c = of_plan d e c (PlanTells (counted c)) (λ few. plan_of_tells d e (counted c)) (λ shut. (refl, refl, refl)) (refl, refl, refl)

-- a run that waits has made no entry
abbrev Unmarked : Turned → Type 0
Unmarked s = (w : Wait) → s.wait ≡ Some w → s.mark ≡ None

goes_unmarked : (r : Run) (s : Machine × Option RunTx) (c : Option Caller) (m : Option Mark) (at : Option Stage) → Unmarked (goes_from r s c m at)
goes_unmarked r s c m at w is = grind arith

stands_unmarked : (d : Deployment) (r : Run) (s : Machine × Option RunTx) (c : Option Caller) (m : Option Mark) → Unmarked (goes_to d r s c m)
stands_unmarked d r s c m w is = let z = local_steps_of d r.id s in goes_unmarked r z c m (first_stage r.id c z.1 z.0.steps z.0.effect) w is

output_unmarked : (d : Deployment) (r : Run) (g : Begun) (s : StageOutput) → Unmarked (turned_by d r g s)
output_unmarked d r g s w is = grind arith

begins_unmarked : (d : Deployment) (r : Run) (f : Option Func) (b : Option Body) → Unmarked (begin_in d r f b)
begins_unmarked d r f b w is = grind arith

waits_unmarked : (d : Deployment) (n : ℕ) (r : Run) (at : RunAt) (t : QueryReply) → Unmarked (told_at d n r at t)
waits_unmarked d n r Looks t = begins_unmarked d r (func_at d r.func) (body_told r.func t)
waits_unmarked d n r (Registers b) t = begins_unmarked d r (func_at d r.func) (body_registered r.func b t)
waits_unmarked d n r (Begins g) t = output_unmarked d r g (stage_output r.id r.func g.caller g.tx n g.machine.steps g.machine.effect g.stage t)

-- what follows of a turn, whose entry the book has by now: no more is put there, and the answer tells that entry and is not dropped
record TurnTells (i : ℕ) (id : IntentId) (s : Turned) (c : Core) (y : Core × EventReply) : Type 0 where
  book : y.0.book ≡ c.book
  told : option_to_list (option_map (entry_of id) s.mark) ≡ reply_entries (Turn i) y.1
  heard : is_dropped y.1 ≡ false

module _ (i : ℕ) (id : IntentId) (s : Turned) (c : Core) where
  abbrev MadeTells : Core × Option ℕ → Type 0
  MadeTells q = TurnTells i id s c (made id (output_of s) q)

  -- .. from that book, whatever run was started
  unmoved : (q : Core × Option ℕ) → q.0.book ≡ c.book → MadeTells q
  unmoved q same = record { book = same; told = refl; heard = refl }

  started_tells : (o : Option Run) → MadeTells (started c o)
  started_tells o = grind arith

  opened_tells : (o : Option Run) → MadeTells (may_start c o)
  opened_tells o = grind arith

  waits_tells : s.mark ≡ None → (x : EventReply) → reply_entries (Turn i) x ≡ [] → is_dropped x ≡ false → TurnTells i id s c (c, x)
  waits_tells unmarked x silent on_reply = record { book = refl; told = ap (λ m. option_to_list (option_map (entry_of id) m)) unmarked ∙ sym silent; heard = on_reply }

  turn_tells : (o : Option Run) (w : Option Wait) → s.wait ≡ w → Unmarked s → TurnTells i id s c (after_turn c o id (output_of s) w)
  turn_tells o None is unmarked = if_plan MadeTells s.starts _ _ (λ t. opened_tells o) (λ t. unmoved (c, None) refl)
  turn_tells o (Some (Wait.Held w)) is unmarked = waits_tells (unmarked (Wait.Held w) is) (EventReply.Held w) refl refl
  turn_tells o (Some Wait.Worn) is unmarked = waits_tells (unmarked Wait.Worn is) EventReply.Worn refl refl
  turn_tells o (Some (Wait.Result callee)) is unmarked =
      let none = unmarked (Wait.Result callee) is in
      if_plan (TurnTells i id s c) (has_run c.runs callee) _ _
      (λ t. waits_tells none (EventReply.NotYet callee) refl refl)
      (λ t. if_plan (TurnTells i id s c) (is_crowded c) _ _ (λ u. waits_tells none EventReply.Crowded refl refl) (λ u. started_tells o))

made_tells : (d : Deployment) (c : Core) (i : ℕ) (r : Run) (t : QueryReply) → let s = run_told d (count_changes c.book) r t in TurnTells i r.id s (turned_core c i r.id s) (turn_next c i r s)
made_tells d c i r t = let s = run_told d (count_changes c.book) r t in turn_tells i r.id s (turned_core c i r.id s) (callee_of r) s.wait refl (waits_unmarked d (count_changes c.book) r r.at t)

-- a turn binds nothing
turn_unbound : (i : ℕ) (x : EventReply) → bound_of (Turn i) x ≡ []
turn_unbound i x = grind arith

-- what is left by an act of an intent, which makes an entry or none
act_grew : (e : Event) (c b : Core) (r : Result EventReply AllocError) (id : IntentId) (k : Option Mark) → b.book ≡ marked c.book id k → bound_by e r ≡ []
    → IfOk r (λ x. (is_lost e && is_dropped x) ≡ false → option_to_list (option_map (entry_of id) k) ≡ reply_entries e x) → BookGrew e c b r
act_grew e c b r id k book none told = record { entry = option_map (entry_of id) k; book = book; starts = act_starts_none id k ∙ sym none; told = told }

module _ (d : Deployment) (c : Core) where
  ticket_grew : (b : Bool) → BookGrew Ticket c (ticket_next c b).0 (Ok (ticket_next c b).1)
  ticket_grew true = none Ticket c (record c { newest = c.newest + 1 }) (EventReply.Issued (c.newest + 1)) refl refl
  ticket_grew false = none Ticket c c (EventReply.Gone (c.newest + 1)) refl refl

  request_grew : (t f : ℕ) (a : Value) (u : Binding) → BookGrew (Request t f a) c (request_next d c t f a u).0 (Ok (request_next d c t f a u).1)
  request_grew t f a Binding.Bound = record { entry = Some (Start t f a); book = refl; starts = refl; told = λ l. refl }
  request_grew t f a u = none (Request t f a) c c (unbound t u) refl refl

  run_grew : (i : ℕ) (t : QueryReply) (o : Option Run) → BookGrew (Turn i) c (run_next d c i t o).0 (Ok (run_next d c i t o).1)
  run_grew i t None = none (Turn i) c c (no_run c i) refl (no_run_tells c ((i == 0) || nat_lt c.last_run i)).1
  run_grew i t (Some r) =
      let s = run_told d (count_changes c.book) r t in
      let y = turn_next c i r s in
      let g = made_tells d c i r t in
      act_grew (Turn i) c y.0 (Ok y.1) r.id s.mark g.book (turn_unbound i y.1) (λ l. g.told)

  -- nobody hears
  lost_grew : (i : ℕ) (t : QueryReply) (o : Option Run) → BookGrew (Lost i) c (unheard_next d c i t o) (Ok EventReply.Dropped)
  lost_grew i t None = none (Lost i) c c EventReply.Dropped refl refl
  lost_grew i t (Some r) = act_grew (Lost i) c (unheard_next d c i t (Some r)) (Ok EventReply.Dropped) r.id (run_told d (count_changes c.book) r t).mark refl refl (λ l. cc)

  unheard_grew : (i : ℕ) (t : QueryReply) (w : AllocError) (o : Option Run) → BookGrew (Turn i) c (unheard_next d c i t o) (Err w)
  unheard_grew i t w None = none_told (Turn i) c c w refl
  unheard_grew i t w (Some r) = act_grew (Turn i) c (unheard_next d c i t (Some r)) (Err w) r.id (run_told d (count_changes c.book) r t).mark refl refl tt

  -- the collector makes no entry
  collected_grew : (k : RowKey) (id : IntentId) (f : ℕ) → BookGrew Ic c (collected d c k id f).0 (Ok (collected d c k id f).1)
  collected_grew k id f = if_plan (λ (y : Core × EventReply). BookGrew Ic c y.0 (Ok y.1)) (has_run c.runs id) _ _
      (λ t. none Ic c (passed c k).0 EventReply.Passed refl refl)
      (λ t. if_plan (λ (y : Core × EventReply). BookGrew Ic c y.0 (Ok y.1)) (is_crowded c) _ _
      (λ u. none Ic c c EventReply.Crowded refl refl)
      (λ u. none Ic c (launched d (record c { cursor = k }) id f).0 (EventReply.Launched (c.last_run + 1) id) refl refl))

  collect_grew : (o : Found) → BookGrew Ic c (collect_next d c o).0 (Ok (collect_next d c o).1)
  collect_grew Found.Round = none Ic c (record c { cursor = least_key }) EventReply.Round refl refl
  collect_grew (Found.Passed k) = none Ic c (passed c k).0 EventReply.Passed refl refl
  collect_grew (Found.Unended k id f) = collected_grew k id f

  heard_grew : (e : Event) (t : QueryReply) → BookGrew e c (on_reply d e c t).0 (Ok (on_reply d e c t).1)
  heard_grew Ticket t = ticket_grew (is_added t)
  heard_grew (Request u f a) t = request_grew u f a (binding_of t)
  heard_grew (Turn i) t = run_grew i t (map.get c.runs i)
  heard_grew (Lost i) t = lost_grew i t (map.get c.runs i)
  heard_grew (Crash i) t = none (Crash i) c c EventReply.Crashed refl refl
  heard_grew (Restart id f) t = none (Restart id f) c c EventReply.Crowded refl refl
  heard_grew Ic t = collect_grew (collect_output t)
  heard_grew (Tick n) t = none (Tick n) c c EventReply.ClockEnd refl refl
  heard_grew Halt t = none Halt c c EventReply.Spent refl refl

  no_memory_grew : (e : Event) (t : QueryReply) (w : AllocError) (b : Core) → no_memory d e c t ≡ Some b → BookGrew e c b (Err w)
  no_memory_grew (Turn i) t w b is = subst (λ z. BookGrew (Turn i) c z (Err w)) (same_some is) (unheard_grew i t w (map.get c.runs i))
  no_memory_grew (Request u f a) t w b is = none_told (Request u f a) c b w (ap (λ (z : Core). z.book) (lent_only (lends t) c b is).0)
  no_memory_grew Ic t w b is = none_told Ic c b w (ap (λ (z : Core). z.book) (lent_only (lends t) c b is).0)
  no_memory_grew e t w b is = cc

  error_grew : (e : Event) (b : Core) (v : TableErr) → b.book ≡ c.book → BookGrew e c b (refused_by v)
  error_grew e b OutOfMemory same = none_told e c b (record {}) same
  error_grew e b Failed same = none e c b EventReply.Dropped same refl
  error_grew e b (Full live most) same = none e c b (EventReply.Full live most) same refl

  refused_grew : (e : Event) (v : TableErr) → BookGrew e c (refused e c v).0 (refused e c v).1
  refused_grew (Turn i) (Full live most) = none (Turn i) c c (EventReply.Full live most) refl refl
  refused_grew (Turn i) v = error_grew (Turn i) (ended_run c i) v refl
  refused_grew (Lost i) OutOfMemory = none_told (Lost i) c (ended_run c i) (record {}) refl
  refused_grew (Lost i) v = none (Lost i) c (ended_run c i) EventReply.Dropped refl refl
  refused_grew e v = error_grew e c v refl

  came_grew : (e : Event) (b : Core) (w : Result QueryReply TableErr) (r : Result EventReply AllocError) → Followed d e c w b r → BookGrew e c b r
  came_grew e b (Ok t) (Ok x) s = subst (λ (z : Core × EventReply). BookGrew e c z.0 (Ok z.1)) (sym s) (heard_grew e t)
  came_grew e b (Ok t) (Err w) s = no_memory_grew e t w b s
  came_grew e b (Err v) r s = subst (λ (z : Core × Result EventReply AllocError). BookGrew e c z.0 z.1) (sym s) (refused_grew e v)

  halt_grew : (e : Event) (w : Result ℕ TableErr) → BookGrew e c (halt_next c w).0 (halt_next c w).1
  halt_grew e (Ok t) = none e c (halted t false c) EventReply.Halted refl refl
  halt_grew e (Err OutOfMemory) = none_told e c (halted c.newest c.shut c) (record {}) refl
  halt_grew e (Err v) = none e c (halted c.newest true c) EventReply.Dropped refl refl

  plan_grew : (room old new : ℕ) (e : Event) (b : Core) (m n : Rows) (r : Result EventReply AllocError) (p : Plan) → PlanTells c p → EventBy d room old new e c p m b n r → BookGrew e c b r
  plan_grew room old new e b m n (Ok x) (immediate k y) g s = none e c b x (ap (λ (z : Core). z.book) s.0.0 ∙ g.0) (ap is_silent s.0.1 ∙ g.1)
  plan_grew room old new e b m n (Err w) (immediate k y) g s = none_told e c b w (ap (λ (z : Core). z.book) s.0.0)
  plan_grew room old new e b m n r (asks q) g s = came_grew e b s.0 r s.1
  plan_grew room old new e b m n r reads_all g s = subst (λ (z : Core × Result EventReply AllocError). BookGrew e c z.0 z.1) (sym s.1) (halt_grew e s.0)

pub book_grew : WritesWhatIsTold
book_grew d room old new e c b m n r s = let g = plan_grew d (counted c) room old new e b m n r (plan d e c) (plan_tells d e c) s in record { entry = g.entry; book = g.book; starts = g.starts; told = g.told }

-- ---- an answer is dropped only where it was lost, or the table failed
abbrev output_dropped : Result EventReply AllocError → Bool
output_dropped (Ok x) = is_dropped x
output_dropped (Err w) = false

module _ (d : Deployment) (c : Core) where
  ticket_heard : (b : Bool) → is_dropped (ticket_next c b).1 ≡ false
  ticket_heard b = grind arith

  request_heard : (t f : ℕ) (a : Value) (u : Binding) → is_dropped (request_next d c t f a u).1 ≡ false
  request_heard t f a u = grind arith

  run_heard : (i : ℕ) (t : QueryReply) (o : Option Run) → is_dropped (run_next d c i t o).1 ≡ false
  run_heard i t o = grind arith

  collected_heard : (k : RowKey) (id : IntentId) (f : ℕ) → is_dropped (collected d c k id f).1 ≡ false
  collected_heard k id f = if_plan (λ (y : Core × EventReply). is_dropped y.1 ≡ false) (has_run c.runs id) _ _ (λ t. refl) (λ t. if_plan (λ (y : Core × EventReply). is_dropped y.1 ≡ false) (is_crowded c) _ _ (λ u. refl) (λ u. refl))

  collect_heard : (o : Found) → is_dropped (collect_next d c o).1 ≡ false
  collect_heard o = grind arith

  heard_lost : (e : Event) (t : QueryReply) → is_dropped (on_reply d e c t).1 ≡ is_lost e
  heard_lost e t = grind arith

  error_heard : (v : TableErr) → output_dropped (refused_by v) ≡ true → v ≡ Failed
  error_heard v h = grind arith

  refused_heard : (e : Event) (v : TableErr) → is_lost e ≡ false → output_dropped (refused e c v).1 ≡ true → v ≡ Failed
  refused_heard e v lost h = grind arith

  came_heard : (e : Event) (b : Core) (w : Result QueryReply TableErr) → is_lost e ≡ false → Followed d e c w b (Ok EventReply.Dropped) → w ≡ Err Failed
  came_heard e b w lost s = grind arith

  halt_heard : (b : Core) (old new : TableState) (w : Result ℕ TableErr) → (b, Ok EventReply.Dropped) ≡ halt_next c w → HaltCame w old new → Rose old.faults new.faults
  halt_heard b old new (Ok t) is came = let clash = ap (λ (y : Core × Result EventReply AllocError). y.1) is in cc
  halt_heard b old new (Err OutOfMemory) is came = let clash = ap (λ (y : Core × Result EventReply AllocError). y.1) is in cc
  halt_heard b old new (Err Failed) is came = came.cause.failed refl
  halt_heard b old new (Err (Full live most)) is came = absurd came.fits

  plan_heard : (e : Event) (b : Core) (old new : TableState) (p : Plan) → is_lost e ≡ false → PlanTells c p → StepBy d e c p b old new (Ok EventReply.Dropped) → Rose old.faults new.faults
  plan_heard e b old new reads_all lost g s = halt_heard b old new s.0 s.1 s.2
  plan_heard e b old new p lost g s = grind arith

pub drops_have_cause : DropsHaveCause
drops_have_cause d e c b old new lost s = plan_heard d (counted c) e b old new (plan d e c) lost (plan_tells d e c) s
