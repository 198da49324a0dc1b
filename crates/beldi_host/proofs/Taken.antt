-- Each event that is not answered as spent is taken: it counts, once.
use Rattle.beldi_host.proofs.Names.{AllocError, Binding, Bool, Core, Crash, Deployment, Err, Event, Followed, Found, Halt, Ic, IntentId, Lost, None, Ok, Option, Plan, Request, Restart, Result, Run, EventReply, Some, StepBy, Stepped, TableErr, TableState, Tick, Ticket, QueryReply, Turn, TurnOutput, Value, Wait, after_turn, ap, asks, immediate, bind_asks, binding_of, callee_of, collect_next, collect_output, count_changes, counted, crash_plan, ended_run, false, halt_next, has_run, on_reply, if◌then◌else◌, is_added, is_crowded, is_halt, issue_asks, last_moment, ltb-true, may_start, most_events, nat_lt, new_run, not, open_plan, plan_of, reads_all, refl, refused, request_next, run_asks, run_next, run_plan, run_told, output_of, started, ticket_next, true, turned_core, unheard_next, with_run, ℕ, ◌&&◌, ◌+◌, ◌-◌, ◌<◌, ◌==◌, ◌^◌, ◌||◌, ◌∙◌, ◌≡◌}
use Rattle.beldi_host.proofs.Names.map

-- ---- what follows of an event counts none
either : {X : Type 0} (n : ℕ) (b : Bool) (p q : Core × X) → p.0.taken ≡ n → q.0.taken ≡ n → (if b then p else q).0.taken ≡ n
either n true p q h k = h
either n false p q h k = k

start_counts_none : (c : Core) (o : Option Run) → (started c o).0.taken ≡ c.taken
start_counts_none c None = refl
start_counts_none c (Some r) = refl

may_counts_none : (c : Core) (o : Option Run) → (may_start c o).0.taken ≡ c.taken
may_counts_none c None = refl
may_counts_none c (Some r) = either c.taken (has_run c.runs r.id || is_crowded c) (c, None) (started c (Some r)) refl refl

turn_counts_none : (c : Core) (o : Option Run) (id : IntentId) (x : TurnOutput) (w : Option Wait) → (after_turn c o id x w).0.taken ≡ c.taken
turn_counts_none c o id x None = either c.taken x.starts (may_start c o) (c, None) (may_counts_none c o) refl
turn_counts_none c o id x (Some (Wait.Held w)) = refl
turn_counts_none c o id x (Some Wait.Worn) = refl
turn_counts_none c o id x (Some (Wait.Result callee)) = either c.taken (has_run c.runs callee) (c, EventReply.NotYet callee) _ refl (either c.taken (is_crowded c) (c, EventReply.Crowded) _ refl (start_counts_none c o))

run_counts_none : (d : Deployment) (c : Core) (i : ℕ) (t : QueryReply) (o : Option Run) → (run_next d c i t o).0.taken ≡ c.taken
run_counts_none d c i t None = refl
run_counts_none d c i t (Some r) = let s = run_told d (count_changes c.book) r t in turn_counts_none (turned_core c i r.id s) (callee_of r) r.id (output_of s) s.wait

unheard_counts_none : (d : Deployment) (c : Core) (i : ℕ) (t : QueryReply) (o : Option Run) → (unheard_next d c i t o).taken ≡ c.taken
unheard_counts_none d c i t None = refl
unheard_counts_none d c i t (Some r) = refl

collect_counts_none : (d : Deployment) (c : Core) (x : Found) → (collect_next d c x).0.taken ≡ c.taken
collect_counts_none d c Found.Round = refl
collect_counts_none d c (Found.Passed k) = refl
collect_counts_none d c (Found.Unended k id f) = either c.taken (has_run c.runs id) _ _ refl (either c.taken (is_crowded c) (c, EventReply.Crowded) _ refl refl)

ticket_counts_none : (c : Core) (b : Bool) → (ticket_next c b).0.taken ≡ c.taken
ticket_counts_none c true = refl
ticket_counts_none c false = refl

request_counts_none : (d : Deployment) (c : Core) (t f : ℕ) (a : Value) (b : Binding) → (request_next d c t f a b).0.taken ≡ c.taken
request_counts_none d c t f a Binding.Bound = refl
request_counts_none d c t f a Binding.Running = refl
request_counts_none d c t f a (Binding.Other g x) = refl
request_counts_none d c t f a (Binding.Ended o) = refl
request_counts_none d c t f a Binding.Gone = refl

heard_counts_none : (d : Deployment) (e : Event) (c : Core) (t : QueryReply) → (on_reply d e c t).0.taken ≡ c.taken
heard_counts_none d Ticket c t = ticket_counts_none c (is_added t)
heard_counts_none d (Request n f a) c t = request_counts_none d c n f a (binding_of t)
heard_counts_none d (Turn i) c t = run_counts_none d c i t (map.get c.runs i)
heard_counts_none d (Lost i) c t = unheard_counts_none d c i t (map.get c.runs i)
heard_counts_none d (Crash i) c t = refl
heard_counts_none d (Restart id f) c t = refl
heard_counts_none d (Tick n) c t = refl
heard_counts_none d Ic c t = collect_counts_none d c (collect_output t)
heard_counts_none d Halt c t = refl

refused_counts_none : (e : Event) (c : Core) (v : TableErr) → (refused e c v).0.taken ≡ c.taken
refused_counts_none Ticket c v = refl
refused_counts_none (Request n f a) c v = refl
refused_counts_none (Turn i) c TableErr.OutOfMemory = refl
refused_counts_none (Turn i) c TableErr.Failed = refl
refused_counts_none (Turn i) c (TableErr.Full live room) = refl
refused_counts_none (Lost i) c TableErr.OutOfMemory = refl
refused_counts_none (Lost i) c TableErr.Failed = refl
refused_counts_none (Lost i) c (TableErr.Full live room) = refl
refused_counts_none (Crash i) c v = refl
refused_counts_none (Restart id f) c v = refl
refused_counts_none (Tick n) c v = refl
refused_counts_none Ic c v = refl
refused_counts_none Halt c v = refl

halt_counts_none : (c : Core) (w : Result ℕ TableErr) → (halt_next c w).0.taken ≡ c.taken
halt_counts_none c (Ok t) = refl
halt_counts_none c (Err TableErr.OutOfMemory) = refl
halt_counts_none c (Err TableErr.Failed) = refl
halt_counts_none c (Err (TableErr.Full live room)) = refl

followed_counts_none : (d : Deployment) (e : Event) (c z : Core) (w : Result QueryReply TableErr) (x : EventReply) → Followed d e c w z (Ok x) → z.taken ≡ c.taken
followed_counts_none d e c z (Ok t) x h = ap (λ (p : Core × EventReply). p.0.taken) h ∙ heard_counts_none d e c t
followed_counts_none d e c z (Err v) x h = ap (λ (p : Core × Result EventReply AllocError). p.0.taken) h ∙ refused_counts_none e c v

-- ---- an answer that comes at once counts none
abbrev CountsNone : Core → Plan → Type 0
CountsNone c (immediate b y) = b.taken ≡ c.taken
CountsNone c (asks q) = Unit {0}
CountsNone c reads_all = Unit {0}

either_plan : (c : Core) (b : Bool) (p q : Plan) → CountsNone c p → CountsNone c q → CountsNone c (if b then p else q)
either_plan c true p q h k = h
either_plan c false p q h k = k

run_plan_counts_none : (c : Core) (i : ℕ) (o : Option Run) → CountsNone c (run_plan c i o)
run_plan_counts_none c i None = refl
run_plan_counts_none c i (Some r) = either_plan c (nat_lt r.deadline c.now) (immediate (ended_run c i) EventReply.Expired) (asks (run_asks r)) refl tt

crash_plan_counts_none : (c : Core) (i : ℕ) (o : Option Run) → CountsNone c (crash_plan c i o)
crash_plan_counts_none c i None = refl
crash_plan_counts_none c i (Some r) = either_plan c (nat_lt r.deadline c.now) (immediate (ended_run c i) EventReply.Expired) (immediate (ended_run c i) EventReply.Crashed) refl refl

plan_counts_none : (d : Deployment) (e : Event) (c : Core) → CountsNone c (plan_of d e c)
plan_counts_none d Ticket c = either_plan c (c.newest == 2 ^ 32 - 1) (immediate c EventReply.NoTicket) (asks (issue_asks (c.newest + 1))) refl tt
plan_counts_none d (Request t f a) c = either_plan c ((t == 0) || nat_lt c.newest t) (immediate c (EventReply.Unknown t)) (if is_crowded c then immediate c EventReply.Crowded else asks (bind_asks t f a)) refl
    (either_plan c (is_crowded c) (immediate c EventReply.Crowded) (asks (bind_asks t f a)) refl tt)
plan_counts_none d (Turn i) c = run_plan_counts_none c i (map.get c.runs i)
plan_counts_none d (Lost i) c = run_plan_counts_none c i (map.get c.runs i)
plan_counts_none d (Crash i) c = crash_plan_counts_none c i (map.get c.runs i)
plan_counts_none d (Restart id f) c = either_plan c (is_crowded c) (immediate c EventReply.Crowded) (immediate (with_run c (new_run d c id f)) (EventReply.Started (c.last_run + 1))) refl refl
plan_counts_none d (Tick n) c = either_plan c (nat_lt last_moment (c.now + n)) (immediate c EventReply.ClockEnd) (immediate (record c { now = c.now + n }) (EventReply.Now (c.now + n))) refl refl
plan_counts_none d Ic c = tt
plan_counts_none d Halt c = tt

open_counts_none : (d : Deployment) (e : Event) (c : Core) → CountsNone c (open_plan d e c)
open_counts_none d e c = either_plan c (c.shut && not (is_halt e)) (immediate c EventReply.Shut) (plan_of d e c) refl (plan_counts_none d e c)

module _ (d : Deployment) (e : Event) (c z : Core) (old new : TableState) (x : EventReply) where
  by_plan : (k : Core) (p : Plan) → CountsNone k p → StepBy d e k p z old new (Ok x) → z.taken ≡ k.taken
  by_plan k (immediate b y) n h = ap (λ (q : Core). q.taken) h.0.0 ∙ n
  by_plan k (asks q) n h = followed_counts_none d e k z h.0 x h.1
  by_plan k reads_all n h = ap (λ (p : Core × Result EventReply AllocError). p.0.taken) h.1 ∙ halt_counts_none k h.0

  pub was_taken : Stepped d e c z old new (Ok x) → (x ≡ EventReply.Spent → ⊥) → (c.taken < most_events) × (z.taken ≡ c.taken + 1)
  was_taken h live = (elim (nat_lt c.taken most_events) as (λ b. nat_lt c.taken most_events ≡ b → StepBy d e (counted c) (if b then open_plan d e (counted c) else immediate c EventReply.Spent) z old new (Ok x) → (c.taken < most_events) × (z.taken ≡ c.taken + 1)) [
    | true ↦ λ few s. (ltb-true c.taken most_events few, by_plan (counted c) (open_plan d e (counted c)) (open_counts_none d e (counted c)) s)
    | false ↦ λ few s. absurd (live s.0.1)
  ]) refl h
