-- What plans and answers say of a halt and of a host that is shut: only a halt reads all rows, only a host that is shut answers so at once,
-- and no event but a halt changes whether it is, nor where the log collectors stand.
use Rattle.std.specs.declared.alloc.AllocError.{AllocError}
use Rattle.std.specs.FinMap as map
use Rattle.std.proofs.Common.{◌≡◌, ◌+◌, ◌-◌, ◌^◌, ◌==◌, ◌||◌, nat_lt, ℕ, Bool, true, false, List, Option, Some, None, if◌then◌else◌, Result, Ok, refl, ap, sym, ◌∙◌, subst}
use Rattle.beldi_value.specs.declared.{id.IntentId.IntentId, value.Value.Value}
use Rattle.beldi_tree.specs.declared.deployment.Deployment.{Deployment}
use Rattle.beldi_book.specs.LinearOrder.{count_changes}
use Rattle.beldi_row.specs.declared.table.TableErr.{TableErr}
use Rattle.beldi_query.specs.Query.{QueryReply, lends}
use Rattle.beldi_intent.specs.{declared.intent.Binding.Binding, Intent.binding_of, Intent.is_added}
use Rattle.beldi_collect.specs.{declared.cursor.Found.Found, Collect.collect_output}
use Rattle.beldi_prune.specs.declared.collector.LogCollector.{LogCollector}
use Rattle.beldi_step.proofs.StepRuns.{either, of_plan, same_some}
use Rattle.beldi_step.specs.HostStep.{Core, Plan, after_turn, asks, immediate, collect_next, counted, crash_plan, ended_run, has_run, on_reply, if_lent, is_crowded, is_halt, last_moment, made, may_start, no_memory, no_run, plan, plan_of, reads_all, refused, refused_by, request_next, run_next, run_plan, started, ticket_next, turned_core, unheard_next}
use Rattle.beldi_step.specs.{declared.event.Event.Event, declared.event.EventReply.EventReply, declared.run.Run.Run, declared.run.TurnOutput.TurnOutput, declared.run.Wait.Wait, Run.callee_of, Run.run_told, Run.output_of}

-- the answers of a halt, and of a host that is shut
abbrev pub is_of_halt : EventReply → Bool
is_of_halt EventReply.Halted = true
is_of_halt EventReply.Shut = true
is_of_halt x = false

-- what no event but a halt changes
abbrev pub fixed : Core → Bool × List LogCollector
fixed c = (c.shut, c.collectors)

-- ---- plans
-- of a host that is not shut, or of a halt
abbrev pub PlanOutput : Event → Core → Plan → Type 0
PlanOutput e c (immediate b y) = (fixed b ≡ fixed c) × (is_of_halt y ≡ false)
PlanOutput e c (asks q) = is_halt e ≡ false
PlanOutput e c reads_all = is_halt e ≡ true

no_run_output : (i : ℕ) (c : Core) → is_of_halt (no_run c i) ≡ false
no_run_output i c = either (λ x. is_of_halt x ≡ false) ((i == 0) || nat_lt c.last_run i) _ _ (λ t. refl) (λ t. refl)

run_output : (e : Event) (c : Core) (i : ℕ) (o : Option Run) → is_halt e ≡ false → PlanOutput e c (run_plan c i o)
run_output e c i None apart = (refl, no_run_output i c)
run_output e c i (Some r) apart = either (PlanOutput e c) (nat_lt r.deadline c.now) _ _ (λ t. (refl, refl)) (λ t. apart)

crash_output : (e : Event) (c : Core) (i : ℕ) (o : Option Run) → PlanOutput e c (crash_plan c i o)
crash_output e c i None = (refl, no_run_output i c)
crash_output e c i (Some r) = either (PlanOutput e c) (nat_lt r.deadline c.now) _ _ (λ t. (refl, refl)) (λ t. (refl, refl))

pub plan_output : (d : Deployment) (e : Event) (c : Core) → PlanOutput e c (plan_of d e c)
plan_output d Event.Ticket c = either (PlanOutput Event.Ticket c) (c.newest == 2 ^ 32 - 1) _ _ (λ t. (refl, refl)) (λ t. refl)
plan_output d (Event.Request t f a) c = either (PlanOutput (Event.Request t f a) c) ((t == 0) || nat_lt c.newest t) _ _ (λ u. (refl, refl)) (λ u. either (PlanOutput (Event.Request t f a) c) (is_crowded c) _ _ (λ v. (refl, refl)) (λ v. refl))
plan_output d (Event.Turn i) c = run_output (Event.Turn i) c i (map.get c.runs i) refl
plan_output d (Event.Lost i) c = run_output (Event.Lost i) c i (map.get c.runs i) refl
plan_output d (Event.Crash i) c = crash_output (Event.Crash i) c i (map.get c.runs i)
plan_output d (Event.Restart id f) c = either (PlanOutput (Event.Restart id f) c) (is_crowded c) _ _ (λ t. (refl, refl)) (λ t. (refl, refl))
plan_output d (Event.Tick n) c = either (PlanOutput (Event.Tick n) c) (nat_lt last_moment (c.now + n)) _ _ (λ t. (refl, refl)) (λ t. (refl, refl))
plan_output d Event.Ic c = refl
plan_output d Event.Halt c = refl

abbrev OfHalt : Event → Plan → Type 0
OfHalt e (immediate b y) = Unit {0}
OfHalt e (asks q) = Unit {0}
OfHalt e reads_all = is_halt e ≡ true

of_halt : (e : Event) (c : Core) (p : Plan) → PlanOutput e c p → OfHalt e p
of_halt e c (immediate b y) h = tt
of_halt e c (asks q) h = tt
of_halt e c reads_all h = h

pub halts_read : (d : Deployment) (e : Event) (c : Core) → plan d e c ≡ reads_all → is_halt e ≡ true
halts_read d e c is = subst (OfHalt e) is (of_plan d e c (OfHalt e) (λ few. of_halt e (counted c) (plan_of d e (counted c)) (plan_output d e (counted c))) (λ shut. tt) tt)

-- ---- what follows
abbrev pub Quiet : Core → Core × EventReply → Type 0
Quiet c y = (fixed y.0 ≡ fixed c) × (is_of_halt y.1 ≡ false)

module _ (c : Core) (o : Option Run) (id : IntentId) (x : TurnOutput) where
  started_quiet : (o : Option Run) → Quiet c (made id x (started c o))
  started_quiet None = (refl, refl)
  started_quiet (Some r) = (refl, refl)

  may_start_quiet : (o : Option Run) → Quiet c (made id x (may_start c o))
  may_start_quiet None = (refl, refl)
  may_start_quiet (Some r) = either (λ (z : Core × Option ℕ). Quiet c (made id x z)) (has_run c.runs r.id || is_crowded c) _ _ (λ t. (refl, refl)) (λ t. (refl, refl))

  turn_quiet : (w : Option Wait) → Quiet c (after_turn c o id x w)
  turn_quiet None = either (λ (z : Core × Option ℕ). Quiet c (made id x z)) x.starts _ _ (λ t. may_start_quiet o) (λ t. (refl, refl))
  turn_quiet (Some (Wait.Held u)) = (refl, refl)
  turn_quiet (Some Wait.Worn) = (refl, refl)
  turn_quiet (Some (Wait.Result j)) = either (Quiet c) (has_run c.runs j) _ _ (λ t. (refl, refl)) (λ t. either (Quiet c) (is_crowded c) _ _ (λ u. (refl, refl)) (λ u. started_quiet o))

module _ (d : Deployment) (c : Core) where
  ticket_quiet : (b : Bool) → Quiet c (ticket_next c b)
  ticket_quiet true = (refl, refl)
  ticket_quiet false = (refl, refl)

  request_quiet : (t f : ℕ) (a : Value) (u : Binding) → Quiet c (request_next d c t f a u)
  request_quiet t f a Binding.Bound = (refl, refl)
  request_quiet t f a Binding.Running = (refl, refl)
  request_quiet t f a (Binding.Other g v) = (refl, refl)
  request_quiet t f a (Binding.Ended v) = (refl, refl)
  request_quiet t f a Binding.Gone = (refl, refl)

  run_quiet : (i : ℕ) (t : QueryReply) (o : Option Run) → Quiet c (run_next d c i t o)
  run_quiet i t None = (refl, no_run_output i c)
  run_quiet i t (Some r) = let s = run_told d (count_changes c.book) r t in let q = turn_quiet (turned_core c i r.id s) (callee_of r) r.id (output_of s) s.wait in (q.0, q.1)

  unheard_quiet : (i : ℕ) (t : QueryReply) (o : Option Run) → fixed (unheard_next d c i t o) ≡ fixed c
  unheard_quiet i t None = refl
  unheard_quiet i t (Some r) = refl

  collect_quiet : (x : Found) → Quiet c (collect_next d c x)
  collect_quiet Found.Round = (refl, refl)
  collect_quiet (Found.Passed k) = (refl, refl)
  collect_quiet (Found.Unended k id f) = either (Quiet c) (has_run c.runs id) _ _ (λ t. (refl, refl)) (λ t. either (Quiet c) (is_crowded c) _ _ (λ u. (refl, refl)) (λ u. (refl, refl)))

  pub heard_quiet : (e : Event) (t : QueryReply) → Quiet c (on_reply d e c t)
  heard_quiet Event.Ticket t = ticket_quiet (is_added t)
  heard_quiet (Event.Request u f a) t = request_quiet u f a (binding_of t)
  heard_quiet (Event.Turn i) t = run_quiet i t (map.get c.runs i)
  heard_quiet (Event.Lost i) t = (unheard_quiet i t (map.get c.runs i), refl)
  heard_quiet (Event.Crash i) t = (refl, refl)
  heard_quiet (Event.Restart id f) t = (refl, refl)
  heard_quiet (Event.Tick n) t = (refl, refl)
  heard_quiet Event.Ic t = collect_quiet (collect_output t)
  heard_quiet Event.Halt t = (refl, refl)

  lent_quiet : (l : Bool) (b : Core) → if_lent l c ≡ Some b → fixed b ≡ fixed c
  lent_quiet true b is = ap fixed (sym (same_some is))
  lent_quiet false b is = cc

  pub no_memory_quiet : (e : Event) (t : QueryReply) (b : Core) → no_memory d e c t ≡ Some b → fixed b ≡ fixed c
  no_memory_quiet (Event.Request u f a) t b is = lent_quiet (lends t) b is
  no_memory_quiet (Event.Turn i) t b is = ap fixed (sym (same_some is)) ∙ unheard_quiet i t (map.get c.runs i)
  no_memory_quiet Event.Ic t b is = lent_quiet (lends t) b is
  no_memory_quiet e t b is = cc

  abbrev pub IsQuiet : Core × Result EventReply AllocError → Type 0
  IsQuiet y = (fixed y.0 ≡ fixed c) × ((x : EventReply) → y.1 ≡ Ok x → is_of_halt x ≡ false)

  tells_one : (y : EventReply) → is_of_halt y ≡ false → (x : EventReply) → ◌≡◌ {A = Result EventReply AllocError} (Ok y) (Ok x) → is_of_halt x ≡ false
  tells_one y apart x is = let same : y ≡ x = cc in sym (ap is_of_halt same) ∙ apart

  error_quiet : (b : Core) (v : TableErr) → fixed b ≡ fixed c → IsQuiet (b, refused_by v)
  error_quiet b TableErr.OutOfMemory same = (same, λ x is. cc)
  error_quiet b TableErr.Failed same = (same, tells_one EventReply.Dropped refl)
  error_quiet b (TableErr.Full live room) same = (same, tells_one (EventReply.Full live room) refl)

  pub refused_quiet : (e : Event) (v : TableErr) → IsQuiet (refused e c v)
  refused_quiet (Event.Turn i) (TableErr.Full live room) = (refl, tells_one (EventReply.Full live room) refl)
  refused_quiet (Event.Turn i) v = error_quiet (ended_run c i) v refl
  refused_quiet (Event.Lost i) TableErr.OutOfMemory = (refl, λ x is. cc)
  refused_quiet (Event.Lost i) v = (refl, tells_one EventReply.Dropped refl)
  refused_quiet e v = error_quiet c v refl
