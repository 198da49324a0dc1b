-- What one event does to the rows, and where the runs that live after it come from.
use Rattle.beldi_collect.specs.declared.cursor.Found.{Found}
use Rattle.beldi_step.proofs.StepRuns.{of_plan}
use Rattle.beldi_step.specs.{declared.run.RunAt.RunAt, Run.callee_of, HostStep.immediate}
use Rattle.std.proofs.Common.{ltb-false}
use Rattle.beldi_invariant.proofs.Names.{AllocError, Begins, Binding, Bool, CameOn, Core, Crash, Deployment, Err, Event, EventBy, EventOn, FinMap, Followed, Full, Halt, Ic, IntentId, Lost, None, Ok, Option, OutOfMemory, Plan, Query, Request, Restart, Result, Rows, Run, EventReply, Some, TableErr, Tick, Ticket, QueryReply, Turn, TurnOutput, Turned, Value, Wait, after_turn, ap, arith, asks, bind_asks, binding_of, collect_next, collect_output, collect_asks, cond, count_changes, counted, crash_plan, false, get-empty, get-insert, get-remove, halt_next, has_run, on_reply, if◌then◌else◌, inl, inr, is_added, is_crowded, is_eq, last_moment, lends, may_start, nat_cmp, nat_cmp_total, nat_lt, new_run, no_memory, plan, plan_of, put_got, put_run, reads_all, refl, refused, refused_stand, request_next, root_of, rows_after, run_asks, run_next, run_plan, run_told, same_some, output_of, started, subst, sym, ticket_next, query_reply, true, turn_next, turned_core, unheard_next, with_run, ℕ, ◌+◌, ◌-◌, ◌==◌, ◌^◌, ◌||◌, ◌∙◌, ◌≡◌, ◌⊎◌, ◌≤◌}
use Rattle.beldi_invariant.proofs.{Moves.if_plan, OneEvent.lent_only}
use Rattle.beldi_intent.specs.Intent.{issue_asks}
use Rattle.beldi_invariant.proofs.Names.map

-- ---- the live runs
abbrev pub has_begun : RunAt → Bool
has_begun (Begins g) = true
has_begun at = false

-- a run that lives after an event: it lived before, has not begun, or is the one whose turn it was
abbrev pub RunFrom : FinMap nat_cmp Run → Option Run → ℕ → Run → Type 0
RunFrom live next k r = (map.get live k ≡ Some r) ⊎ ((has_begun r.at ≡ false) ⊎ (next ≡ Some r))

-- all that live then
abbrev pub RunsFrom : FinMap nat_cmp Run → Option Run → FinMap nat_cmp Run → Type 0
RunsFrom live next now = (k : ℕ) (r : Run) → map.get now k ≡ Some r → RunFrom live next k r

module _ (live : FinMap nat_cmp Run) (next : Option Run) where
  same_runs : RunsFrom live next live
  same_runs k r is = inl is

  no_runs : RunsFrom live next map.empty
  no_runs k r is = let clash = sym (get-empty nat_cmp k) ∙ is in cc

  less_runs : (i : ℕ) → RunsFrom live next (map.remove live i)
  less_runs i k r is = by_test (is_eq (nat_cmp k i)) (sym (get-remove nat_cmp_total live i k) ∙ is)
    where
      by_test : (b : Bool) → cond b None (map.get live k) ≡ Some r → RunFrom live next k r
      by_test true e = cc
      by_test false e = inl e

  put_runs : (i : ℕ) → RunsFrom live next (put_run live i next)
  put_runs i k r is = by_test (is_eq (nat_cmp k i)) (sym (put_got live i next k) ∙ is)
    where
      by_test : (b : Bool) → cond b next (map.get live k) ≡ Some r → RunFrom live next k r
      by_test true e = inr (inr e)
      by_test false e = inl e

  -- a run more, that has not begun
  more_runs : (now : FinMap nat_cmp Run) (last : ℕ) (s : Run) → has_begun s.at ≡ false → RunsFrom live next now → RunsFrom live next (map.insert now last s)
  more_runs now last s new from k r is = by_test (is_eq (nat_cmp k last)) (sym (get-insert nat_cmp_total now last s k) ∙ is)
    where
      by_test : (b : Bool) → cond b (Some s) (map.get now k) ≡ Some r → RunFrom live next k r
      by_test true e = inr (inl (ap (λ (z : Run). has_begun z.at) (sym (same_some e)) ∙ new))
      by_test false e = from k r e

  abbrev From : Core → Type 0
  From b = RunsFrom live next b.runs

  -- what follows a turn
  started_from : (c : Core) (o : Option Run) → ((s : Run) → o ≡ Some s → has_begun s.at ≡ false) → From c → From (started c o).0
  started_from c None new from = from
  started_from c (Some s) new from = more_runs c.runs (c.last_run + 1) s (new s refl) from

  opened_from : (c : Core) (o : Option Run) → ((s : Run) → o ≡ Some s → has_begun s.at ≡ false) → From c → From (may_start c o).0
  opened_from c None new from = from
  opened_from c (Some s) new from = if_plan (λ (q : Core × Option ℕ). From q.0) (has_run c.runs s.id || is_crowded c) _ _ (λ t. from) (λ t. started_from c (Some s) new from)

  after_from : (c : Core) (o : Option Run) (id : IntentId) (x : TurnOutput) (w : Option Wait) → ((s : Run) → o ≡ Some s → has_begun s.at ≡ false) → From c → From (after_turn c o id x w).0
  after_from c o id x None new from = if_plan (λ (q : Core × Option ℕ). From q.0) x.starts _ _ (λ t. opened_from c o new from) (λ t. from)
  after_from c o id x (Some (Wait.Held u)) new from = from
  after_from c o id x (Some Wait.Worn) new from = from
  after_from c o id x (Some (Wait.Result j)) new from = if_plan (λ (q : Core × EventReply). From q.0) (has_run c.runs j) _ _ (λ t. from) (λ t. if_plan (λ (q : Core × EventReply). From q.0) (is_crowded c) _ _ (λ t. from) (λ t. started_from c o new from))

-- who is called has not begun
callee_new : (r s : Run) → callee_of r ≡ Some s → has_begun s.at ≡ false
callee_new r s is = grind arith

-- ---- an event, from these live runs, at this moment, with so many changes in the book
module _ (d : Deployment) (live : FinMap nat_cmp Run) (now changes : ℕ) (after : FinMap nat_cmp Run) (m n : Rows) where
  -- the rows stay
  pub record Still : Type 0 where
    pub rows : n ≡ m
    pub runs : RunsFrom live None after

  -- the row of a root is put, or gets its body
  pub record Rooted : Type 0 where
    pub query : Query
    pub asked : ((t : ℕ) × (query ≡ issue_asks t)) ⊎ ((t : ℕ) × ((f : ℕ) × ((a : Value) × (query ≡ bind_asks t f a))))
    pub rows : n ≡ rows_after query now m
    pub runs : RunsFrom live None after

  -- the turn of a live run, whether anybody hears of it or not
  pub record TurnOf : Type 0 where
    pub number : ℕ
    pub run : Run
    pub live_there : map.get live number ≡ Some run
    pub in_time : now ≤ run.deadline
    pub rows : n ≡ rows_after (run_asks run) now m
    pub runs : RunsFrom live (run_told d changes run (query_reply (run_asks run) now m)).next after

  abbrev pub Shape : Type 0
  Shape = Still ⊎ (Rooted ⊎ TurnOf)

-- ---- the live runs after each answer
module _ (d : Deployment) (c : Core) where
  abbrev FromNone : Core → Type 0
  FromNone b = RunsFrom c.runs None b.runs

  same_none : FromNone c
  same_none = same_runs c.runs None

  new_none : (id : IntentId) (f : ℕ) → FromNone (with_run c (new_run d c id f))
  new_none id f = more_runs c.runs None c.runs (c.last_run + 1) (new_run d c id f) refl same_none

  -- at once
  abbrev PlanFrom : Plan → Type 0
  PlanFrom (immediate b y) = FromNone b
  PlanFrom (asks q) = Unit {0}
  PlanFrom reads_all = Unit {0}

  run_from : (i : ℕ) (o : Option Run) → PlanFrom (run_plan c i o)
  run_from i None = same_none
  run_from i (Some r) = if_plan PlanFrom (nat_lt r.deadline c.now) _ _ (λ t. less_runs c.runs None i) (λ t. tt)

  crash_from : (i : ℕ) (o : Option Run) → PlanFrom (crash_plan c i o)
  crash_from i None = same_none
  crash_from i (Some r) = if_plan PlanFrom (nat_lt r.deadline c.now) _ _ (λ t. less_runs c.runs None i) (λ t. less_runs c.runs None i)

  plan_of_from : (e : Event) → PlanFrom (plan_of d e c)
  plan_of_from Ticket = if_plan PlanFrom (c.newest == 2 ^ 32 - 1) _ _ (λ t. same_none) (λ t. tt)
  plan_of_from (Request t f a) = if_plan PlanFrom ((t == 0) || nat_lt c.newest t) _ _ (λ u. same_none) (λ u. if_plan PlanFrom (is_crowded c) _ _ (λ u. same_none) (λ u. tt))
  plan_of_from (Turn i) = run_from i (map.get c.runs i)
  plan_of_from (Lost i) = run_from i (map.get c.runs i)
  plan_of_from (Crash i) = crash_from i (map.get c.runs i)
  plan_of_from (Restart id f) = if_plan PlanFrom (is_crowded c) _ _ (λ u. same_none) (λ u. new_none id f)
  plan_of_from Ic = tt
  plan_of_from Halt = tt
  plan_of_from (Tick n) = if_plan PlanFrom (nat_lt last_moment (c.now + n)) _ _ (λ u. same_none) (λ u. same_none)

  -- by what was told
  request_from : (t f : ℕ) (a : Value) (u : Binding) → FromNone (request_next d c t f a u).0
  request_from t f a Binding.Bound = new_none (root_of t) f
  request_from t f a u = same_none

  ticket_from : (b : Bool) → FromNone (ticket_next c b).0
  ticket_from true = same_none
  ticket_from false = same_none

  collect_from : (o : Found) → FromNone (collect_next d c o).0
  collect_from Found.Round = same_none
  collect_from (Found.Passed k) = same_none
  collect_from (Found.Unended k id f) = if_plan (λ (y : Core × EventReply). FromNone y.0) (has_run c.runs id) _ _ (λ t. same_none)
      (λ t. if_plan (λ (y : Core × EventReply). FromNone y.0) (is_crowded c) _ _ (λ u. same_none) (λ u. new_none id f))

  -- of a turn
  module _ (i : ℕ) (r : Run) (s : Turned) where
    turn_from : RunsFrom c.runs s.next (turn_next c i r s).0.runs
    turn_from = after_from c.runs s.next (turned_core c i r.id s) (callee_of r) r.id (output_of s) s.wait (callee_new r) (put_runs c.runs s.next i)

    unheard_from : RunsFrom c.runs s.next (map.remove c.runs i)
    unheard_from = less_runs c.runs s.next i

-- ---- the shape of an event
module _ (d : Deployment) (c : Core) (m n : Rows) where
  abbrev ShapeOf : Core → Type 0
  ShapeOf b = Shape d c.runs c.now (count_changes c.book) b.runs m n

  -- the rows stay
  stands : (b : Core) → n ≡ m → FromNone d c b → ShapeOf b
  stands b rows runs = inl (record { rows = rows; runs = runs })

  -- a root's row
  roots : (b : Core) (q : Query) → ((t : ℕ) × (q ≡ issue_asks t)) ⊎ ((t : ℕ) × ((f : ℕ) × ((a : Value) × (q ≡ bind_asks t f a)))) → n ≡ rows_after q c.now m → FromNone d c b → ShapeOf b
  roots b q asked rows runs = inr (inl (record { query = q; asked = asked; rows = rows; runs = runs }))

  -- a turn
  turns : (b : Core) (i : ℕ) (r : Run) → map.get c.runs i ≡ Some r → c.now ≤ r.deadline → n ≡ rows_after (run_asks r) c.now m → RunsFrom c.runs (run_told d (count_changes c.book) r (query_reply (run_asks r) c.now m)).next b.runs → ShapeOf b
  turns b i r live in_time rows runs = inr (inr (record { number = i; run = r; live_there = live; in_time = in_time; rows = rows; runs = runs }))

-- ---- by what an event asks, and what it came to
module _ (d : Deployment) (e : Event) (c : Core) (m : Rows) where
  abbrev OnReply : Query → Type 0
  OnReply q = ShapeOf d c m (rows_after q c.now m) (on_reply d e c (query_reply q c.now m)).0

  abbrev OnNoReply : Query → Type 0
  OnNoReply q = (b : Core) → no_memory d e c (query_reply q c.now m) ≡ Some b → ShapeOf d c m (rows_after q c.now m) b

  abbrev ShapePlan : Plan → Type 0
  ShapePlan (immediate b y) = FromNone d c b
  ShapePlan (asks q) = OnReply q × OnNoReply q
  ShapePlan reads_all = Unit {0}

  -- after a halt none lives
  halt_from : (w : Result ℕ TableErr) → FromNone d c (halt_next c w).0
  halt_from (Ok t) = no_runs c.runs None
  halt_from (Err OutOfMemory) = no_runs c.runs None
  halt_from (Err v) = no_runs c.runs None

  -- where an event is refused
  refused_from : (v : TableErr) → FromNone d c (refused e c v).0
  refused_from v = by_event e v
    where
      by_event : (e : Event) (v : TableErr) → FromNone d c (refused e c v).0
      by_event (Turn i) (Full live most) = same_none d c
      by_event (Turn i) v = less_runs c.runs None i
      by_event (Lost i) OutOfMemory = less_runs c.runs None i
      by_event (Lost i) v = less_runs c.runs None i
      by_event e v = same_none d c

shape_no_run : (d : Deployment) (e : Event) (c : Core) (m : Rows) (b : Bool) (x y : EventReply) → ShapePlan d e c m (immediate c (if b then x else y))
shape_no_run d e c m b x y = same_none d c

shape_of : (d : Deployment) (e : Event) (c : Core) (m : Rows) → ShapePlan d e c m (plan_of d e c)
shape_of d Ticket c m = if_plan (ShapePlan d Ticket c m) (c.newest == 2 ^ 32 - 1) _ _ (λ t. same_none d c)
    (λ t. (roots d c m _ (ticket_next c (is_added (query_reply (issue_asks (c.newest + 1)) c.now m))).0 (issue_asks (c.newest + 1)) (inl (c.newest + 1, refl)) refl (ticket_from d c (is_added (query_reply (issue_asks (c.newest + 1)) c.now m))), λ b w. cc))
shape_of d (Request t f a) c m = if_plan (ShapePlan d (Request t f a) c m) ((t == 0) || nat_lt c.newest t) _ _ (λ u. same_none d c)
    (λ u. if_plan (ShapePlan d (Request t f a) c m) (is_crowded c) _ _ (λ u. same_none d c) (λ u. (
      roots d c m _ (request_next d c t f a (binding_of (query_reply (bind_asks t f a) c.now m))).0 (bind_asks t f a) (inr (t, (f, (a, refl)))) refl (request_from d c t f a (binding_of (query_reply (bind_asks t f a) c.now m))),
      λ b w. roots d c m _ b (bind_asks t f a) (inr (t, (f, (a, refl)))) refl (subst (λ z. FromNone d c z) (sym (lent_only (lends (query_reply (bind_asks t f a) c.now m)) c b w).0) (same_none d c)),
    )))
shape_of d (Turn i) c m = by_run (map.get c.runs i) refl
  where
    by_run : (o : Option Run) → map.get c.runs i ≡ o → ShapePlan d (Turn i) c m (run_plan c i o)
    by_run None gone = same_none d c
    by_run (Some r) live = if_plan (ShapePlan d (Turn i) c m) (nat_lt r.deadline c.now) _ _ (λ late. less_runs c.runs None i)
        (λ alive. let q = run_asks r in let s = run_told d (count_changes c.book) r (query_reply q c.now m) in
        subst (λ o. ShapeOf d c m (rows_after q c.now m) (run_next d c i (query_reply q c.now m) o).0 × ((b : Core) → Some (unheard_next d c i (query_reply q c.now m) o) ≡ Some b → ShapeOf d c m (rows_after q c.now m) b)) (sym live)
        (turns d c m (rows_after q c.now m) (turn_next c i r s).0 i r live (ltb-false r.deadline c.now alive) refl (turn_from d c i r s), λ b w. subst (λ z. ShapeOf d c m (rows_after q c.now m) z) (same_some w) (turns d c m (rows_after q c.now m) (unheard_next d c i (query_reply q c.now m) (Some r)) i r live (ltb-false r.deadline c.now alive) refl (unheard_from d c i r s))))
shape_of d (Lost i) c m = by_run (map.get c.runs i) refl
  where
    by_run : (o : Option Run) → map.get c.runs i ≡ o → ShapePlan d (Lost i) c m (run_plan c i o)
    by_run None gone = same_none d c
    by_run (Some r) live = if_plan (ShapePlan d (Lost i) c m) (nat_lt r.deadline c.now) _ _ (λ late. less_runs c.runs None i)
        (λ alive. let q = run_asks r in let s = run_told d (count_changes c.book) r (query_reply q c.now m) in
        (subst (λ o. ShapeOf d c m (rows_after q c.now m) (unheard_next d c i (query_reply q c.now m) o)) (sym live) (turns d c m (rows_after q c.now m) (unheard_next d c i (query_reply q c.now m) (Some r)) i r live (ltb-false r.deadline c.now alive) refl (unheard_from d c i r s)), λ b w. cc))
shape_of d (Crash i) c m = by_run (map.get c.runs i)
  where
    by_run : (o : Option Run) → ShapePlan d (Crash i) c m (crash_plan c i o)
    by_run None = same_none d c
    by_run (Some r) = if_plan (ShapePlan d (Crash i) c m) (nat_lt r.deadline c.now) _ _ (λ late. less_runs c.runs None i) (λ alive. less_runs c.runs None i)
shape_of d (Restart id f) c m = if_plan (ShapePlan d (Restart id f) c m) (is_crowded c) _ _ (λ u. same_none d c) (λ u. new_none d c id f)
shape_of d Ic c m = (
  stands d c m _ (collect_next d c (collect_output (query_reply (collect_asks c.cursor) c.now m))).0 refl (collect_from d c (collect_output (query_reply (collect_asks c.cursor) c.now m))),
  λ b w. stands d c m _ b refl (subst (λ z. FromNone d c z) (sym (lent_only (lends (query_reply (collect_asks c.cursor) c.now m)) c b w).0) (same_none d c)),
)
shape_of d (Tick n) c m = if_plan (ShapePlan d (Tick n) c m) (nat_lt last_moment (c.now + n)) _ _ (λ u. same_none d c) (λ u. same_none d c)
shape_of d Halt c m = tt

shape_plan : (d : Deployment) (e : Event) (c : Core) (m : Rows) → ShapePlan d e (counted c) m (plan d e c)
shape_plan d e c m = of_plan d e c (ShapePlan d e (counted c) m) (λ few. shape_of d e (counted c) m) (λ shut. same_none d (counted c)) (same_none d (counted c))

module _ (d : Deployment) (room old new : ℕ) (e : Event) (c b : Core) (m n : Rows) where
  came : (q : Query) (w : Result QueryReply TableErr) (r : Result EventReply AllocError) → ShapePlan d e c m (asks q) → Followed d e c w b r → CameOn q c.now room w m n → ShapeOf d c m n b
  came q (Ok t) (Ok x) g s p = subst (λ l. ShapeOf d c m l b) (sym p.0) (subst (λ (z : Core × EventReply). ShapeOf d c m (rows_after q c.now m) z.0) (sym (s ∙ ap (on_reply d e c) p.1)) g.0)
  came q (Ok t) (Err w) g s p = subst (λ l. ShapeOf d c m l b) (sym p.0) (g.1 b (ap (no_memory d e c) (sym p.1) ∙ s))
  came q (Err v) r g s p = stands d c m n b (refused_stand q c.now room v m n p) (subst (λ (z : Core × Result EventReply AllocError). FromNone d c z.0) (sym s) (refused_from d e c m v))

  by_plan : (p : Plan) (r : Result EventReply AllocError) → ShapePlan d e c m p → EventBy d room old new e c p m b n r → ShapeOf d c m n b
  by_plan (immediate k y) (Ok x) g s = stands d c m n b s.1 (subst (λ z. FromNone d c z) (sym s.0.0) g)
  by_plan (immediate k y) (Err w) g s = stands d c m n b s.1 (subst (λ z. FromNone d c z) (sym s.0.0) (same_none d c))
  by_plan (asks q) r g s = came q s.0 r g s.1 s.2
  by_plan reads_all r g s = stands d c m n b s.2.0 (subst (λ (z : Core × Result EventReply AllocError). FromNone d c z.0) (sym s.1) (halt_from d e c m s.0))

pub shape : (d : Deployment) (room old new : ℕ) (e : Event) (c b : Core) (m n : Rows) (r : Result EventReply AllocError) → EventOn d room old new e c m b n r → ShapeOf d c m n b
shape d room old new e c b m n r s = by_plan d room old new e (counted c) b m n (plan d e c) r (shape_plan d e c m) s
