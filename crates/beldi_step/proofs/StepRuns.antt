-- The live runs after an event: what holds of those before, of each that starts anew, and of what a turn leaves, holds of them.
use Rattle.std.specs.{FinMap.FinMap, FinMap.get-empty, FinMap.nat_cmp-IsAntisymmetric, Cmp.Equal-is, Ordering.nat_cmp, Ordering.is_eq, declared.alloc.AllocError.AllocError}
use Rattle.std.specs.FinMap as map
use Rattle.std.proofs.lemmas.Bool.{and_parts}
use Rattle.std.proofs.Common.{◌≡◌, ℕ, ◌+◌, ◌-◌, ◌^◌, ◌≤◌, ◌==◌, ◌||◌, ◌&&◌, not, nat_lt, Bool, true, false, cond, Option, Some, None, Result, Ok, Err, if◌then◌else◌, refl, ap, sym, ◌∙◌, subst, arith}
use Rattle.beldi_value.specs.{Id.root_of, declared.id.IntentId.IntentId, declared.value.Value.Value}
use Rattle.beldi_tree.specs.declared.deployment.Deployment.{Deployment}
use Rattle.beldi_book.specs.LinearOrder.{count_changes}
use Rattle.beldi_row.specs.{Table.Rows, Table.TableState, declared.table.TableErr.TableErr}
use Rattle.beldi_query.specs.{declared.query.Query.Query, Query.CameOn, Query.QueryReply, Query.lends, Query.query_reply}
use Rattle.beldi_intent.specs.{declared.intent.Binding.Binding, Intent.binding_of, Intent.is_added}
use Rattle.beldi_collect.specs.{declared.cursor.Found.Found, Collect.collect_output}
use Rattle.beldi_step.proofs.PutRun.{put_got}
use Rattle.beldi_step.specs.HostStep.{LocalSteps, Core, EventBy, EventOn, Followed, Plan, StepBy, Stepped, after_turn, asks, immediate, collect_next, counted, crash_plan, ended_run, halt_next, has_run, on_reply, if_lent, is_crowded, is_halt, last_moment, made, may_start, most_events, new_run, no_memory, plan, plan_of, put_run, reads_all, refused, request_next, run_next, run_plan, started, ticket_next, turned_core, unheard_next}
use Rattle.beldi_step.specs.{declared.event.Event.Event, declared.event.EventReply.EventReply, declared.run.Run.Run, declared.run.TurnOutput.TurnOutput, declared.run.Wait.Wait, Run.Turned, Run.callee_of, Run.run_asks, Run.run_told, Run.output_of}

-- both ways of a test
pub either : {A : Type 0} (S : A → Type 0) (b : Bool) (p q : A) → (b ≡ true → S p) → (b ≡ false → S q) → S (if b then p else q)
either S true p q f g = f refl
either S false p q f g = g refl

-- what is so of an event's plan where it is taken, and where the host is shut or spent, is so of what it does
pub of_plan : (d : Deployment) (e : Event) (c : Core) (S : Plan → Type 0) → (nat_lt c.taken most_events ≡ true → S (plan_of d e (counted c))) → (c.shut ≡ true → S (immediate (counted c) EventReply.Shut)) → S (immediate c EventReply.Spent) → S (plan d e c)
of_plan d e c S takes shut spent = either S (nat_lt c.taken most_events) _ _ (λ few. either S (c.shut && not (is_halt e)) _ _ (λ t. shut (and_parts c.shut (not (is_halt e)) t).0) (λ t. takes few)) (λ t. spent)

pub same_some : {A : Type 0} {x y : A} → Some x ≡ Some y → x ≡ y
same_some h = cc

same_ok : {x y : QueryReply} → ◌≡◌ {A = Result QueryReply TableErr} (Ok x) (Ok y) → x ≡ y
same_ok h = cc

-- a turn that may start a run of what its run calls
abbrev pub starts_by : Option Wait → Bool → Bool
starts_by None starts = starts
starts_by (Some (Wait.Held o)) starts = false
starts_by (Some Wait.Worn) starts = false
starts_by (Some (Wait.Result i)) starts = true

-- `P` of runs and their numbers; `T` of what a table tells to a query
module _ (P : ℕ → Run → Type 0) (T : Query → QueryReply → Type 0) where
  abbrev pub At : ℕ → Option Run → Type 0
  At n o = (r : Run) → o ≡ Some r → P n r

  abbrev pub All : FinMap nat_cmp Run → Type 0
  All live = (n : ℕ) → At n (map.get live n)

  -- ---- one run is put, or taken out
  all_put : (live : FinMap nat_cmp Run) (i : ℕ) (o : Option Run) → At i o → All live → All (put_run live i o)
  all_put live i o here h n = by_number (is_eq (nat_cmp n i)) refl
    where
      by_number : (b : Bool) → is_eq (nat_cmp n i) ≡ b → At n (map.get (put_run live i o) n)
      by_number true e r is = subst (λ j. P j r) (sym (nat_cmp-IsAntisymmetric n i ((Equal-is (nat_cmp n i)).0 e))) (here r (sym (put_got live i o n ∙ ap (λ b. cond b o (map.get live n)) e) ∙ is))
      by_number false e r is = h n r (sym (put_got live i o n ∙ ap (λ b. cond b o (map.get live n)) e) ∙ is)

  -- ---- what an event may leave
  -- of a turn: its run as it goes on, and a run of what that calls, where one may start
  pub record Leaves (i next : ℕ) (r : Run) (s : Turned) : Type 0 where
    pub goes : At i s.next
    pub calls : starts_by s.wait s.starts ≡ true → At next (callee_of r)

  abbrev pub Adds : Deployment → Event → Core → Type 0
  Adds d (Event.Turn i) c = (r : Run) → map.get c.runs i ≡ Some r → (t : QueryReply) → T (run_asks r) t → Leaves i (c.last_run + 1) r (run_told d (count_changes c.book) r t)
  Adds d (Event.Lost i) c = Unit {0}
  Adds d (Event.Crash i) c = Unit {0}
  Adds d e c = (id : IntentId) (f : ℕ) → P (c.last_run + 1) (new_run d c id f)

  -- one of what starts anew, and one of a turn, serve every event
  pub adds_by : (d : Deployment) (e : Event) (c : Core) → ((id : IntentId) (f : ℕ) → P (c.last_run + 1) (new_run d c id f))
      → ((i : ℕ) (r : Run) → map.get c.runs i ≡ Some r → (t : QueryReply) → T (run_asks r) t → Leaves i (c.last_run + 1) r (run_told d (count_changes c.book) r t)) → Adds d e c
  adds_by d (Event.Turn i) c new turns = turns i
  adds_by d (Event.Lost i) c new turns = tt
  adds_by d (Event.Crash i) c new turns = tt
  adds_by d e c new turns = new

  -- the host after it: the moment is no earlier
  pub record KeepsAll (c b : Core) : Type 0 where
    pub later : c.now ≤ b.now
    pub runs : All b.runs

  module _ (c : Core) (h : All c.runs) where
    stays : KeepsAll c c
    stays = record { later = omega arith; runs = h }

    less : (i : ℕ) → All (map.remove c.runs i)
    less i = all_put c.runs i None (λ r is. cc) h

    more : (r : Run) → P (c.last_run + 1) r → All (map.insert c.runs (c.last_run + 1) r)
    more r new = all_put c.runs (c.last_run + 1) (Some r) (λ k is. subst (P (c.last_run + 1)) (same_some is) new) h

    -- ---- what follows a turn that left this core
    module _ (o : Option Run) (id : IntentId) (x : TurnOutput) where
      begun : At (c.last_run + 1) o → KeepsAll c (made id x (started c o)).0
      begun = by_run o
        where
          by_run : (o : Option Run) → At (c.last_run + 1) o → KeepsAll c (started c o).0
          by_run None new = stays
          by_run (Some r) new = record { later = omega arith; runs = more r (new r refl) }

      may_begin : At (c.last_run + 1) o → KeepsAll c (may_start c o).0
      may_begin = by_run o
        where
          by_run : (o : Option Run) → At (c.last_run + 1) o → KeepsAll c (may_start c o).0
          by_run None new = stays
          by_run (Some r) new = either (λ (z : Core × Option ℕ). KeepsAll c z.0) (has_run c.runs r.id || is_crowded c) _ _ (λ t. stays) (λ t. record { later = omega arith; runs = more r (new r refl) })

      followed : (w : Option Wait) → (starts_by w x.starts ≡ true → At (c.last_run + 1) o) → KeepsAll c (after_turn c o id x w).0
      followed None new = either (λ (z : Core × Option ℕ). KeepsAll c z.0) x.starts _ _ (λ t. may_begin (new t)) (λ t. stays)
      followed (Some (Wait.Held u)) new = stays
      followed (Some Wait.Worn) new = stays
      followed (Some (Wait.Result j)) new = either (λ (z : Core × EventReply). KeepsAll c z.0) (has_run c.runs j) _ _ (λ t. stays) (λ t. either (λ (z : Core × EventReply). KeepsAll c z.0) (is_crowded c) _ _ (λ u. stays) (λ u. begun (new refl)))

  -- ---- by the event
  module _ (d : Deployment) (c : Core) (h : All c.runs) where
    ticketed : (b : Bool) → KeepsAll c (ticket_next c b).0
    ticketed true = record { later = omega arith; runs = h }
    ticketed false = stays c h

    requested : (t f : ℕ) (a : Value) (u : Binding) → ((id : IntentId) (f : ℕ) → P (c.last_run + 1) (new_run d c id f)) → KeepsAll c (request_next d c t f a u).0
    requested t f a Binding.Bound new = record { later = omega arith; runs = more c h (new_run d c (root_of t) f) (new (root_of t) f) }
    requested t f a u new = stays c h

    unheard : (i : ℕ) (t : QueryReply) (o : Option Run) → KeepsAll c (unheard_next d c i t o)
    unheard i t None = stays c h
    unheard i t (Some r) = record { later = omega arith; runs = less c h i }

    turned : (i : ℕ) (t : QueryReply) (o : Option Run) → ((r : Run) → o ≡ Some r → Leaves i (c.last_run + 1) r (run_told d (count_changes c.book) r t)) → KeepsAll c (run_next d c i t o).0
    turned i t None leaves = stays c h
    turned i t (Some r) leaves =
        let s = run_told d (count_changes c.book) r t in
        let l = leaves r refl in
        let g = followed (turned_core c i r.id s) (all_put c.runs i s.next l.goes h) (callee_of r) r.id (output_of s) s.wait l.calls in record { later = g.later; runs = g.runs }

    collects : (x : Found) → ((id : IntentId) (f : ℕ) → P (c.last_run + 1) (new_run d c id f)) → KeepsAll c (collect_next d c x).0
    collects Found.Round new = record { later = omega arith; runs = h }
    collects (Found.Passed k) new = record { later = omega arith; runs = h }
    collects (Found.Unended k id f) new = either (λ (z : Core × EventReply). KeepsAll c z.0) (has_run c.runs id) _ _ (λ t. record { later = omega arith; runs = h })
        (λ t. either (λ (z : Core × EventReply). KeepsAll c z.0) (is_crowded c) _ _ (λ u. stays c h) (λ u. record { later = omega arith; runs = more c h (new_run d c id f) (new id f) }))

    lent : (l : Bool) (b : Core) → if_lent l c ≡ Some b → KeepsAll c b
    lent true b is = subst (KeepsAll c) (same_some is) (stays c h)
    lent false b is = cc

    -- one that is answered at once leaves this, and one that asks leaves this where it is told so
    abbrev PlanGoes : Event → Plan → Type 0
    PlanGoes e (immediate b y) = KeepsAll c b
    PlanGoes e reads_all = Unit {0}
    PlanGoes e (asks q) = (t : QueryReply) → T q t → KeepsAll c (on_reply d e c t).0 × ((b : Core) → no_memory d e c t ≡ Some b → KeepsAll c b)

    over : (i : ℕ) → KeepsAll c (ended_run c i)
    over i = record { later = omega arith; runs = less c h i }

    live_turn : (i : ℕ) → Adds d (Event.Turn i) c → (o : Option Run) → map.get c.runs i ≡ o → PlanGoes (Event.Turn i) (run_plan c i o)
    live_turn i adds None gone = stays c h
    live_turn i adds (Some r) live = either (PlanGoes (Event.Turn i)) (nat_lt r.deadline c.now) _ _ (λ late. over i) (λ alive t told. (
      turned i t (map.get c.runs i) (λ k is. adds k is t (subst (λ (z : Run). T (run_asks z) t) (same_some (sym live ∙ is)) told)),
      λ b w. subst (KeepsAll c) (same_some w) (unheard i t (map.get c.runs i)),
    ))

    live_lost : (i : ℕ) (o : Option Run) → PlanGoes (Event.Lost i) (run_plan c i o)
    live_lost i None = stays c h
    live_lost i (Some r) = either (PlanGoes (Event.Lost i)) (nat_lt r.deadline c.now) _ _ (λ late. over i) (λ alive t told. (unheard i t (map.get c.runs i), λ b w. cc))

    live_crash : (i : ℕ) (o : Option Run) → PlanGoes (Event.Crash i) (crash_plan c i o)
    live_crash i None = stays c h
    live_crash i (Some r) = either (PlanGoes (Event.Crash i)) (nat_lt r.deadline c.now) _ _ (λ late. over i) (λ alive. over i)

    plan_goes : (e : Event) → Adds d e c → PlanGoes e (plan_of d e c)
    plan_goes Event.Ticket new = either (PlanGoes Event.Ticket) (c.newest == 2 ^ 32 - 1) _ _ (λ u. stays c h) (λ u t told. (ticketed (is_added t), λ b w. cc))
    plan_goes (Event.Request t f a) new = either (PlanGoes (Event.Request t f a)) ((t == 0) || nat_lt c.newest t) _ _ (λ u. stays c h) (λ u.
        either (PlanGoes (Event.Request t f a)) (is_crowded c) _ _ (λ u. stays c h) (λ u k told. (requested t f a (binding_of k) new, lent (lends k))))
    plan_goes (Event.Turn i) adds = live_turn i adds (map.get c.runs i) refl
    plan_goes (Event.Lost i) adds = live_lost i (map.get c.runs i)
    plan_goes (Event.Crash i) adds = live_crash i (map.get c.runs i)
    plan_goes (Event.Restart id f) new = either (PlanGoes (Event.Restart id f)) (is_crowded c) _ _ (λ u. stays c h) (λ u. record { later = omega arith; runs = more c h (new_run d c id f) (new id f) })
    plan_goes (Event.Tick n) new = either (PlanGoes (Event.Tick n)) (nat_lt last_moment (c.now + n)) _ _ (λ u. stays c h) (λ u. record { later = omega arith; runs = h })
    plan_goes Event.Ic new = λ t told. (collects (collect_output t) new, lent (lends t))
    plan_goes Event.Halt new = tt

    -- the query was not made
    refused_goes : (e : Event) (v : TableErr) → KeepsAll c (refused e c v).0
    refused_goes (Event.Turn i) (TableErr.Full live most) = stays c h
    refused_goes (Event.Turn i) v = over i
    refused_goes (Event.Lost i) TableErr.OutOfMemory = over i
    refused_goes (Event.Lost i) v = over i
    refused_goes e v = stays c h

    -- after a halt no run is live
    no_runs : All map.empty
    no_runs n r is = let clash = sym (get-empty nat_cmp n) ∙ is in cc

    halts : (w : Result ℕ TableErr) → KeepsAll c (halt_next c w).0
    halts (Ok t) = record { later = omega arith; runs = no_runs }
    halts (Err TableErr.OutOfMemory) = record { later = omega arith; runs = no_runs }
    halts (Err v) = record { later = omega arith; runs = no_runs }

    module _ (e : Event) (z : Core) where
      pub read : (w : Result ℕ TableErr) (x : Result EventReply AllocError) → (z, x) ≡ halt_next c w → KeepsAll c z
      read w x is = subst (λ (y : Core × Result EventReply AllocError). KeepsAll c y.0) (sym is) (halts w)

      pub asked : (q : Query) (w : Result QueryReply TableErr) (x : Result EventReply AllocError) → PlanGoes e (asks q) → ((t : QueryReply) → w ≡ Ok t → T q t) → Followed d e c w z x → KeepsAll c z
      asked q (Ok t) (Ok x) goes told is = subst (λ (y : Core × EventReply). KeepsAll c y.0) (sym is) (goes t (told t refl)).0
      asked q (Ok t) (Err w) goes told is = (goes t (told t refl)).1 z is
      asked q (Err v) x goes told is = subst (λ (y : Core × Result EventReply AllocError). KeepsAll c y.0) (sym is) (refused_goes e v)

      pub answered : (b : Core) (y : EventReply) (x : Result EventReply AllocError) → KeepsAll c b → LocalSteps c b y z x → KeepsAll c z
      answered b y (Ok x) goes is = subst (KeepsAll c) (sym is.0) goes
      answered b y (Err w) goes is = subst (KeepsAll c) (sym is.0) (stays c h)

  -- a host that is spent does nothing, and one that is shut halts or does nothing
  planned : (d : Deployment) (e : Event) (c : Core) (h : All c.runs) → Adds d e (counted c) → PlanGoes d (counted c) h e (plan d e c)
  planned d e c h adds = of_plan d e c (PlanGoes d (counted c) h e) (λ few. plan_goes d (counted c) h e adds) (λ shut. stays (counted c) h) (record { later = omega arith; runs = h })

  module _ (d : Deployment) (e : Event) (c z : Core) (h : All c.runs) (adds : Adds d e (counted c)) (x : Result EventReply AllocError) where
    -- over any table
    pub after_step : (old new : TableState) → ((q : Query) (t : QueryReply) → T q t) → Stepped d e c z old new x → KeepsAll c z
    after_step old new all s = let g = by_plan (plan d e c) (planned d e c h adds) s in record { later = g.later; runs = g.runs }
      where
        by_plan : (p : Plan) → PlanGoes d (counted c) h e p → StepBy d e (counted c) p z old new x → KeepsAll (counted c) z
        by_plan (immediate b y) goes s = answered d (counted c) h e z b y x goes s.0
        by_plan (asks q) goes s = asked d (counted c) h e z q s.0 x goes (λ t is. all q t) s.1
        by_plan reads_all goes s = read d (counted c) h e z s.0 x s.1

    -- over rows that are told
    pub after_event : (room old new : ℕ) (m n : Rows) → ((q : Query) → T q (query_reply q c.now m)) → EventOn d room old new e c m z n x → KeepsAll c z
    after_event room old new m n all s = let g = by_plan (plan d e c) (planned d e c h adds) s in record { later = g.later; runs = g.runs }
      where
        told : (q : Query) (w : Result QueryReply TableErr) → CameOn q c.now room w m n → (t : QueryReply) → w ≡ Ok t → T q t
        told q (Ok u) came t is = subst (T q) (sym came.1 ∙ same_ok is) (all q)
        told q (Err v) came t is = cc

        by_plan : (p : Plan) → PlanGoes d (counted c) h e p → EventBy d room old new e (counted c) p m z n x → KeepsAll (counted c) z
        by_plan (immediate b y) goes s = answered d (counted c) h e z b y x goes s.0
        by_plan (asks q) goes s = asked d (counted c) h e z q s.0 x goes (told q s.0 s.2) s.1
        by_plan reads_all goes s = read d (counted c) h e z s.0 x s.1
