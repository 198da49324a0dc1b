-- One event of a settling in which no failure is counted: nothing happens but that runs are over or started, or a run in time makes its turn.
use Rattle.std.specs.{Cmp.Equal-is, FinMap.FinMap, FinMap.nat_cmp-IsAntisymmetric, Ordering.is_eq, Ordering.nat_cmp, declared.alloc.AllocError.AllocError}
use Rattle.std.specs.FinMap as map
use Rattle.std.proofs.lemmas.Cmp.{tied_itself}
use Rattle.std.specs.Cmp.{nat_cmp_total}
use Rattle.std.proofs.Common.{◌≡◌, ◌⊎◌, inl, inr, ℕ, ◌+◌, ◌-◌, ◌^◌, ◌<◌, ◌≤◌, ◌||◌, nat_lt, ltb-true, lt-ltb, Bool, true, false, cond, Option, Some, None, Result, Ok, Err, refl, sym, ap, subst, ◌∙◌, arith}
use Rattle.beldi_value.specs.{Id.has_callees, declared.id.IntentId.IntentId}
use Rattle.beldi_tree.specs.declared.deployment.Deployment.{Deployment}
use Rattle.beldi_lang.specs.declared.effect.Effect.{Effect}
use Rattle.beldi_row.specs.{Table.HasCause, Table.Rows, declared.table.TableErr.TableErr}
use Rattle.beldi_query.{proofs.Lent.refused_stand, specs.Query.rows_after}
use Rattle.beldi_collect.specs.{Collect.collect_asks, Collect.collect_output, declared.cursor.Found.Found}
use Rattle.beldi_plain_laws.proofs.Maps.{same_some}
use Rattle.beldi_step.proofs.PutRun.{put_got}
use Rattle.beldi_step.proofs.StepRuns.{of_plan}
use Rattle.beldi_step.specs.{HostStep.Core, HostStep.EventBy, HostStep.EventOn, HostStep.after_turn, HostStep.asks, HostStep.collect_next, HostStep.counted, HostStep.ended_run, HostStep.has_run, HostStep.is_crowded, HostStep.made, HostStep.may_start, HostStep.new_run, HostStep.put_run, HostStep.run_next, HostStep.run_plan, HostStep.started, HostStep.turn_next, HostStep.turned_core, HostStep.with_run, Run.callee_at, Run.callee_by, Run.callee_of, Run.callee_run, Run.run_asks, Run.output_of, declared.event.Event.Event, declared.event.EventReply.EventReply, declared.run.Begun.Begun, declared.run.Run.Run, declared.run.RunAt.RunAt, declared.run.RunTx.RunTx, declared.run.TurnOutput.TurnOutput, declared.run.Wait.Wait}
use Rattle.beldi_schedule.specs.{Settle.core_for, Settle.event_of, declared.machine.Next.Next}
use Rattle.beldi_invariant.proofs.Moves.{if_plan}
use Rattle.beldi_upkeep.specs.Checked.{has_begun, next_turn}

-- ---- what an event comes to
-- the rows are as before; who is in time lives on, and who lives and has begun lived
pub record Stays (c : Core) (m : Rows) (b : Core) (n : Rows) : Type 0 where
  pub rows : n ≡ m
  pub now : b.now ≡ c.now
  pub lives : (j : ℕ) (s : Run) → map.get c.runs j ≡ Some s → c.now ≤ s.deadline → map.get b.runs j ≡ Some s
  pub lived : (j : ℕ) (s : Run) (g : Begun) → map.get b.runs j ≡ Some s → s.at ≡ RunAt.Begins g → map.get c.runs j ≡ Some s

-- a live run in time makes its turn, and all others live on
pub record Turns (d : Deployment) (c : Core) (m : Rows) (b : Core) (n : Rows) : Type 0 where
  pub number : ℕ
  pub run : Run
  pub live : map.get c.runs number ≡ Some run
  pub in_time : c.now ≤ run.deadline
  pub rows : n ≡ rows_after (run_asks run) c.now m
  pub now : b.now ≡ c.now
  pub own : map.get b.runs number ≡ (next_turn d c m run).next
  pub lives : (j : ℕ) (s : Run) → (j ≡ number → ⊥) → map.get c.runs j ≡ Some s → map.get b.runs j ≡ Some s
  pub lived : (j : ℕ) (s : Run) (g : Begun) → (j ≡ number → ⊥) → map.get b.runs j ≡ Some s → s.at ≡ RunAt.Begins g → map.get c.runs j ≡ Some s

-- ---- live runs
none_some : {X : Type 0} {s : X} → None ≡ Some s → ⊥
none_some h = cc

same_at : (i : ℕ) → is_eq (nat_cmp i i) ≡ true
same_at i = ap is_eq (tied_itself nat_cmp_total i)

apart : (i j : ℕ) → (j ≡ i → ⊥) → is_eq (nat_cmp j i) ≡ false
apart i j other = by_test (is_eq (nat_cmp j i)) refl
  where
    by_test : (b : Bool) → is_eq (nat_cmp j i) ≡ b → b ≡ false
    by_test true e = absurd (other (nat_cmp-IsAntisymmetric j i ((Equal-is (nat_cmp j i)).0 e)))
    by_test false e = refl

put_here : (m : FinMap nat_cmp Run) (i : ℕ) (o : Option Run) → map.get (put_run m i o) i ≡ o
put_here m i o = put_got m i o i ∙ ap (λ t. cond t o (map.get m i)) (same_at i)

put_other : (m : FinMap nat_cmp Run) (i : ℕ) (o : Option Run) (j : ℕ) → (j ≡ i → ⊥) → map.get (put_run m i o) j ≡ map.get m j
put_other m i o j other = put_got m i o j ∙ ap (λ t. cond t o (map.get m j)) (apart i j other)

-- a core that has at most a run more, which has not begun
pub record Adds (c z : Core) : Type 0 where
  pub now : z.now ≡ c.now
  pub keeps : (j : ℕ) → j ≤ c.last_run → map.get z.runs j ≡ map.get c.runs j
  pub lived : (j : ℕ) (s : Run) (g : Begun) → map.get z.runs j ≡ Some s → s.at ≡ RunAt.Begins g → map.get c.runs j ≡ Some s

adds_none : (c : Core) → Adds c c
adds_none c = record { now = refl; keeps = λ j le. refl; lived = λ j s g is at. is }

adds_one : (c : Core) (q : Run) → has_begun q.at ≡ false → Adds c (with_run c q)
adds_one c q yet = record {
  now = refl;
  keeps = λ j le. put_other c.runs (c.last_run + 1) (Some q) j (λ e. omega (arith, le, e));
  lived = λ j s g is at. by_test j s g (is_eq (nat_cmp j (c.last_run + 1))) refl is at;
}
  where
    by_test : (j : ℕ) (s : Run) (g : Begun) (b : Bool) → is_eq (nat_cmp j (c.last_run + 1)) ≡ b → map.get (put_run c.runs (c.last_run + 1) (Some q)) j ≡ Some s → s.at ≡ RunAt.Begins g → map.get c.runs j ≡ Some s
    by_test j s g true e is at =
        let same : q ≡ s = same_some (sym (put_got c.runs (c.last_run + 1) (Some q) j ∙ ap (λ t. cond t (Some q) (map.get c.runs j)) e) ∙ is) in
        let clash : true ≡ false = sym (ap has_begun (ap (λ (x : Run). x.at) same ∙ at)) ∙ yet in cc
    by_test j s g false e is at = sym (put_got c.runs (c.last_run + 1) (Some q) j ∙ ap (λ t. cond t (Some q) (map.get c.runs j)) e) ∙ is

-- ---- what a turn starts has not begun
abbrev Fresh : Option Run → Type 0
Fresh o = (q : Run) → o ≡ Some q → has_begun q.at ≡ false

called_fresh : (r : Run) (step f : ℕ) (at : RunAt) → has_begun at ≡ false → Fresh (callee_run r step f at)
called_fresh r step f at yet q = if_plan (λ o. o ≡ Some q → has_begun q.at ≡ false) (has_callees r.id) _ _ (λ t is. sym (ap (λ (x : Run). has_begun x.at) (same_some is)) ∙ yet) (λ t is. absurd (none_some is))

effect_fresh : (r : Run) (o : Option RunTx) (step : ℕ) (e : Effect) → Fresh (callee_by r o step e)
effect_fresh r o step (Effect.Call f a) = called_fresh r step f _ refl
effect_fresh r o step (Effect.Async f a) = called_fresh r step f _ refl
effect_fresh r o step e = λ q is. absurd (none_some is)

callee_fresh : (r : Run) (at : RunAt) → Fresh (callee_at r at)
callee_fresh r (RunAt.Begins g) = effect_fresh r g.tx g.machine.steps g.machine.effect
callee_fresh r at = λ q is. absurd (none_some is)

module _ (c : Core) (id : IntentId) (x : TurnOutput) where
  begins : (o : Option Run) → Fresh o → Adds c (made id x (started c o)).0
  begins None fresh = adds_none c
  begins (Some q) fresh = adds_one c q (fresh q refl)

  may_begin : (o : Option Run) → Fresh o → Adds c (made id x (may_start c o)).0
  may_begin None fresh = adds_none c
  may_begin (Some q) fresh = if_plan (λ (z : Core × Option ℕ). Adds c z.0) (has_run c.runs q.id || is_crowded c) _ _ (λ t. adds_none c) (λ t. adds_one c q (fresh q refl))

  turn_adds : (o : Option Run) → Fresh o → (w : Option Wait) → Adds c (after_turn c o id x w).0
  turn_adds o fresh None = if_plan (λ (z : Core × Option ℕ). Adds c (made id x z).0) x.starts _ _ (λ t. may_begin o fresh) (λ t. adds_none c)
  turn_adds o fresh (Some (Wait.Held u)) = adds_none c
  turn_adds o fresh (Some Wait.Worn) = adds_none c
  turn_adds o fresh (Some (Wait.Result j)) = if_plan (λ (z : Core × EventReply). Adds c z.0) (has_run c.runs j) _ _ (λ t. adds_none c) (λ t. if_plan (λ (z : Core × EventReply). Adds c z.0) (is_crowded c) _ _ (λ u. adds_none c) (λ u. begins o fresh))

-- .. nor does what the collector starts
found_adds : (d : Deployment) (c : Core) (x : Found) → Adds c (collect_next d c x).0
found_adds d c Found.Round = record { now = refl; keeps = λ j le. refl; lived = λ j s g is at. is }
found_adds d c (Found.Passed k) = record { now = refl; keeps = λ j le. refl; lived = λ j s g is at. is }
found_adds d c (Found.Unended k id f) = if_plan (λ (z : Core × EventReply). Adds c z.0) (has_run c.runs id) _ _ (λ t. record { now = refl; keeps = λ j le. refl; lived = λ j s g is at. is })
    (λ t. if_plan (λ (z : Core × EventReply). Adds c z.0) (is_crowded c) _ _ (λ u. adds_none c) (λ u. let k = adds_one c (new_run d c id f) refl in record { now = k.now; keeps = k.keeps; lived = k.lived }))

-- ---- an event
module _ (d : Deployment) (room old new : ℕ) (few : new < 2 ^ 64 - 1) (same : new ≡ old) (b : Core) (m n : Rows) (x : EventReply) where
  no_failure : {T : Type 0} → HasCause {T = T} old new (Err TableErr.Failed) → ⊥
  no_failure cause = let rose = cause.failed refl in omega (arith, few, same, rose)

  no_memory : {y : EventReply} {w : AllocError} → ◌≡◌ {A = Result EventReply AllocError} (Ok y) (Err w) → ⊥
  no_memory h = cc

  -- ---- of the collector
  module _ (c : Core) where
    by_found : EventBy d room old new Event.Ic (counted c) (asks (collect_asks c.cursor)) m b n (Ok x) → Adds c b × (n ≡ m)
    by_found (Ok t, followed, came, cause) =
        let a = found_adds d (counted c) (collect_output t) in
        let is : b ≡ (collect_next d (counted c) (collect_output t)).0 = ap (λ (z : Core × EventReply). z.0) followed in
        (subst (Adds c) (sym is) (record { now = a.now; keeps = a.keeps; lived = a.lived }), came.0)
    by_found (Err v, followed, came, cause) =
        let is : b ≡ counted c = ap (λ (z : Core × Result EventReply AllocError). z.0) followed in
        (subst (Adds c) (sym is) (record { now = refl; keeps = λ j le. refl; lived = λ j s g is at. is }), refused_stand (collect_asks c.cursor) c.now room v m n came)

    by_collector : EventOn d room old new Event.Ic c m b n (Ok x) → Adds c b × (n ≡ m)
    by_collector = of_plan d Event.Ic c (λ p. EventBy d room old new Event.Ic (counted c) p m b n (Ok x) → Adds c b × (n ≡ m)) (λ t. by_found)
        (λ t ev. (subst (Adds c) (sym ev.0.0) (record { now = refl; keeps = λ j le. refl; lived = λ j s g is at. is }), ev.1))
        (λ ev. (subst (Adds c) (sym ev.0.0) (record { now = refl; keeps = λ j le. refl; lived = λ j s g is at. is }), ev.1))

  module _ (c : Core) (numbers : (j : ℕ) (s : Run) → map.get c.runs j ≡ Some s → j ≤ c.last_run) where
    abbrev Steps : Type 0
    Steps = Stays c m b n ⊎ Turns d c m b n

    collected_so : Adds c b × (n ≡ m) → Steps
    collected_so k = inl (record { rows = k.1; now = k.0.now; lives = λ j s live time. k.0.keeps j (numbers j s live) ∙ live; lived = k.0.lived })

    -- ---- of a run
    stands : (z : Core) → b ≡ z → z.now ≡ c.now → ((j : ℕ) → map.get z.runs j ≡ map.get c.runs j) → n ≡ m → Steps
    stands z is now runs rows = inl (record {
      rows = rows;
      now = ap (λ (y : Core). y.now) is ∙ now;
      lives = λ j s live time. ap (λ (y : Core). map.get y.runs j) is ∙ runs j ∙ live;
      lived = λ j s g live at. sym (runs j) ∙ sym (ap (λ (y : Core). map.get y.runs j) is) ∙ live;
    })

    module _ (i : ℕ) (r : Run) (live : map.get c.runs i ≡ Some r) where
      -- it is over, as it is late
      expires : r.deadline < c.now → b ≡ ended_run (counted c) i → n ≡ m → Steps
      expires late is rows = inl (record {
        rows = rows;
        now = ap (λ (y : Core). y.now) is;
        lives = λ j s there time. ap (λ (y : Core). map.get y.runs j) is ∙ put_other c.runs i None j (λ e. let it : r ≡ s = same_some (sym live ∙ ap (map.get c.runs) (sym e) ∙ there) in let dead = ap (λ (z : Run). z.deadline) it in omega (arith, late, time, dead)) ∙ there;
        lived = λ j s g there at. by_test j s (is_eq (nat_cmp j i)) refl (sym (ap (λ (y : Core). map.get y.runs j) is) ∙ there);
      })
        where
          by_test : (j : ℕ) (s : Run) (t : Bool) → is_eq (nat_cmp j i) ≡ t → map.get (put_run c.runs i None) j ≡ Some s → map.get c.runs j ≡ Some s
          by_test j s true e there = absurd (none_some (sym (put_got c.runs i None j ∙ ap (λ t. cond t None (map.get c.runs j)) e) ∙ there))
          by_test j s false e there = sym (put_got c.runs i None j ∙ ap (λ t. cond t None (map.get c.runs j)) e) ∙ there

      -- it makes its turn
      turns : (r.deadline < c.now → ⊥) → b ≡ (turn_next (counted c) i r (next_turn d c m r)).0 → n ≡ rows_after (run_asks r) c.now m → Steps
      turns alive is rows =
          let s = next_turn d c m r in
          let core = turned_core (counted c) i r.id s in
          let a : Adds core b = subst (Adds core) (sym is) (turn_adds core r.id (output_of s) (callee_of r) (callee_fresh r r.at) s.wait) in
          inr (record {
            number = i;
            run = r;
            live = live;
            in_time = omega (arith, alive);
            rows = rows;
            now = a.now;
            own = a.keeps i (numbers i r live) ∙ put_here c.runs i s.next;
            lives = λ j z other there. a.keeps j (numbers j z there) ∙ put_other c.runs i s.next j other ∙ there;
            lived = λ j z g other there at. sym (put_other c.runs i s.next j other) ∙ a.lived j z g there at;
          })

      by_answer : (r.deadline < c.now → ⊥) → EventBy d room old new (Event.Turn i) (counted c) (asks (run_asks r)) m b n (Ok x) → Steps
      by_answer alive (Err TableErr.OutOfMemory, followed, came, cause) = absurd (no_memory (ap (λ (z : Core × Result EventReply AllocError). z.1) followed))
      by_answer alive (Err TableErr.Failed, followed, came, cause) = absurd (no_failure cause)
      by_answer alive (Err (TableErr.Full l k), followed, came, cause) = stands (counted c) (ap (λ (z : Core × Result EventReply AllocError). z.0) followed) refl (λ j. refl) (refused_stand (run_asks r) c.now room (TableErr.Full l k) m n came)
      by_answer alive (Ok t, followed, came, cause) =
          let turn : run_next d (counted c) i t (map.get c.runs i) ≡ turn_next (counted c) i r (next_turn d c m r) = ap (λ o. run_next d (counted c) i t o) live ∙ ap (λ u. run_next d (counted c) i u (Some r)) came.1 in
          turns alive (ap (λ (z : Core × EventReply). z.0) (followed ∙ turn)) came.0

      by_time : EventBy d room old new (Event.Turn i) (counted c) (run_plan (counted c) i (Some r)) m b n (Ok x) → Steps
      by_time = if_plan (λ p. EventBy d room old new (Event.Turn i) (counted c) p m b n (Ok x) → Steps) (nat_lt r.deadline c.now) _ _
          (λ late ev. expires (ltb-true r.deadline c.now late) ev.0.0 ev.1)
          (λ alive. by_answer (λ late. let clash : true ≡ false = sym (lt-ltb r.deadline c.now late) ∙ alive in cc))

    by_live : (i : ℕ) (o : Option Run) → map.get c.runs i ≡ o → EventBy d room old new (Event.Turn i) (counted c) (run_plan (counted c) i o) m b n (Ok x) → Steps
    by_live i None gone ev = stands (counted c) ev.0.0 refl (λ j. refl) ev.1
    by_live i (Some r) live ev = by_time i r live ev

    by_turn : (i : ℕ) → EventOn d room old new (Event.Turn i) c m b n (Ok x) → Steps
    by_turn i = of_plan d (Event.Turn i) c (λ p. EventBy d room old new (Event.Turn i) (counted c) p m b n (Ok x) → Steps) (λ t. by_live i (map.get c.runs i) refl)
        (λ t ev. stands (counted c) ev.0.0 refl (λ j. refl) ev.1) (λ ev. stands c ev.0.0 refl (λ j. refl) ev.1)

    pub next_steps : (z : Next) → EventOn d room old new (event_of z) (core_for z c) m b n (Ok x) → Steps
    next_steps (Next.Turn s i) ev = by_turn i ev
    next_steps (Next.Collect s) ev = collected_so (by_collector c ev)
    next_steps (Next.Reset s) ev = let k = by_collector (core_for (Next.Reset s) c) ev in collected_so (record { now = k.0.now; keeps = k.0.keeps; lived = k.0.lived }, k.1)
