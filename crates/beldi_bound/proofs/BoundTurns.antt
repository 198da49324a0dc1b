-- What a turn of a run may come to, and that its event is one of these.
use Rattle.beldi_histories.proofs.Answers.{true_false}
use Rattle.beldi_plain_laws.proofs.Maps.{same_some}
use Rattle.std.specs.FinMap as map
use Rattle.std.specs.declared.alloc.AllocError.{AllocError}
use Rattle.std.proofs.Common.{◌≡◌, ℕ, ◌-◌, ◌^◌, ◌<◌, ◌≤◌, nat_lt, ltb-true, lt-ltb, Bool, true, false, List, Option, Some, None, Result, Ok, Err, if◌then◌else◌, refl, sym, ap, subst, ◌∙◌, arith}
use Rattle.beldi_value.specs.{declared.id.IntentId.IntentId}
use Rattle.beldi_tree.specs.declared.deployment.Deployment.{Deployment}
use Rattle.beldi_lang.specs.declared.effect.{Answer.Answer}
use Rattle.beldi_row.specs.{Key.RowKey, Table.HasCause, Table.Rows, declared.table.TableErr.TableErr}
use Rattle.beldi_query.{proofs.Lent.refused_stand, specs.Query.CameOn, specs.Query.QueryReply, specs.Query.rows_after}
use Rattle.beldi_step.proofs.StepRuns.{of_plan}
use Rattle.beldi_step.specs.{HostStep.Core, HostStep.EventBy, HostStep.EventOn, HostStep.Plan, HostStep.asks, HostStep.counted, HostStep.ended_run, HostStep.run_next, HostStep.run_plan, HostStep.turn_next, Run.run_asks, declared.event.Event.Event, declared.event.EventReply.EventReply, declared.run.Run.Run}
use Rattle.beldi_schedule.specs.Settle.{is_turned_away, is_waiting}
use Rattle.beldi_upkeep.specs.Checked.{next_turn}
use Rattle.beldi_bound.specs.{Ends.Sound}
use Rattle.beldi_bound.proofs.Ledger.{Pays, past_after, turn_of}

-- ---- what a turn may come to
abbrev pub FullStays : ℕ → Rows → Rows → Type 0
FullStays room m n = room ≤ map.len m → ((k : RowKey) → map.get m k ≡ None → map.get n k ≡ None) × (room ≤ map.len n)

-- both ways of a test
pub either : {A : Type 0} (S : A → Type 0) (b : Bool) (p q : A) → (b ≡ true → S p) → (b ≡ false → S q) → S (if b then p else q)
either S true p q f g = f refl
either S false p q f g = g refl

rose : (old new : ℕ) → new < 2 ^ 64 - 1 → HasCause {T = QueryReply} old new (Err TableErr.Failed) → 1 ≤ new - old
rose old new few cause = let h = cause.failed refl in omega (arith, h, few)

module _ (d : Deployment) (room : ℕ) (e : Rows) (asked : IntentId → List Answer) (first most : ℕ) (past i : ℕ) (c : Core) (m : Rows) (r : Run) (runs : List (ℕ × ℕ)) (keys : List RowKey) where
  abbrev pub Paying : ℕ → Core × EventReply → Rows → Type 0
  Paying f y n = Pays d room e asked first most (past_after d room e asked first most (is_waiting y.1) i past) runs keys (turn_of d room e asked first most (is_waiting y.1)) f y.0 n

  module _ (f : ℕ) (live : map.get c.runs i ≡ Some r) where
    -- by what it came to: the run was late, the table refused it, or it was told
    pub record Ways (Went : Rows → Type 0) : Type 0 where
      pub expired : r.deadline < c.now → Paying f (ended_run (counted c) i, EventReply.Expired) m
      pub failed : 1 ≤ f → Paying f (ended_run (counted c) i, EventReply.Dropped) m
      pub full : (live_now limit : ℕ) → CameOn (run_asks r) c.now room (Err (TableErr.Full live_now limit)) m m → Paying f (counted c, EventReply.Full live_now limit) m
      pub told : (r.deadline < c.now → ⊥) → let y = turn_next (counted c) i r (next_turn d c m r) in (b : Core) (n : Rows) → Sound d b n → Went n → y.0 ≡ b → n ≡ rows_after (run_asks r) c.now m → Paying f y n

    module _ (old new : ℕ) (few : new < 2 ^ 64 - 1) (b : Core) (n : Rows) (x : EventReply) (not_away : is_turned_away x ≡ false) (sb : Sound d b n) (Went : Rows → Type 0) (went : Went n) (ways : Ways Went) (f_is : f ≡ new - old) where
      as_it : (z : Core) (y : EventReply) (k : Rows) → b ≡ z → x ≡ y → n ≡ k → Paying f (z, y) k → Paying f (b, x) n
      as_it z y k p q s h = subst (λ v. Paying f (v, x) n) (sym p) (subst (λ v. Paying f (z, v) n) (sym q) (subst (λ v. Paying f (z, y) v) (sym s) h))

      ok_is : {y z : EventReply} → ◌≡◌ {A = Result EventReply AllocError} (Ok y) (Ok z) → y ≡ z
      ok_is h = cc

      no_memory : {y : EventReply} {w : AllocError} → ◌≡◌ {A = Result EventReply AllocError} (Ok y) (Err w) → ⊥
      no_memory h = cc

      abbrev Came : Plan → Type 0
      Came p = EventBy d room old new (Event.Turn i) (counted c) p m b n (Ok x) → Paying f (b, x) n

      by_answer : (r.deadline < c.now → ⊥) → Came (asks (run_asks r))
      by_answer alive (Err TableErr.OutOfMemory, followed, came, cause) = absurd (no_memory (ap (λ (z : Core × Result EventReply AllocError). z.1) followed))
      by_answer alive (Err TableErr.Failed, followed, came, cause) = as_it (ended_run (counted c) i) EventReply.Dropped m (ap (λ (z : Core × Result EventReply AllocError). z.0) followed) (ok_is (ap (λ (z : Core × Result EventReply AllocError). z.1) followed))
          (refused_stand (run_asks r) c.now room TableErr.Failed m n came) (ways.failed (subst (λ z. 1 ≤ z) (sym f_is) (rose old new few cause)))
      by_answer alive (Err (TableErr.Full l k), followed, came, cause) =
          let same : n ≡ m = refused_stand (run_asks r) c.now room (TableErr.Full l k) m n came in
          as_it (counted c) (EventReply.Full l k) m (ap (λ (z : Core × Result EventReply AllocError). z.0) followed) (ok_is (ap (λ (z : Core × Result EventReply AllocError). z.1) followed)) same (ways.full l k (subst (λ z. CameOn (run_asks r) c.now room (Err (TableErr.Full l k)) m z) same came))
      by_answer alive (Ok t, followed, came, cause) =
          let turn : run_next d (counted c) i t (map.get c.runs i) ≡ turn_next (counted c) i r (next_turn d c m r) = ap (λ o. run_next d (counted c) i t o) live ∙ ap (λ u. run_next d (counted c) i u (Some r)) came.1 in
          let made : (b, x) ≡ turn_next (counted c) i r (next_turn d c m r) = followed ∙ turn in
          subst (λ (y : Core × EventReply). Paying f y n) (sym made) (ways.told alive b n sb went (sym (ap (λ (z : Core × EventReply). z.0) made)) came.0)

      by_plan : (o : Option Run) → o ≡ Some r → Came (run_plan (counted c) i o)
      by_plan None is = absurd (none_some is)
        where
          none_some : {z : Run} → None ≡ Some z → ⊥
          none_some h = cc
      by_plan (Some s) is = subst (λ z. Came (run_plan (counted c) i (Some z))) (sym (same_some is)) (either Came (nat_lt r.deadline c.now) _ _
          (λ late ev. as_it (ended_run (counted c) i) EventReply.Expired m ev.0.0 ev.0.1 ev.1 (ways.expired (ltb-true r.deadline c.now late)))
          (λ alive. by_answer (λ late. let clash : true ≡ false = sym (lt-ltb r.deadline c.now late) ∙ alive in absurd (true_false clash))))

      pub by_event : EventOn d room old new (Event.Turn i) c m b n (Ok x) → Paying f (b, x) n
      by_event = of_plan d (Event.Turn i) c Came (λ t. by_plan (map.get c.runs i) live) (λ t ev. absurd (true_false (sym (ap is_turned_away ev.0.1) ∙ not_away))) (λ ev. absurd (true_false (sym (ap is_turned_away ev.0.1) ∙ not_away)))
