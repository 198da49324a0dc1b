-- A settling counts at most the work: event by event, what it has counted and what the ledger still holds never rises, but for failures.
use Rattle.beldi_row.specs.Key.{least_key}
use Rattle.beldi_upkeep.specs.Checked.{NoFirstTurnIsOver}
use Rattle.beldi_bound.proofs.{Going.events_go_on, Going.goes_same, Going.goes_then, Soundly.at_cursor, Soundly.sound_on, Soundly.sound_then, Standing.runs_stand, TurnsPaid.turns_paid}
use Rattle.std.specs.FinMap as map
use Rattle.std.specs.declared.alloc.AllocError.{AllocError}
use Rattle.std.proofs.Math.Nat.{add-mul}
use Rattle.std.proofs.Common.{Bool, List, None, Err, Ok, Option, Result, Some, ap, arith, false, if◌then◌else◌, nat_le, nat_lt, not, refl, subst, sym, true, ℕ, ◌&&◌, ◌*◌, ◌+◌, ◌-◌, ◌<◌, ◌^◌, ◌||◌, ◌∙◌, ◌≡◌, ◌≤◌}
use Rattle.beldi_value.specs.declared.id.IntentId.{IntentId}
use Rattle.beldi_tree.specs.declared.deployment.Deployment.{Deployment}
use Rattle.beldi_lang.specs.declared.effect.Answer.{Answer}
use Rattle.beldi_row.specs.{Key.RowKey, Table.Rows, declared.table.TableErr.TableErr}
use Rattle.beldi_query.specs.{Query.QueryReply}
use Rattle.beldi_collect.specs.{Collect.collect_output, declared.cursor.Found.Found}
use Rattle.beldi_step.proofs.StepRuns.{after_event, either, of_plan}
use Rattle.beldi_step.specs.{HostStep.Core, HostStep.EventBy, HostStep.EventOn, HostStep.Followed, HostStep.after_turn, HostStep.asks, HostStep.immediate, HostStep.collect_next, HostStep.counted as one_taken, HostStep.ended_run, HostStep.has_run, HostStep.is_crowded, HostStep.last_moment, HostStep.may_start, HostStep.run_next, HostStep.run_plan, HostStep.started, HostStep.turned_core, Run.callee_of, Run.run_asks, Run.run_told, Run.output_of, Next.next_run, Next.reset, declared.event.Event.Event, declared.event.EventReply.EventReply, declared.run.Begun.Begun, declared.run.Run.Run, declared.run.RunAt.RunAt, declared.run.TurnOutput.TurnOutput, declared.run.Wait.Wait}
use Rattle.beldi_book.specs.LinearOrder.{count_changes}
use Rattle.beldi_schedule.specs.{Settle.begun, Settle.by_round as goes_round, Settle.core_for, Settle.counted, Settle.counts, Settle.end_of, Settle.ends_round, Settle.event_of, Settle.first_at, Settle.go_on, Settle.on_reply_of, Settle.on_ic_reply, Settle.is_empty, Settle.is_turned_away, Settle.is_waiting, Settle.next_of, Settle.parked, Settle.restless, Settle.round_over, Settle.on_turn_reply, Settle.turn_or, Settle.turns_of, Settle.unparked, Settle.unless_away, Settle.away}
use Rattle.beldi_schedule.specs.declared.machine.{At.At, Next.Next, Settled.Settled, Standing.Standing, Standing.TheVariants.Working, Standing.TheVariants.Over}
use Rattle.beldi_schedule.specs.Settles.{Advances, MaySkip, Settles, State, goes, set_to, skips, stands}
use Rattle.beldi_bound.specs.{Cost.AreAsked, Ends.IsBelowEnd, Ends.Sound, SettleWork.work_of}
use Rattle.beldi_bound.proofs.{BoundEntries.next_is_past, BoundEntries.none_past, Facts.GoesOn, RoundsPay.ledger_moves, Bringing.settling_brings, ResultsCome.ResultsCome, ResultsCome.results_same, ResultsCome.results_then, RoundsPay.rounds_pay, Starting.ledger_begins}
use Rattle.beldi_bound.proofs.Ledger.{Ledger, Pays, RoundsPay, TurnsPay, due, past_after, total, turn_of}

-- ---- an event of a settling leaves the moment
module _ (d : Deployment) where
  started_now : (c : Core) (o : Option Run) → (started c o).0.now ≡ c.now
  started_now c None = refl
  started_now c (Some r) = refl

  may_now : (c : Core) (o : Option Run) → (may_start c o).0.now ≡ c.now
  may_now c None = refl
  may_now c (Some r) = either (λ (p : Core × Option ℕ). p.0.now ≡ c.now) (has_run c.runs r.id || is_crowded c) _ _ (λ t. refl) (λ t. refl)

  after_now : (c : Core) (o : Option Run) (id : IntentId) (x : TurnOutput) (w : Option Wait) → (after_turn c o id x w).0.now ≡ c.now
  after_now c o id x None = either (λ (p : Core × Option ℕ). p.0.now ≡ c.now) x.starts _ _ (λ t. may_now c o) (λ t. refl)
  after_now c o id x (Some (Wait.Held w)) = refl
  after_now c o id x (Some Wait.Worn) = refl
  after_now c o id x (Some (Wait.Result j)) = either (λ (p : Core × EventReply). p.0.now ≡ c.now) (has_run c.runs j) _ _ (λ t. refl) (λ t. either (λ (p : Core × EventReply). p.0.now ≡ c.now) (is_crowded c) _ _ (λ u. refl) (λ u. started_now c o))

  run_now : (c : Core) (i : ℕ) (t : QueryReply) (o : Option Run) → (run_next d c i t o).0.now ≡ c.now
  run_now c i t None = refl
  run_now c i t (Some r) = let s = run_told d (count_changes c.book) r t in after_now (turned_core c i r.id s) (callee_of r) r.id (output_of s) s.wait

  found_now : (c : Core) (f : Found) → (collect_next d c f).0.now ≡ c.now
  found_now c Found.Round = refl
  found_now c (Found.Passed k) = refl
  found_now c (Found.Unended k id f) = either (λ (p : Core × EventReply). p.0.now ≡ c.now) (has_run c.runs id) _ _ (λ t. refl) (λ t. either (λ (p : Core × EventReply). p.0.now ≡ c.now) (is_crowded c) _ _ (λ u. refl) (λ u. refl))

  module _ (room old new : ℕ) (c b : Core) (m n : Rows) (x : EventReply) where
    turn_came : (z : Core) (i : ℕ) (w : Result QueryReply TableErr) → Followed d (Event.Turn i) z w b (Ok x) → b.now ≡ z.now
    turn_came z i (Ok t) is = ap (λ (p : Core × EventReply). p.0.now) is ∙ run_now z i t (map.get z.runs i)
    turn_came z i (Err TableErr.OutOfMemory) is = ap (λ (p : Core × Result EventReply AllocError). p.0.now) is
    turn_came z i (Err TableErr.Failed) is = ap (λ (p : Core × Result EventReply AllocError). p.0.now) is
    turn_came z i (Err (TableErr.Full live most)) is = ap (λ (p : Core × Result EventReply AllocError). p.0.now) is

    turn_plan : (z : Core) (i : ℕ) (o : Option Run) → EventBy d room old new (Event.Turn i) z (run_plan z i o) m b n (Ok x) → b.now ≡ z.now
    turn_plan z i None s = ap (λ (w : Core). w.now) s.0.0
    turn_plan z i (Some r) s = by_time (nat_lt r.deadline z.now) s
      where
        by_time : (t : Bool) → EventBy d room old new (Event.Turn i) z (if t then immediate (ended_run z i) EventReply.Expired else asks (run_asks r)) m b n (Ok x) → b.now ≡ z.now
        by_time true s = ap (λ (w : Core). w.now) s.0.0
        by_time false s = turn_came z i s.0 s.1

    pub turn_now : (i : ℕ) → EventOn d room old new (Event.Turn i) c m b n (Ok x) → b.now ≡ c.now
    turn_now i = of_plan d (Event.Turn i) c (λ p. EventBy d room old new (Event.Turn i) (one_taken c) p m b n (Ok x) → b.now ≡ c.now) (λ t. turn_plan (one_taken c) i (map.get c.runs i)) (λ t s. ap (λ (w : Core). w.now) s.0.0) (λ s. ap (λ (w : Core). w.now) s.0.0)

    round_came : (z : Core) (w : Result QueryReply TableErr) → Followed d Event.Ic z w b (Ok x) → b.now ≡ z.now
    round_came z (Ok t) is = ap (λ (p : Core × EventReply). p.0.now) is ∙ found_now z (collect_output t)
    round_came z (Err v) is = ap (λ (p : Core × Result EventReply AllocError). p.0.now) is

    pub round_now : EventOn d room old new Event.Ic c m b n (Ok x) → b.now ≡ c.now
    round_now = of_plan d Event.Ic c (λ p. EventBy d room old new Event.Ic (one_taken c) p m b n (Ok x) → b.now ≡ c.now) (λ t s. round_came (one_taken c) s.0 s.1) (λ t s. ap (λ (w : Core). w.now) s.0.0) (λ s. ap (λ (w : Core). w.now) s.0.0)

-- ---- all events of a settling: rows go on, and failures are never fewer
module _ {d : Deployment} {room budget : ℕ} where
  pub settling_goes : {y v : Standing} {s t : State} → Settles d room budget y s v t → GoesOn s.rows t.rows × (s.faults ≤ t.faults)
  settling_goes (stands y s) = (goes_same s.rows, omega arith)
  settling_goes (goes a s y u v t adv rest) = let h = settling_goes rest in
      (goes_then (events_go_on d room s.faults u.faults (event_of (next_of s.core a)) (core_for (next_of s.core a) s.core) u.core s.rows u.rows (Ok adv.answer) adv.event) h.0, let l = adv.later in let m = h.1 in omega (arith, l, m))
  settling_goes (skips a s b q v t may rest) = settling_goes rest

-- ---- a settling that is under way, with what it has counted and what its ledger holds
-- while the intent collector goes round, no run that has begun is past the number
abbrev pub Idle : At → Core → Type 0
Idle a c = (b : Bool) → a.round ≡ Some b → (i : ℕ) (r : Run) (g : Begun) → a.past < i → map.get c.runs i ≡ Some r → r.at ≡ RunAt.Begins g → ⊥

module _ (d : Deployment) (room : ℕ) (e : Rows) (asked : IntentId → List Answer) (first most : ℕ) where
  pub record Ready (a : At) (s : State) (n : ℕ) : Type 0 where
    pub runs : List (ℕ × ℕ)
    pub keys : List RowKey
    pub ledger : Ledger d room e asked first most a.past s.core s.rows runs keys
    pub less : a.turns + total (due d room e asked first most) runs keys ≤ n
    pub idle : Idle a s.core

  abbrev pub Holds : ℕ → Standing → State → Type 0
  Holds n (Working a) s = Ready a s n
  Holds n (Over x) s = turns_of x ≤ n

  -- what comes next finds its ledger
  abbrev NextHolds : State → ℕ → Next → Type 0
  NextHolds s n (Next.Turn a i) = Ready a s n × (a.round ≡ None) × (next_run s.core a.past ≡ Some i)
  NextHolds s n (Next.Collect a) = Ready a s n × (b : Bool) × (a.round ≡ Some b)
  NextHolds s n (Next.Reset a) = Ready a s n × (next_run s.core a.past ≡ None)

  module _ (s : State) (n : ℕ) where
    turn_or_holds : (a : At) (z : Next) (o : Option ℕ) → next_run s.core a.past ≡ o → Ready a s n → a.round ≡ None → (o ≡ None → NextHolds s n z) → NextHolds s n (turn_or a z o)
    turn_or_holds a z None next h round otherwise = otherwise refl
    turn_or_holds a z (Some i) next h round otherwise = (h, round, next)

    -- where no run is past the number, the ledger is one at 0
    unparked_holds : (a : At) → Ready a s n → a.round ≡ None → next_run s.core a.past ≡ None → Ready (unparked a) s n
    unparked_holds a h round none = record {
      runs = h.runs;
      keys = h.keys;
      ledger = ledger_moves d room e asked first most a.past 0 s.core s.core s.rows h.runs h.keys refl refl refl (λ i next. let clash = sym none ∙ next in cc) h.ledger;
      less = h.less;
      idle = λ b is. let clash = sym round ∙ is in cc;
    }

    -- where no run is past the number, the intent collector may go round; and where it stands is no matter
    begun_holds : (a : At) → Ready a s n → next_run s.core a.past ≡ None → Ready (begun a) s n
    begun_holds a h none = record { runs = h.runs; keys = h.keys; ledger = h.ledger; less = h.less; idle = λ b is i r g less live at. none_past s.core a.past i r none live less }

    set_holds : (a : At) (q : RowKey) → Ready a s n → Ready a (set_to q s) n
    set_holds a q h = record { runs = h.runs; keys = h.keys; ledger = ledger_moves d room e asked first most a.past a.past s.core (set_to q s).core s.rows h.runs h.keys refl refl refl (λ i next. next) h.ledger; less = h.less; idle = h.idle }

    next_holds : (a : At) → Ready a s n → NextHolds s n (next_of s.core a)
    next_holds a h = by_round a.round refl
      where
        by_round : (o : Option Bool) → a.round ≡ o → NextHolds s n (goes_round s.core a o)
        by_round (Some b) is = (h, b, is)
        by_round None is = turn_or_holds a (restless s.core a) (next_run s.core a.past) refl h is (λ none.
            either (NextHolds s n) (a.moved && not (is_empty a.waiting)) _ _ (λ t. turn_or_holds (unparked a) (Next.Reset a) (next_run s.core 0) refl (unparked_holds a h is none) is (λ u. (h, none))) (λ t. (h, none)))

    -- it passes over rows
    skip_holds : (w : Next) (b : At) (q : RowKey) → NextHolds s n w → MaySkip s.core s.rows w b q → Ready b (set_to q s) n
    skip_holds (Next.Turn a i) b q h may = absurd may
    skip_holds (Next.Collect a) b q h may = subst (λ z. Ready z (set_to q s) n) (sym may.0) (set_holds a q h.0)
    skip_holds (Next.Reset a) b q h may = subst (λ z. Ready z (set_to q s) n) (sym may.0) (set_holds (begun a) q (begun_holds a h.0 h.1))

  -- ---- what follows of an answer
  module _ (budget : ℕ) (s u : State) (n : ℕ) where
    abbrev failures : ℕ
    failures = (u.faults - s.faults) * (most + 1)

    counted_holds : (a : At) → Ready a u (n + failures) → Holds (n + failures) (go_on budget a) u
    counted_holds a h = either (λ z. Holds (n + failures) z u) (nat_le budget a.turns) _ _ (λ t. let l = h.less in omega (arith, l)) (λ t. h)

    -- unless the event was turned away
    unless_holds : (a : At) (x : EventReply) (z : Standing) → a.turns ≤ n → (is_turned_away x ≡ false → Holds (n + failures) z u) → Holds (n + failures) (unless_away a x z) u
    unless_holds a x z less h = either (λ y. Holds (n + failures) y u) (is_turned_away x) _ _ (λ t. let same = away_turns a.turns x in omega (arith, less, same)) h
      where
        away_turns : (k : ℕ) (x : EventReply) → turns_of (away k x) ≡ k
        away_turns k EventReply.Shut = refl
        away_turns k x = refl

    turn_holds : (a : At) (i : ℕ) (x : EventReply) (h : Ready a s n) → a.round ≡ None
        → (is_turned_away x ≡ false → Pays d room e asked first most (past_after d room e asked first most (is_waiting x) i a.past) h.runs h.keys (turn_of d room e asked first most (is_waiting x)) (u.faults - s.faults) u.core u.rows)
        → Holds (n + failures) (on_turn_reply budget a i x) u
    turn_holds a i x h round pays = unless_holds a x _ (let l = h.less in omega (arith, l)) (λ apart. by_wait (is_waiting x) (pays apart))
      where
        by_wait : (w : Bool) → Pays d room e asked first most (past_after d room e asked first most w i a.past) h.runs h.keys (turn_of d room e asked first most w) (u.faults - s.faults) u.core u.rows → Holds (n + failures) (if w then Working (parked a i x) else counted budget a) u
        by_wait true p = record { runs = p.runs_then; keys = p.keys_then; ledger = p.ledger; less = let l = h.less in let m = p.less in omega (arith, l, m); idle = λ b is. let clash = sym round ∙ is in cc }
        by_wait false p = counted_holds (record a { turns = a.turns + 1; moved = true }) (record { runs = p.runs_then; keys = p.keys_then; ledger = p.ledger; less = let l = h.less in let m = p.less in omega (arith, l, m); idle = λ b is. let clash = sym round ∙ is in cc })

    end_turns : (a : At) (o : Option ℕ) → turns_of (end_of a o) ≡ a.turns
    end_turns a None = refl
    end_turns a (Some i) = refl

    round_holds : (a : At) (x : EventReply) (live : Option ℕ) (runs : List (ℕ × ℕ)) (keys : List RowKey) → a.turns + total (due d room e asked first most) runs keys ≤ n
        → ((i : ℕ) (r : Run) (g : Begun) → a.past < i → map.get u.core.runs i ≡ Some r → r.at ≡ RunAt.Begins g → ⊥)
        → (is_turned_away x ≡ false → Pays d room e asked first most a.past runs keys (if counts x then 1 else 0) (u.faults - s.faults) u.core u.rows)
        → Holds (n + failures) (on_ic_reply budget live a x) u
    round_holds a x live runs keys less idle pays = unless_holds a x _ (omega (arith, less)) (λ apart. by_end (pays apart))
      where
        by_count : (t : Bool) → Pays d room e asked first most a.past runs keys (if t then 1 else 0) (u.faults - s.faults) u.core u.rows → Holds (n + failures) (if t then counted budget (record a { round = Some true }) else Working a) u
        by_count true p = counted_holds (record a { turns = a.turns + 1; moved = true; round = Some true }) (record { runs = p.runs_then; keys = p.keys_then; ledger = p.ledger; less = let m = p.less in omega (arith, less, m); idle = λ b is. idle })
        by_count false p = record { runs = p.runs_then; keys = p.keys_then; ledger = p.ledger; less = let m = p.less in omega (arith, less, m); idle = λ b is. idle }

        by_round : (o : Option Bool) → Pays d room e asked first most a.past runs keys (if counts x then 1 else 0) (u.faults - s.faults) u.core u.rows → Holds (n + failures) (round_over live a o) u
        by_round (Some true) p = record { runs = p.runs_then; keys = p.keys_then; ledger = p.ledger; less = let m = p.less in omega (arith, less, m); idle = λ b is. idle }
        by_round (Some false) p = let same = end_turns a live in omega (arith, less, same)
        by_round None p = let same = end_turns a live in omega (arith, less, same)

        by_end : Pays d room e asked first most a.past runs keys (if counts x then 1 else 0) (u.faults - s.faults) u.core u.rows → Holds (n + failures) (if ends_round x then round_over live a a.round else if counts x then counted budget (record a { round = Some true }) else Working a) u
        by_end p = either (λ z. Holds (n + failures) z u) (ends_round x) _ _ (λ t. by_round a.round p) (λ t. by_count (counts x) p)

  -- ---- an event
  -- the runs past a number that have begun are those from before
  idle_then : (past old new : ℕ) (c b : Core) (m n : Rows) (x : EventReply) → ((i : ℕ) (r : Run) (g : Begun) → past < i → map.get c.runs i ≡ Some r → r.at ≡ RunAt.Begins g → ⊥) → EventOn d room old new Event.Ic c m b n (Ok x)
      → (i : ℕ) (r : Run) (g : Begun) → past < i → map.get b.runs i ≡ Some r → r.at ≡ RunAt.Begins g → ⊥
  idle_then past old new c b m n x idle event i r g less live at =
      (after_event (λ i r. (g : Begun) → past < i → r.at ≡ RunAt.Begins g → ⊥) (λ q t. Unit {0}) d Event.Ic c b (λ i r live g less at. idle i r g less live at) (λ id f g less at. cc) (Ok x) room old new m n (λ q. tt) event).runs i r live g less at

  module _ (turns_pay : TurnsPay d room e asked first most) (rounds_pay : RoundsPay d room e asked first most) (z : Core) (in_the_end : Sound d z e) (asks : AreAsked d e asked) (budget : ℕ) where
    module _ (s u : State) (n : ℕ) (before : Sound d s.core s.rows) (after : Sound d u.core u.rows) (goes : GoesOn u.rows e) (come : ResultsCome u.rows e) (below : u.faults < 2 ^ 64 - 1) (soon : s.core.now ≤ last_moment) where
      next_pays : (w : Next) (x : EventReply) → EventOn d room s.faults u.faults (event_of w) (core_for w s.core) s.rows u.core u.rows (Ok x) → NextHolds s n w → Holds (n + failures budget s u n) (on_reply_of budget u.core w x) u
      next_pays (Next.Turn a i) x event h = turn_holds budget s u n a i x h.0 h.1 (λ apart. turns_pay a.past s.faults u.faults i s.core u.core s.rows u.rows x h.0.runs h.0.keys z before after in_the_end asks goes come below h.2 event apart h.0.ledger)
      next_pays (Next.Collect a) x event h =
          let idle = h.0.idle h.1 h.2 in
          round_holds budget s u n a x (next_run u.core 0) h.0.runs h.0.keys h.0.less (idle_then a.past s.faults u.faults s.core u.core s.rows u.rows x idle event)
          (λ apart. rounds_pay a.past s.faults u.faults s.core u.core s.rows u.rows x h.0.runs h.0.keys z before after in_the_end asks goes below soon (λ i r g next live at. idle i r g (next_is_past s.core a.past i next) live at) event apart h.0.ledger)
      next_pays (Next.Reset a) x event h =
          let c = reset s.core in
          let k = set_holds s n (begun a) least_key (begun_holds s n a h.0 h.1) in
          round_holds budget s u n (begun a) x (next_run u.core 0) k.runs k.keys k.less (idle_then a.past s.faults u.faults c u.core s.rows u.rows x (k.idle false refl) event)
          (λ apart. rounds_pay a.past s.faults u.faults c u.core s.rows u.rows x k.runs k.keys z (at_cursor least_key before) after in_the_end asks goes below soon (λ i r g next live at. k.idle false refl i r g (next_is_past c a.past i next) live at) event apart k.ledger)

      event_pays : (a : At) (y : Standing) → Advances d room budget a s u y → Ready a s n → Holds (n + failures budget s u n) y u
      event_pays a y adv h = subst (λ v. Holds (n + failures budget s u n) v u) (sym adv.next) (next_pays (next_of s.core a) adv.answer adv.event (next_holds s n a h))

    -- ---- all events, to these rows in the end
    abbrev Counts : ℕ → Standing → Type 0
    Counts n (Working a) = Unit {0}
    Counts n (Over x) = turns_of x ≤ n

    counts_more : (n k : ℕ) (y : Standing) → n ≤ k → Counts n y → Counts k y
    counts_more n k (Working a) l h = tt
    counts_more n k (Over x) l h = omega (arith, l, h)

    held : (n : ℕ) (y : Standing) (s : State) → Holds n y s → Counts n y
    held n (Working a) s h = tt
    held n (Over x) s h = h

    shares : (o m n k : ℕ) → o ≤ m → m ≤ n → (m - o) * k + (n - m) * k ≡ (n - o) * k
    shares o m n k l h = sym (add-mul (m - o) (n - m) k) ∙ ap (λ z. z * k) (omega (arith, l, h))

    now_next : (s u : State) (w : Next) (x : EventReply) → EventOn d room s.faults u.faults (event_of w) (core_for w s.core) s.rows u.core u.rows (Ok x) → u.core.now ≡ s.core.now
    now_next s u (Next.Turn a i) x event = turn_now d room s.faults u.faults s.core u.core s.rows u.rows x i event
    now_next s u (Next.Collect a) x event = round_now d room s.faults u.faults s.core u.core s.rows u.rows x event
    now_next s u (Next.Reset a) x event = round_now d room s.faults u.faults (reset s.core) u.core s.rows u.rows x event

    pub counts_few : {y v : Standing} {s t : State} (n : ℕ) → Settles d room budget y s v t → Sound d s.core s.rows → GoesOn t.rows e → ResultsCome t.rows e → t.faults < 2 ^ 64 - 1 → s.core.now ≤ last_moment → Holds n y s → Counts (n + (t.faults - s.faults) * (most + 1)) v
    counts_few n (stands y s) sound goes_e come_e below soon h = counts_more n (n + (s.faults - s.faults) * (most + 1)) y (omega arith) (held n y s h)
    counts_few n (goes a s y u v t adv rest) sound goes_e come_e below soon h =
        let after = sound_on sound adv in
        let on = settling_goes rest in
        let l = adv.later in
        let m = on.1 in
        let now = now_next s u (next_of s.core a) adv.answer adv.event in
        let step = event_pays s u n sound after (goes_then on.0 goes_e) (results_then (settling_brings rest after) come_e) (omega (arith, below, m)) soon a y adv h in
        let last = counts_few (n + (u.faults - s.faults) * (most + 1)) rest after goes_e come_e below (omega (arith, now, soon)) step in
        let all = shares s.faults u.faults t.faults (most + 1) l m in
        counts_more _ _ v (omega (arith, all)) last
    counts_few n (skips a s b q v t may rest) sound goes_e come_e below soon h = counts_few n rest (at_cursor q sound) goes_e come_e below soon (skip_holds s n (next_of s.core a) b q (next_holds s n a h) may)

-- ---- the bound
pub turns_are_few : NoFirstTurnIsOver
    → (d : Deployment) (room budget : ℕ) (s t : State) (x : Settled) (asked : IntentId → List Answer) → Sound d s.core s.rows → s.core.now ≤ last_moment → AreAsked d t.rows asked → IsBelowEnd t.faults
    → Settles d room budget (go_on budget first_at) s (Over x) t → turns_of x ≤ work_of d asked s t
turns_are_few no_first d room budget s t x asked sound soon held_so below chain =
    let first = s.core.last_run in
    let start = ledger_begins d room s t asked runs_stand sound (settling_goes chain).0 held_so in
    let n = total (due d room t.rows asked first start.most) start.runs start.keys in
    let ready : Ready d room t.rows asked first start.most first_at s n = record { runs = start.runs; keys = start.keys; ledger = start.ledger; less = omega arith; idle = λ b is. cc } in
    let holds : Holds d room t.rows asked first start.most n (go_on budget first_at) s = either (λ z. Holds d room t.rows asked first start.most n z s) (nat_le budget 0) _ _ (λ t. omega arith) (λ t. ready) in
    let few = counts_few d room t.rows asked first start.most (turns_paid no_first d room t.rows asked first start.most) (rounds_pay d room t.rows asked first start.most) t.core (sound_then chain sound) held_so budget n chain sound (goes_same t.rows) (results_same t.rows) below soon holds in
    let less = start.less in omega (arith, few, less)
