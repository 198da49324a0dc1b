-- A settling of a host behind the book of earlier sessions: it is the same settling, so its promises hold by the joined book.
use Rattle.std.specs.Prelude.{◌≡◌, ◌≤◌, ◌<◌, ◌+◌, ◌-◌, ◌*◌, ◌&&◌, ℕ, max, nat_lt, not, Bool, true, false, is_some, List, [], ◌∷◌, map, Option, Some, None, Ok, if◌then◌else◌, refl}
use Rattle.std.specs.{FinMap.empty_of_len, FinMap.len-empty, Option.option_map, Ordering.nat_cmp}
use Rattle.std.specs.FinMap as finite
use Rattle.std.proofs.Common.{ap, subst, sym, ◌∙◌}
use Rattle.std.proofs.lemmas.Option.{same_Some}
use Rattle.beldi_tree.specs.declared.deployment.Deployment.{Deployment}
use Rattle.beldi_book.specs.{declared.entry.Entry.Entry, LinearOrder.count_changes}
use Rattle.beldi_row.specs.{Key.RowKey, Table.Rows}
use Rattle.beldi_readlog.specs.ReadLog.{log_key}
use Rattle.beldi_step.specs.{HostStep.Core, HostStep.EventOn, HostStep.most_runs, Next.first_past, Next.next_run, Run.place_of, declared.event.EventReply.EventReply, declared.run.Begun.Begun, declared.run.Run.Run, declared.run.RunAt.RunAt, declared.run.RunAt.TheVariants.Begins, declared.run.RunAt.TheVariants.Looks, declared.run.RunAt.TheVariants.Registers, declared.run.Stage.Stage, declared.run.Stage.TheVariants.Decide, declared.run.Stage.TheVariants.Keep}
use Rattle.beldi_schedule.specs.{Settle.by_round, Settle.core_for, Settle.event_of, Settle.on_reply_of, Settle.on_ic_reply, Settle.begun, Settle.is_empty, Settle.next_of, Settle.restless, Settle.on_turn_reply, Settle.turn_or, Settle.turns_of, Settle.unparked, Settles.Advances, Settles.MaySkip, Settles.Settles, Settles.State, Settles.goes, Settles.skips, Settles.stands}
use Rattle.beldi_schedule.specs.declared.machine.{At.At, Next.Next, Next.TheVariants.Collect, Next.TheVariants.Reset, Next.TheVariants.Turn, Settled.Settled, Settled.TheVariants.All, Settled.TheVariants.Spent, Settled.TheVariants.Shut, Settled.TheVariants.Stuck, Settled.TheVariants.Unsettled, Standing.Standing}
use Rattle.beldi_bound.specs.{Cost.cost_at, Ends.HasCause, Ends.IsLate, Ends.IsLeft, Ends.IsUnhindered, Ends.NoneIsLate, Ends.Promises, Ends.SettlesAsPromised, Ends.crowded, Ends.hindered, Ends.is_walk, Ends.left, SettleWork.has_ended, SettleWork.most_of, SettleWork.one_more, SettleWork.open_keys, SettleWork.seat, SettleWork.sum_of, SettleWork.work_by}
use Rattle.beldi_joined.specs.{Joined.behind, Joined.joined, Joined.raised_at, Joined.raised_run, Joined.raised_runs, Joined.raised_reply, Joined.raised_stage, Joined.with_joined, JoinedLaws.SettlesAsPromisedAfter}
use Rattle.beldi_joined.proofs.{RaisedEvents.step_behind, RaisedRuns.entries_raised, RaisedRuns.get_raised, RaisedRuns.len_raised, RaisedRuns.lifted}

-- ---- runs
module _ (n : ℕ) where
  past_lifted : (i : ℕ) (es : List (ℕ × Run)) → first_past i (lifted n es) ≡ first_past i es
  past_lifted i [] = refl
  past_lifted i (e ∷ es) = ap (λ o. if nat_lt i e.0 then Some e.0 else o) (past_lifted i es)

  seats_lifted : (es : List (ℕ × Run)) → map (λ e. seat e.1) (lifted n es) ≡ map (λ e. seat e.1) es
  seats_lifted [] = refl
  seats_lifted (e ∷ es) = ap (λ ks. seat e.1 ∷ ks) (seats_lifted es)

  -- a raised run is one that was raised
  was_raised : (o : Option Run) (r : Run) → option_map (raised_run n) o ≡ Some r → (q : Run) × (o ≡ Some q) × (r ≡ raised_run n q)
  was_raised None r h = cc
  was_raised (Some q) r h = (q, refl, sym (same_Some (raised_run n q) r h))

  same_begun : (g h : Begun) → Begins g ≡ Begins h → g ≡ h
  same_begun g h e = cc

  had_begun : (at : RunAt) (g : Begun) → raised_at n at ≡ Begins g → (b : Begun) × (at ≡ Begins b) × (g ≡ record b { stage = raised_stage n b.stage })
  had_begun Looks g h = cc
  had_begun (Registers b) g h = cc
  had_begun (Begins b) g h = (b, refl, sym (same_begun (record b { stage = raised_stage n b.stage }) g h))

  walks_on : (s : Stage) → is_walk (raised_stage n s) ≡ true → is_walk s ≡ true
  walks_on (Keep v version) h = cc
  walks_on (Decide m) h = cc
  walks_on s h = h

  -- ---- late runs
  module _ (m : Rows) (r q : Run) (is : r ≡ raised_run n q) (l : IsLate m r) where
    begun_so : (b : Begun) × (q.at ≡ Begins b) × (l.begun ≡ record b { stage = raised_stage n b.stage })
    begun_so = had_begun q.at l.begun (ap (λ (z : Run). z.at) (sym is) ∙ l.at)

    as_far : l.begun.machine.steps ≡ begun_so.0.machine.steps
    as_far = ap (λ (g : Begun). g.machine.steps) begun_so.2

    abbrev late_so : IsLate m q
    late_so = record {
      begun = begun_so.0;
      at = begun_so.1;
      walks = walks_on begun_so.0.stage (ap (λ (g : Begun). is_walk g.stage) (sym begun_so.2) ∙ l.walks);
      kept = subst (λ (z : Run). is_some (finite.get m (log_key z.func (place_of z.id begun_so.0.machine.steps))) ≡ true) is
          (subst (λ k. is_some (finite.get m (log_key r.func (place_of r.id k))) ≡ true) as_far l.kept);
    }

module _ (base : List Entry) where
  abbrev more : ℕ
  more = count_changes base

  -- the host as if it had made the whole history
  abbrev after : State → State
  after s = record s { core = behind base s.core }

  -- ---- what comes next
  module _ (c : Core) where
    next_same : (i : ℕ) → next_run (behind base c) i ≡ next_run c i
    next_same i = ap (first_past i) (entries_raised more c.runs) ∙ past_lifted more i (finite.entries c.runs)

    restless_same : (a : At) → restless (behind base c) a ≡ restless c a
    restless_same a = ap (λ o. if a.moved && not (is_empty a.waiting) then turn_or (unparked a) (Reset a) o else Reset a) (next_same 0)

    by_round_same : (a : At) (o : Option Bool) → by_round (behind base c) a o ≡ by_round c a o
    by_round_same a (Some b) = refl
    by_round_same a None = λ j. turn_or a (restless_same a j) (next_same a.past j)

    goes_same : (a : At) → next_of (behind base c) a ≡ next_of c a
    goes_same a = by_round_same a a.round

    core_same : (w : Next) → core_for w (behind base c) ≡ behind base (core_for w c)
    core_same (Turn a i) = refl
    core_same (Collect a) = refl
    core_same (Reset a) = refl

    skip_same : (m : Rows) (w : Next) (b : At) (q : RowKey) → MaySkip c m w b q → MaySkip (behind base c) m w b q
    skip_same m (Turn a i) b q h = h
    skip_same m (Collect a) b q h = h
    skip_same m (Reset a) b q h = h

  -- ---- what follows of an answer
  turn_same : (budget : ℕ) (a : At) (i : ℕ) (x : EventReply) → on_turn_reply budget a i (raised_reply more x) ≡ on_turn_reply budget a i x
  turn_same budget a i (EventReply.Acted e s o r) = refl
  turn_same budget a i x = refl

  ic_same : (budget : ℕ) (live : Option ℕ) (a : At) (x : EventReply) → on_ic_reply budget live a (raised_reply more x) ≡ on_ic_reply budget live a x
  ic_same budget live a (EventReply.Acted e s o r) = refl
  ic_same budget live a x = refl

  on_reply_same : (budget : ℕ) (c : Core) (w : Next) (x : EventReply) → on_reply_of budget (behind base c) w (raised_reply more x) ≡ on_reply_of budget c w x
  on_reply_same budget c (Turn a i) x = turn_same budget a i x
  on_reply_same budget c (Collect a) x = ap (λ o. on_ic_reply budget o a (raised_reply more x)) (next_same c 0) ∙ ic_same budget (next_run c 0) a x
  on_reply_same budget c (Reset a) x = ap (λ o. on_ic_reply budget o (begun a) (raised_reply more x)) (next_same c 0) ∙ ic_same budget (next_run c 0) (begun a) x

  -- ---- the same settling
  module _ (d : Deployment) (room budget : ℕ) where
    advances_behind : (a : At) (s t : State) (z : Standing) → Advances d room budget a s t z → Advances d room budget a (after s) (after t) z
    advances_behind a s t z h =
        let w = next_of s.core a in
        let same = sym (goes_same s.core a) in
        let on = step_behind base d room s.faults t.faults (event_of w) (core_for w s.core) t.core s.rows t.rows (Ok h.answer) h.event in
        record {
          answer = raised_reply more h.answer;
          event = subst (λ v. EventOn d room s.faults t.faults (event_of v) (core_for v (behind base s.core)) s.rows (behind base t.core) t.rows (Ok (raised_reply more h.answer))) same
              (subst (λ (k : Core). EventOn d room s.faults t.faults (event_of w) k s.rows (behind base t.core) t.rows (Ok (raised_reply more h.answer))) (sym (core_same s.core w)) on);
          later = h.later;
          next = h.next ∙ sym (on_reply_same budget t.core w h.answer) ∙ ap (λ v. on_reply_of budget (behind base t.core) v (raised_reply more h.answer)) same;
        }

    settles_behind : {y z : Standing} {s t : State} → Settles d room budget y s z t → Settles d room budget y (after s) z (after t)
    settles_behind (stands z s) = stands z (after s)
    settles_behind (goes a s z u y t first rest) = goes a (after s) z (after u) y (after t) (advances_behind a s u z first) (settles_behind rest)
    settles_behind (skips a s b q y t may rest) =
        skips a (after s) b q y (after t) (subst (λ v. MaySkip (behind base s.core) s.rows v b q) (sym (goes_same s.core a)) (skip_same s.core s.rows (next_of s.core a) b q may)) (settles_behind rest)

  -- ---- what is promised, of the host's own runs
  module _ (c : Core) where
    live_so : (i : ℕ) (r : Run) → finite.get (raised_runs more c.runs) i ≡ Some r → (q : Run) × (finite.get c.runs i ≡ Some q) × (r ≡ raised_run more q)
    live_so i r h = was_raised more (finite.get c.runs i) r (sym (get_raised more c.runs i) ∙ h)

    none_live : raised_runs more c.runs ≡ finite.empty → c.runs ≡ finite.empty
    none_live h = empty_of_len c.runs (sym (len_raised more c.runs) ∙ ap finite.len h ∙ len-empty nat_cmp Run)

    none_late : (m : Rows) → NoneIsLate c m → NoneIsLate (behind base c) m
    none_late m h i r live late = let q = live_so i r live in h i q.0 q.1 (late_so more m r q.0 q.2 late)

    unhindered : (x : Settled) → IsUnhindered c x → IsUnhindered (behind base c) x
    unhindered (All k) h = tt
    unhindered (Unsettled k) h = tt
    unhindered (Spent k) h = h
    unhindered (Shut k) h = h
    unhindered (Stuck k waiting) h = (h.0, subst (λ z. z < most_runs) (sym (len_raised more c.runs)) h.1)

    abbrev here : Core
    here = record c { book = joined base c.book }

    module _ (m : Rows) (waiting : List (ℕ × EventReply)) where
      left_so : IsLeft (behind base c) m waiting → IsLeft here m waiting
      left_so l =
          let q = live_so l.number l.run l.live in
          let far = as_far more m l.run q.0 q.2 l.late in
          record {
            number = l.number;
            run = q.0;
            owner = l.owner;
            live = q.1;
            waits = l.waits;
            late = late_so more m l.run q.0 q.2 l.late;
            unended = subst (λ (z : Run). has_ended (finite.get m (seat z)) ≡ false) q.2 l.unended;
            furthest = λ j r g live own at. subst (λ k. g.machine.steps ≤ k) far
                (l.furthest j (raised_run more r) (record g { stage = raised_stage more g.stage })
                (get_raised more c.runs j ∙ ap (option_map (raised_run more)) live) (own ∙ ap (λ (z : Run). z.id) (sym q.2)) (ap (raised_at more) at));
          }

      cause_so : HasCause (behind base c) m waiting → HasCause here m waiting
      cause_so (hindered w there is) = hindered w there is
      cause_so (crowded full) = crowded (subst (λ k. most_runs ≤ k) (len_raised more c.runs) full)
      cause_so (left l) = left (left_so l)

  work_same : (f : RowKey → ℕ) (s t : State) → work_by f (after s) (after t) ≡ work_by f (with_joined base s) (with_joined base t)
  work_same f s t = ap (λ ks. sum_of (one_more f) ks + sum_of (one_more f) (open_keys s.rows (finite.entries t.rows)) + (t.faults - s.faults) * (max (most_of f ks) (most_of f (open_keys s.rows (finite.entries t.rows))) + 1))
      (ap (map (λ e. seat e.1)) (entries_raised more s.core.runs) ∙ seats_lifted more (finite.entries s.core.runs))

  module _ (d : Deployment) (budget : ℕ) (s t : State) (x : Settled) (p : Promises d budget (after s) (after t) x) where
    promised_so : Promises d budget (with_joined base s) (with_joined base t) x
    promised_so = record {
      few = λ asked are below. subst (λ w. turns_of x ≤ w) (work_same (cost_at d t.rows asked) s t) (p.few asked are below);
      used = p.used;
      shut = p.shut;
      ended = λ n is. let e = p.ended n is in record { runs = none_live t.core e.runs; intents = e.intents; instances = e.instances };
      cause = λ n waiting free is. cause_so t.core t.rows waiting (p.cause n waiting free is);
      completes = λ asked are free none same below still enough.
          p.completes asked are free (none_late s.core s.rows none) same below (unhindered t.core x still) (subst (λ w. w < budget) (sym (work_same (cost_at d t.rows asked) s t)) enough);
    }

pub settles_after : SettlesAsPromised → SettlesAsPromisedAfter
settles_after law d base room budget s t x sound early h = promised_so base d budget s t x (law d room budget (after base s) (after base t) x sound early (settles_behind base d room budget h))
