-- What is so while a settling goes on, event by event, and what is so at its end.
use Rattle.std.specs.FinMap as map
use Rattle.std.specs.FinMap.{get-empty, len-empty}
use Rattle.std.specs.Ordering.{nat_cmp}
use Rattle.std.proofs.Common.{◌≡◌, ◌⊎◌, inl, inr, ℕ, ◌+◌, ◌<◌, ◌≤◌, nat_le, nat_lt, ltb-true, ltb-false, Bool, true, false, not, ◌&&◌, List, [], ◌∷◌, ◌++◌, Option, Some, None, is_some, IsTrue, Ok, if◌then◌else◌, refl, sym, ap, subst, ◌∙◌, arith}
use Rattle.beldi_tree.specs.declared.deployment.Deployment.{Deployment}
use Rattle.beldi_row.specs.{Key.RowKey, Key.least_key, Table.Rows}
use Rattle.beldi_step.proofs.{StepRuns.either, Shut.event_shut}
use Rattle.beldi_step.specs.{HostStep.Core, HostStep.EventOn, HostStep.counted, HostStep.most_runs, HostStep.new_run, HostStep.with_run, Next.next_run, Next.reset, declared.event.Event.Event, declared.event.EventReply.EventReply, declared.run.Run.Run}
use Rattle.beldi_histories.proofs.Cases.{by_cases, by_option}
use Rattle.beldi_schedule.specs.Settle.{away, begun, by_round, core_for, counted as counts_one, end_of, event_of, first_at, go_on, on_reply_of, on_ic_reply, is_empty, is_turned_away, is_waiting, next_of, parked, restless, round_over, on_turn_reply, turn_or, unparked, unless_away}
use Rattle.beldi_schedule.specs.Settles.{MaySkip, Settles, State, goes, skips, stands}
use Rattle.beldi_schedule.specs.declared.machine.{At.At, Next.Next, Standing.Standing}
use Rattle.beldi_bound.specs.Ends.{IsIn, Sound}
use Rattle.beldi_bound.proofs.{Facts.AllWait, Facts.AtEnd, Facts.EachHasRun, Facts.SettlesSo, Facts.WaitsLeaveRows, Facts.WaitsNow, Numbers.IsLeast, Numbers.next_least, Numbers.no_runs, Numbers.put_apart, Parked.Comes, Parked.turn_comes_to, Rounds.HaveRunsTo, Rounds.Went, Rounds.at_end, Rounds.collector_went, Rounds.over_none, Rounds.to_least, Soundly.at_cursor, Soundly.sound_for, Soundly.sound_on}

-- ---- what is so while it goes on
-- a run that is parked, as it was answered; where no turn was counted since it waits still
abbrev pub IsParked : Deployment → Core → Rows → At → ℕ → Type 0
IsParked d c m a i = (x : EventReply) × IsIn (i, x) a.waiting × (a.moved ≡ false → WaitsNow d c m i x)

pub record IsUnderWay (d : Deployment) (c : Core) (m : Rows) (a : At) : Type 0 where
  -- the runs up to a number are parked
  pub past : a.past ≤ c.last_run
  pub parked : (i : ℕ) (r : Run) → map.get c.runs i ≡ Some r → i ≤ a.past → IsParked d c m a i
  -- the collector has passed rows whose intents have runs, and started none since all that live wait
  pub round : a.round ≡ Some false → AllWait d c m a.waiting × HaveRunsTo c.runs m c.cursor

abbrev pub Holds : Deployment → Core → Rows → Standing → Type 0
Holds d c m (Standing.Working a) = IsUnderWay d c m a
Holds d c m (Standing.Over x) = AtEnd d c m x

-- where the collector stands, and how many events were taken, is no matter to who waits
abbrev at_key : Core → RowKey → ℕ → Core
at_key c k t = record c { cursor = k; taken = t }

same_now : (d : Deployment) (c : Core) (m : Rows) (k : RowKey) (t i : ℕ) (x : EventReply) → WaitsNow d c m i x → WaitsNow d (at_key c k t) m i x
same_now d c m k t i x (WaitsNow.hindered y h) = WaitsNow.hindered y h
same_now d c m k t i x (WaitsNow.held r o live h) = WaitsNow.held r o live h
same_now d c m k t i x (WaitsNow.not_yet r j live h u) = WaitsNow.not_yet r j live h u

-- ---- what comes next fits
abbrev Fits : Deployment → Core → Rows → Next → Type 0
Fits d c m (Next.Turn a i) = IsUnderWay d c m a × (a.round ≡ None) × (next_run c a.past ≡ Some i)
Fits d c m (Next.Collect a) = IsUnderWay d c m a × (is_some a.round ≡ true)
Fits d c m (Next.Reset a) = IsUnderWay d c m a × AllWait d c m a.waiting

none_some : {X : Type 0} {x : X} → None ≡ Some x → ⊥
none_some h = cc

-- no number is a live run's past the last one
up_to_past : (c : Core) (k : ℕ) → next_run c k ≡ None → (i : ℕ) (r : Run) → map.get c.runs i ≡ Some r → i ≤ k
up_to_past c k none i r live = by_cases (nat_lt k i)
    (λ t. absurd (none_some (sym (subst (IsLeast c.runs k) none (next_least c k) i (ltb-true k i t)) ∙ live)))
    (λ t. not_past k i t)
  where
    not_past : (k i : ℕ) → nat_lt k i ≡ false → i ≤ k
    not_past k i t = let l = ltb-false k i t in omega (arith, l)

-- where one lives there are some
some_lives : (c : Core) (k i : ℕ) → next_run c k ≡ Some i → c.runs ≡ map.empty → ⊥
some_lives c k i some none = let least = subst (IsLeast c.runs k) some (next_least c k) in clash (sym (ap is_some (ap (λ z. map.get z i) none ∙ get-empty nat_cmp i)) ∙ least.1)
  where
    clash : false ≡ true → ⊥
    clash h = cc

module _ (d : Deployment) (c : Core) (m : Rows) (sound : Sound d c m) where
  numbered : (i : ℕ) (r : Run) → map.get c.runs i ≡ Some r → (1 ≤ i) × (i ≤ c.last_run)
  numbered i r live = sound.upkeep.invariant.runs.numbers i (subst (λ (z : Option Run). IsTrue (is_some z)) (sym live) refl)

  unparked_goes : (a : At) → a.round ≡ None → IsUnderWay d c m (unparked a)
  unparked_goes a none = record {
    past = omega arith;
    parked = λ i r live l. let k = (numbered i r live).0 in absurd (omega (arith, k, l));
    round = λ e. absurd (none_some (sym none ∙ e));
  }

  -- all are parked
  all_wait : (a : At) → IsUnderWay d c m a → next_run c a.past ≡ None → a.moved ≡ false → AllWait d c m a.waiting
  all_wait a g none still i r live = let p = g.parked i r live (up_to_past c a.past none i r live) in (p.0, p.1, p.2 still)

  in_none : (i : ℕ) (x : EventReply) (ws : List (ℕ × EventReply)) → is_empty ws ≡ true → IsIn (i, x) ws → ⊥
  in_none i x [] e h = h
  in_none i x (w ∷ ws) e h = cc

  none_parked : (a : At) → IsUnderWay d c m a → next_run c a.past ≡ None → is_empty a.waiting ≡ true → AllWait d c m a.waiting
  none_parked a g none empty i r live = let p = g.parked i r live (up_to_past c a.past none i r live) in absurd (in_none i p.0 a.waiting empty p.1)

  none_lives : (ws : List (ℕ × EventReply)) → next_run c 0 ≡ None → AllWait d c m ws
  none_lives ws none i r live = let k = (numbered i r live).0 in let l = up_to_past c 0 none i r live in absurd (omega (arith, k, l))

  not_both : (p q : Bool) → (p && not q) ≡ false → (p ≡ false) ⊎ (q ≡ true)
  not_both true true e = inr refl
  not_both true false e = cc
  not_both false q e = inl refl

  fits_restless : (a : At) → IsUnderWay d c m a → a.round ≡ None → next_run c a.past ≡ None → Fits d c m (restless c a)
  fits_restless a g none last = either (Fits d c m) (a.moved && not (is_empty a.waiting)) _ _
      (λ t. again (next_run c 0) refl)
      (λ t. (g, elim (not_both a.moved (is_empty a.waiting) t) [ inl still ↦ all_wait a g last still | inr empty ↦ none_parked a g last empty ]))
    where
      again : (o : Option ℕ) → next_run c 0 ≡ o → Fits d c m (turn_or (unparked a) (Next.Reset a) o)
      again None is = (g, none_lives a.waiting is)
      again (Some i) is = (unparked_goes a none, none, is)

  fits : (a : At) → IsUnderWay d c m a → Fits d c m (next_of c a)
  fits a g = in_round a.round refl
    where
      by_next : (o : Option ℕ) → next_run c a.past ≡ o → a.round ≡ None → Fits d c m (turn_or a (restless c a) o)
      by_next None is none = fits_restless a g none is
      by_next (Some i) is none = (g, none, is)

      in_round : (o : Option Bool) → a.round ≡ o → Fits d c m (by_round c a o)
      in_round (Some b) is = (g, ap is_some is)
      in_round None is = by_next (next_run c a.past) refl is

-- ---- a turn
first_some : {X : Type 0} {P : Type 0} (o : Option X) → is_some o ≡ true → ((x : X) → o ≡ Some x → P) → P
first_some None h f = cc
first_some (Some x) h f = f x refl

in_more : (w : ℕ × EventReply) (xs : List (ℕ × EventReply)) (z : ℕ × EventReply) → IsIn w xs → IsIn w (xs ++ z ∷ [])
in_more w [] z h = absurd h
in_more w (x ∷ xs) z (inl e) = inl e
in_more w (x ∷ xs) z (inr h) = inr (in_more w xs z h)

in_last : (xs : List (ℕ × EventReply)) (z : ℕ × EventReply) → IsIn z (xs ++ z ∷ [])
in_last [] z = inl refl
in_last (x ∷ xs) z = inr (in_last xs z)

-- it goes on, or the budget is used up
goes_on : (d : Deployment) (c : Core) (m : Rows) (budget : ℕ) (a : At) → IsUnderWay d c m a → Holds d c m (go_on budget a)
goes_on d c m budget a g = either (Holds d c m) (nat_le budget a.turns) _ _ (λ t. tt) (λ t. g)

unless_holds : (d : Deployment) (c : Core) (m : Rows) (a : At) (x : EventReply) (z : Standing) → (x ≡ EventReply.Shut → c.shut ≡ true) → (is_turned_away x ≡ false → Holds d c m z) → Holds d c m (unless_away a x z)
unless_holds d c m a x z shut h = either (Holds d c m) (is_turned_away x) _ _ (λ t. by_answer x shut) h
  where
    by_answer : (x : EventReply) → (x ≡ EventReply.Shut → c.shut ≡ true) → AtEnd d c m (away a.turns x)
    by_answer EventReply.Shut shut = shut refl
    by_answer x shut = tt

module _ (d : Deployment) (room old new budget : ℕ) (c b : Core) (m n : Rows) (x : EventReply) (sound : Sound d c m) where
  turn_holds : WaitsLeaveRows → (a : At) (i : ℕ) → IsUnderWay d c m a → a.round ≡ None → next_run c a.past ≡ Some i → EventOn d room old new (Event.Turn i) c m b n (Ok x) → Holds d b n (on_turn_reply budget a i x)
  turn_holds leave a i g none next event =
      let least = subst (IsLeast c.runs a.past) next (next_least c a.past) in
      first_some (map.get c.runs i) least.1 (λ r live. unless_holds d b n a x _ (λ is. event_shut d room old new (Event.Turn i) c b m n (subst (λ y. EventOn d room old new (Event.Turn i) c m b n (Ok y)) is event)) (λ apart.
      let histories = (numbered d c m sound i r live).1 in
      by_answer least r live histories apart (turn_comes_to d c m i r live histories (λ w. leave d c m i r w sound live) room old new b n x event)))
    where
      between : IsLeast c.runs a.past (Some i) → (j : ℕ) (s : Run) → map.get c.runs j ≡ Some s → j ≤ i → (j ≤ a.past) ⊎ (j ≡ i)
      between least j s live l = by_cases (nat_lt a.past j)
          (λ t. by_cases (nat_lt j i) (λ u. absurd (none_some (sym (least.2 j (ltb-true a.past j t) (ltb-true j i u)) ∙ live))) (λ u. let k = ltb-false j i u in inr (omega (arith, k, l))))
          (λ t. let k = ltb-false a.past j t in inl (omega (arith, k)))

      -- it waits
      waits : IsLeast c.runs a.past (Some i) → i ≤ c.last_run → b ≡ counted c → n ≡ m → WaitsNow d c m i x → IsUnderWay d b n (parked a i x)
      waits least histories core rows now = subst (λ z. IsUnderWay d b z (parked a i x)) (sym rows) (subst (λ z. IsUnderWay d z m (parked a i x)) (sym core) (record {
        past = histories;
        parked = λ j s live l. elim (between least j s live l) [
          | inl before ↦ let p = g.parked j s live before in (p.0, in_more (j, p.0) a.waiting (i, x) p.1, λ still. same_now d c m c.cursor (c.taken + 1) j p.0 (p.2 still))
          | inr same ↦ (x, subst (λ k. IsIn (k, x) (a.waiting ++ (i, x) ∷ [])) (sym same) (in_last a.waiting (i, x)), λ still. subst (λ k. WaitsNow d (counted c) m k x) (sym same) (same_now d c m c.cursor (c.taken + 1) i x now))
        ];
        round = λ e. absurd (none_some (sym none ∙ e));
      }))

      -- it goes on
      moves : a.past < i → Comes d c b m n i x → IsUnderWay d b n (record a { turns = a.turns + 1; moved = true })
      moves past k = record {
        past = let l = k.leaves.last in let p = g.past in omega (arith, l, p);
        parked = λ j s live l. let p = g.parked j s (sym (k.leaves.lower j (omega (arith, l, past))) ∙ live) l in (p.0, p.1, λ e. absurd (clash e));
        round = λ e. absurd (none_some (sym none ∙ e));
      }
        where
          clash : true ≡ false → ⊥
          clash h = cc

      by_answer : IsLeast c.runs a.past (Some i) → (r : Run) → map.get c.runs i ≡ Some r → i ≤ c.last_run → is_turned_away x ≡ false → (is_turned_away x ≡ true) ⊎ Comes d c b m n i x → Holds d b n (if is_waiting x then Standing.Working (parked a i x) else counts_one budget a)
      by_answer least r live histories apart (inl e) = let clash = sym e ∙ apart in cc
      by_answer least r live histories apart (inr k) = either (Holds d b n) (is_waiting x) _ _
          (λ t. let w = k.waits t in waits least histories w.0 w.1 w.2)
          (λ t. goes_on d b n budget (record a { turns = a.turns + 1; moved = true }) (moves least.0 k))

-- ---- an event of the intent collector
module _ (d : Deployment) (c : Core) (m : Rows) (sound : Sound d c m) (budget : ℕ) (a : At) (g : IsUnderWay d c m a) (in_round : is_some a.round ≡ true) where
  all_at : (k : RowKey) (t : ℕ) → AllWait d c m a.waiting → AllWait d (at_key c k t) m a.waiting
  all_at k t all i r live = let p = all i r live in (p.0, p.1, same_now d c m k t i p.0 p.2)

  -- nobody goes on
  ends : (k : RowKey) (t : ℕ) → AllWait d c m a.waiting → EachHasRun c m ⊎ (most_runs ≤ map.len c.runs) → Holds d (at_key c k t) m (Standing.Over (end_of a (next_run c 0)))
  ends k t all each = by_live (next_run c 0) refl
    where
      none_left : next_run c 0 ≡ None → c.runs ≡ map.empty
      none_left none = no_runs c.runs (λ i. by_option (map.get c.runs i) (λ e. e) (λ r live. let l = up_to_past c 0 none i r live in let h = (numbered d c m sound i r live).0 in absurd (omega (arith, l, h))))

      not_crowded : c.runs ≡ map.empty → EachHasRun c m ⊎ (most_runs ≤ map.len c.runs) → EachHasRun c m
      not_crowded none (inl h) = h
      not_crowded none (inr h) = let zero = ap map.len none ∙ len-empty nat_cmp Run in absurd (omega (arith, h, zero))

      by_live : (o : Option ℕ) → next_run c 0 ≡ o → Holds d (at_key c k t) m (Standing.Over (end_of a o))
      by_live None none = (none_left none, not_crowded (none_left none) each)
      by_live (Some i) some = (all_at k t all, each, some_lives c 0 i some)

  -- it has gone round, or can start no run
  over : (k : RowKey) (t : ℕ) → (HaveRunsTo c.runs m c.cursor → EachHasRun c m ⊎ (most_runs ≤ map.len c.runs)) → Holds d (at_key c k t) m (round_over (next_run c 0) a a.round)
  over k t each = by_round_at a.round refl
    where
      by_round_at : (o : Option Bool) → a.round ≡ o → Holds d (at_key c k t) m (round_over (next_run c 0) a o)
      by_round_at None is = absurd (clash (sym (ap is_some is) ∙ in_round))
        where
          clash : false ≡ true → ⊥
          clash h = cc
      by_round_at (Some false) is = let all = g.round is in ends k t all.0 (each all.1)
      by_round_at (Some true) is = record {
        past = g.past;
        parked = λ i r live l. let p = g.parked i r live l in (p.0, p.1, λ still. same_now d c m k t i p.0 (p.2 still));
        round = λ e. absurd (none_some e);
      }

  -- it goes on
  goes_at : (k : RowKey) (t : ℕ) → (HaveRunsTo c.runs m c.cursor → HaveRunsTo c.runs m k) → IsUnderWay d (at_key c k t) m a
  goes_at k t to = record {
    past = g.past;
    parked = λ i r live l. let p = g.parked i r live l in (p.0, p.1, λ still. same_now d c m k t i p.0 (p.2 still));
    round = λ e. let all = g.round e in (all_at k t all.0, to all.1);
  }

  -- a turn is counted: it started a run, or the table failed
  more_goes : (z : Core) → c.last_run ≤ z.last_run → ((i : ℕ) → i ≤ c.last_run → map.get z.runs i ≡ map.get c.runs i) → Holds d z m (counts_one budget (record a { round = Some true }))
  more_goes z last same = goes_on d z m budget (record a { turns = a.turns + 1; moved = true; round = Some true }) (record {
    past = let p = g.past in omega (arith, p, last);
    parked = λ i r live l. let p = g.past in let w = g.parked i r (sym (same i (omega (arith, l, p))) ∙ live) l in (w.0, w.1, λ e. absurd (true_false e));
    round = λ e. absurd (some_false e);
  })
    where
      true_false : true ≡ false → ⊥
      true_false h = cc

      some_false : Some true ≡ Some false → ⊥
      some_false h = cc

  launched_same : (z : Core) (r : Run) → z.runs ≡ c.runs → z.last_run ≡ c.last_run → (i : ℕ) → i ≤ c.last_run → map.get (with_run z r).runs i ≡ map.get c.runs i
  launched_same z r runs last i l = put_apart z.runs (z.last_run + 1) (Some r) i (λ e. omega (arith, e, l, last)) ∙ ap (λ w. map.get w i) runs

  pub collected : (b : Core) (x : EventReply) → Went d c b m x → Holds d b m (on_ic_reply budget (next_run b 0) a x)
  collected b x (Went.spent is) = tt
  collected b x (Went.shut is shut) = ap (λ (k : Core). k.shut) is ∙ shut
  collected b x (Went.round is none) = subst (λ z. Holds d z m (round_over (next_run z 0) a a.round)) (sym is) (over least_key (c.taken + 1) (λ h. inl (at_end c m c.cursor none h)))
  collected b x (Went.crowded is full) = subst (λ z. Holds d z m (round_over (next_run z 0) a a.round)) (sym is) (over c.cursor (c.taken + 1) (λ h. inr full))
  collected b x (Went.moved k is to) = subst (λ z. IsUnderWay d z m a) (sym is) (goes_at k (c.taken + 1) to)
  collected b x (Went.more k id f is) = subst (λ z. Holds d z m (counts_one budget (record a { round = Some true }))) (sym is) (let z : Core = record (counted c) { cursor = k } in more_goes (with_run z (new_run d z id f)) (omega arith) (launched_same z (new_run d z id f) refl refl))
  collected b x (Went.dropped is) = subst (λ z. Holds d z m (counts_one budget (record a { round = Some true }))) (sym is) (more_goes (counted c) (omega arith) (λ i l. refl))

-- ---- every event
begun_goes : (d : Deployment) (c : Core) (m : Rows) (a : At) → Sound d c m → IsUnderWay d c m a → AllWait d c m a.waiting → IsUnderWay d (reset c) m (begun a)
begun_goes d c m a sound g all = record {
  past = g.past;
  parked = λ i r live l. let p = g.parked i r live l in (p.0, p.1, λ still. same_now d c m least_key c.taken i p.0 (p.2 still));
  round = λ e. (λ i r live. let p = all i r live in (p.0, p.1, same_now d c m least_key c.taken i p.0 p.2), to_least d c m c.runs sound);
}

module _ (leave : WaitsLeaveRows) (d : Deployment) (room budget : ℕ) where
  came : (old new : ℕ) (c b : Core) (m n : Rows) (x : EventReply) (a : At) → Sound d c m → IsUnderWay d c m a → is_some a.round ≡ true → EventOn d room old new Event.Ic c m b n (Ok x) → Holds d b n (on_ic_reply budget (next_run b 0) a x)
  came old new c b m n x a sound g in_round event =
      let w = collector_went d room old new c b m n x sound event in
      subst (λ z. Holds d b z (on_ic_reply budget (next_run b 0) a x)) (sym w.0) (collected d c m sound budget a g in_round b x w.1)

  comes : (old new : ℕ) (c b : Core) (m n : Rows) (x : EventReply) → Sound d c m → (w : Next) → Fits d c m w → EventOn d room old new (event_of w) (core_for w c) m b n (Ok x) → Holds d b n (on_reply_of budget b w x)
  comes old new c b m n x sound (Next.Turn a i) f event = turn_holds d room old new budget c b m n x sound leave a i f.0 f.1 f.2 event
  comes old new c b m n x sound (Next.Collect a) f event = came old new c b m n x a sound f.0 f.1 event
  comes old new c b m n x sound (Next.Reset a) f event = came old new (reset c) b m n x (begun a) (sound_for (Next.Reset a) sound) (begun_goes d c m a sound f.0 f.1) refl event

  -- where the intent collector passes over rows
  passes : (c : Core) (m : Rows) → Sound d c m → (w : Next) (b : At) (q : RowKey) → Fits d c m w → MaySkip c m w b q → IsUnderWay d (at_key c q c.taken) m b
  passes c m sound (Next.Turn a i) b q f may = absurd may
  passes c m sound (Next.Collect a) b q f may = subst (IsUnderWay d (at_key c q c.taken) m) (sym may.0) (goes_at d c m sound budget a f.0 f.1 q c.taken (over_none c.runs m c.cursor q may.1))
  passes c m sound (Next.Reset a) b q f may = subst (IsUnderWay d (at_key c q c.taken) m) (sym may.0)
      (goes_at d (reset c) m (sound_for (Next.Reset a) sound) budget (begun a) (begun_goes d c m a sound f.0 f.1) refl q c.taken (over_none c.runs m least_key q may.1))

  pub kept : {y v : Standing} {s t : State} → Settles d room budget y s v t → Sound d s.core s.rows → Holds d s.core s.rows y → Holds d t.core t.rows v
  kept (stands y s) sound h = h
  kept (goes a s y u v t adv rest) sound h = kept rest (sound_on sound adv)
      (subst (Holds d u.core u.rows) (sym adv.next) (comes s.faults u.faults s.core u.core s.rows u.rows adv.answer sound (next_of s.core a) (fits d s.core s.rows sound a h) adv.event))
  kept (skips a s b q v t may rest) sound h = kept rest (at_cursor q sound) (passes s.core s.rows sound (next_of s.core a) b q (fits d s.core s.rows sound a h) may)

pub settles_so : WaitsLeaveRows → SettlesSo
settles_so leave d room budget s t x sound chain = kept leave d room budget chain sound (goes_on d s.core s.rows budget first_at (record {
  past = omega arith;
  parked = λ i r live l. let k = (numbered d s.core s.rows sound i r live).0 in absurd (omega (arith, k, l));
  round = λ e. absurd (none_some e);
}))
