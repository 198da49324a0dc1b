-- A sweep of a host is one of its collector over rows.
use Rattle.std.proofs.Common.{◌≡◌, ℕ, zero, suc, ◌+◌, ◌%◌, ◌<◌, ◌≤◌, Bool, true, false, List, [], ◌∷◌, length, get_or, slice_set, Some, None, Result, Ok, Err, if◌then◌else◌, lt-ltb, nat_lt, refl, ap, ap₂, sym, ◌∙◌, subst, arith}
use Rattle.std.specs.declared.alloc.AllocError.{AllocError}
use Rattle.beldi_tree.specs.declared.deployment.Deployment.{Deployment}
use Rattle.beldi_row.specs.{Table.Rows, declared.table.TableErr.TableErr}
use Rattle.beldi_prune.specs.{Collectors.collector_at, PruneLaws.IsOutputOf, PruneLaws.rows_turned, PruneLaws.told, PruneLaws.turned, Prune.first_collector, Prune.prune_output, Prune.row_next}
use Rattle.beldi_prune.proofs.PruneOutput.{say_what_they_did}
use Rattle.beldi_prune.specs.declared.{collector.GcOutput.GcOutput, collector.LogCollector.LogCollector}
use Rattle.beldi_sweep.specs.{SweepLaws.begin, Rounds.begun_turns, Rounds.turns_of, SweptRows.AllIsOld, SweptRows.AreAdriftBy, SweptRows.AreLongAdrift, SweptRows.AreSound, SweptRows.AreTidy, SweptRows.AreTrimmed, SweptRows.IsIdle, Sweep.EndsAt, Sweep.GoesTo, Sweep.Sweep, Sweep.after_turn, Sweep.is_last_turn, Sweep.is_round}
use Rattle.beldi_sweep.proofs.{Cells.cells_done, Going.joined, Ending.rounds_end, Going.left, Loop.tidies, Loop.trims, Moments.adrift_by_then, Moments.adrift_by_there, Moments.long_after, Old.idle_goes, Old.idle_later, Old.idle_stays, Ordered.sound_ordered}
use Rattle.beldi_step.specs.{HostStep.Core, HostStep.counted, HostStep.most_events, Prunes.PrunesOnBy, Prunes.output_pruned, declared.event.Pruned.Pruned}
use Rattle.beldi_schedule.specs.Settles.{State}
use Rattle.beldi_bound.specs.Ends.{IsBelowEnd}
use Rattle.beldi_kept.{specs.Safe.IsSafe, proofs.Collecting.prunings_keep_safe}
use Rattle.beldi_tidy.specs.Sweeping.{AllIdle, IsFirst, IsUntroubled, Promises, Rests, Sweeps, SweepsAsPromised, Swept, ThreeSweepsTidy, Turn, Turns, ends_round}
use Rattle.beldi_tidy.proofs.{Ending.idle_end_once, Ending.one_behind, Old.all_old, Sound.rows_sound}

-- ---- the collector that was set
set_there : (cs : List LogCollector) (i : ℕ) (x e : LogCollector) → i < length cs → get_or (slice_set cs i x) i e ≡ x
set_there [] i x e less = absurd (omega (arith, less))
set_there (c ∷ cs) zero x e less = refl
set_there (c ∷ cs) (suc i) x e less = set_there cs i x e (omega (arith, less))

set_length : (cs : List LogCollector) (i : ℕ) (x : LogCollector) → length (slice_set cs i x) ≡ length cs
set_length [] i x = refl
set_length (c ∷ cs) zero x = refl
set_length (c ∷ cs) (suc i) x = ap suc (set_length cs i x)

module _ (d : Deployment) (k : ℕ) where
  abbrev sweep_of : State → Sweep
  sweep_of s = record { collector = collector_at s.core.collectors k; rows = s.rows }

  -- ---- a turn
  -- what it leaves where nothing keeps it from the rows
  record Went (s t : State) (x : Pruned) : Type 0 where
    leads : after_turn s.core.newest d.life s.core.now (sweep_of s) ≡ sweep_of t
    last : is_last_turn d.life s.core.now (sweep_of s) ≡ ends_round x
    newest : t.core.newest ≡ s.core.newest
    now : t.core.now ≡ s.core.now
    shut : t.core.shut ≡ s.core.shut
    taken : t.core.taken ≡ s.core.taken + 1
    eight : length t.core.collectors ≡ length s.core.collectors

  abbrev By : Bool → Bool → State → State → Pruned → Type 0
  By few shut s t x = PrunesOnBy (if few then (if shut then Some Pruned.Shut else None) else Some Pruned.Spent) d s.faults t.faults k (if few then counted s.core else s.core) s.rows t.core t.rows (Ok x)

  -- the table's count never falls
  rises_by : (few shut : Bool) (s t : State) (x : Pruned) → By few shut s t x → s.faults ≤ t.faults
  rises_by true true s t x on = let same = on.3 in omega (arith, same)
  rises_by true false s t x on = on.5.later
  rises_by false shut s t x on = let same = on.3 in omega (arith, same)

  ends : (g : GcOutput) (x : Pruned) → x ≡ output_pruned g → is_round g ≡ ends_round x
  ends GcOutput.Going x is = ap ends_round (sym is)
  ends GcOutput.Marked x is = ap ends_round (sym is)
  ends GcOutput.Skipped x is = ap ends_round (sym is)
  ends GcOutput.Dangled x is = ap ends_round (sym is)
  ends GcOutput.Removed x is = ap ends_round (sym is)
  ends GcOutput.Round x is = ap ends_round (sym is)

  went_by : (s t : State) (x : Pruned) → By true false s t x → t.faults ≡ s.faults → IsBelowEnd t.faults → length s.core.collectors ≡ 8 → Went s t x
  went_by s t x (Ok g, w, on, core, said, cause) same below eight = record {
    leads = λ i. record { collector = (sym on.0 ∙ sym (set_there s.core.collectors (k % 8) w first_collector (omega (arith, eight))) ∙ ap (λ (z : Core). collector_at z.collectors k) (sym core)) i; rows = sym on.1 i };
    last = ap is_round (sym on.2) ∙ ends g x (ok_same x (output_pruned g) (Ok x) (Ok (output_pruned g)) refl refl said);
    newest = ap (λ (z : Core). z.newest) core;
    now = ap (λ (z : Core). z.now) core;
    shut = ap (λ (z : Core). z.shut) core;
    taken = ap (λ (z : Core). z.taken) core;
    eight = ap (λ (z : Core). length z.collectors) core ∙ set_length s.core.collectors (k % 8) w;
  }
    where
      ok_same : (a b : Pruned) (r q : Result Pruned AllocError) → r ≡ Ok a → q ≡ Ok b → r ≡ q → a ≡ b
      ok_same a b r q left right same = cc
  went_by s t x (Err TableErr.OutOfMemory, w, on, core, said, cause) same below eight = cc
  went_by s t x (Err TableErr.Failed, w, on, core, said, cause) same below eight = let rose = cause.failed refl in absurd (omega (arith, rose, same, below))
  went_by s t x (Err (TableErr.Full live most), w, on, core, said, cause) same below eight = absurd on

  went : (s t : State) (x : Pruned) → Turn d k s t x → t.faults ≡ s.faults → IsBelowEnd t.faults → s.core.shut ≡ false → s.core.taken < most_events → length s.core.collectors ≡ 8 → Went s t x
  went s t x on same below serves few eight = went_by s t x (subst (λ b. By b false s t x) (lt-ltb s.core.taken most_events few) (subst (λ b. By (nat_lt s.core.taken most_events) b s t x) serves on)) same below eight

  -- ---- turns
  rise : (n : ℕ) (s t : State) → Turns d k n s t → s.faults ≤ t.faults
  rise zero s t path = let same = ap (λ (z : State). z.faults) path in omega (arith, same)
  rise (suc n) s t (u, x, path, on, going) = let first = rise n s u path in let last = rises_by (nat_lt u.core.taken most_events) u.core.shut u t x on in omega (arith, first, last)

  record WentTo (n : ℕ) (s t : State) : Type 0 where
    path : GoesTo s.core.newest d.life s.core.now n (sweep_of s) (sweep_of t)
    newest : t.core.newest ≡ s.core.newest
    now : t.core.now ≡ s.core.now
    shut : t.core.shut ≡ s.core.shut
    taken : t.core.taken ≡ s.core.taken + n
    eight : length t.core.collectors ≡ length s.core.collectors

  went_to : (n : ℕ) (s t : State) → Turns d k n s t → t.faults ≡ s.faults → IsBelowEnd t.faults → s.core.shut ≡ false → s.core.taken + n ≤ most_events → length s.core.collectors ≡ 8 → WentTo n s t
  went_to zero s t same faults below serves few eight = record {
    path = ap sweep_of same;
    newest = ap (λ (z : State). z.core.newest) same;
    now = ap (λ (z : State). z.core.now) same;
    shut = ap (λ (z : State). z.core.shut) same;
    taken = (let z = ap (λ (z : State). z.core.taken) same in omega (arith, z));
    eight = ap (λ (z : State). length z.core.collectors) same;
  }
  went_to (suc n) s t (u, x, turns, on, going) faults below serves few eight =
      let a = rise n s u turns in
      let b = rises_by (nat_lt u.core.taken most_events) u.core.shut u t x on in
      let h = went_to n s u turns (omega (arith, a, b, faults)) (omega (arith, b, below)) serves (omega (arith, few)) eight in
      let count = h.taken in
      let w = went u t x on (omega (arith, a, b, faults)) below (h.shut ∙ serves) (omega (arith, count, few)) (h.eight ∙ eight) in
      let next : GoesTo s.core.newest d.life s.core.now 1 (sweep_of u) (sweep_of t) = (ap (λ z. is_last_turn d.life z (sweep_of u)) (sym h.now) ∙ w.last ∙ going, sym w.leads ∙ ap₂ (λ a b. after_turn a d.life b (sweep_of u)) h.newest h.now) in
      let more = w.taken in
      let one_more : n + 1 ≡ suc n = omega arith in
      record {
        path = subst (λ z. GoesTo s.core.newest d.life s.core.now z (sweep_of s) (sweep_of t)) one_more (joined s.core.newest d.life s.core.now n 1 (sweep_of s) (sweep_of u) (sweep_of t) h.path next);
        newest = w.newest ∙ h.newest;
        now = w.now ∙ h.now;
        shut = w.shut ∙ h.shut;
        taken = omega (arith, count, more);
        eight = w.eight ∙ h.eight;
      }

  -- ---- where a round ends its collector stands before all rows
  output_round : (g : GcOutput) → is_round g ≡ true → g ≡ GcOutput.Round
  output_round GcOutput.Round e = refl
  output_round GcOutput.Going e = cc
  output_round GcOutput.Marked e = cc
  output_round GcOutput.Skipped e = cc
  output_round GcOutput.Dangled e = cc
  output_round GcOutput.Removed e = cc

  first_after : (newest now : ℕ) (s : Sweep) → is_last_turn d.life now s ≡ true → (after_turn newest d.life now s).collector ≡ first_collector
  first_after newest now s last = by_said (subst (IsOutputOf d.life now s.collector s.rows (rows_turned d.life now s.collector s.rows)) (output_round (prune_output s.collector (told d.life now s.collector s.rows)) last) (say_what_they_did d.life now s.collector s.rows))
    where
      by_said : IsOutputOf d.life now s.collector s.rows (rows_turned d.life now s.collector s.rows) GcOutput.Round → turned newest d.life now s.collector s.rows ≡ first_collector
      by_said (same, before, none) = ap (λ a. turned newest d.life now (record { cursor = s.collector.cursor; at = a }) s.rows) before ∙ ap (row_next newest d.life now s.collector.cursor) none

  -- ---- the host keeps the invariant
  turn_invariant : (s t : State) (x : Pruned) → IsSafe d s.core s.rows → Turn d k s t x → IsSafe d t.core t.rows
  turn_invariant s t x right on = (prunings_keep_safe d s.faults t.faults k s.core t.core s.rows t.rows (Ok x) right on).0

  turns_invariant : (n : ℕ) (s t : State) → IsSafe d s.core s.rows → Turns d k n s t → IsSafe d t.core t.rows
  turns_invariant zero s t right same = subst (λ (z : State). IsSafe d z.core z.rows) (sym same) right
  turns_invariant (suc n) s t right (u, x, path, on, going) = turn_invariant u t x (turns_invariant n s u right path) on

  -- ---- the promises
  module _ (s t : State) (right : IsSafe d s.core s.rows) (eight : length s.core.collectors ≡ 8) where
    first_is : IsFirst k s.core → sweep_of s ≡ begin s.rows
    first_is at = λ i. record { collector = at i; rows = s.rows }

    old : AllIdle d s → AllIsOld s.core.newest d.life s.core.now s.rows
    old idle = all_old d s.core s.rows right.has idle

    sound : AreSound s.rows
    sound = rows_sound d s.core s.rows right.has

    -- one that leads on has taken at most so many turns
    few_by : (n : ℕ) (u : Sweep) → GoesTo s.core.newest d.life s.core.now n (sweep_of s) u → n ≤ begun_turns s.rows (collector_at s.core.collectors k).at + turns_of s.rows
    few_by n u path =
        let soon = rounds_end s.core.newest d.life s.core.now (collector_at s.core.collectors k) s.rows (right.collects k).invariant (sound_ordered s.rows sound) in
        let l = left s.core.newest d.life s.core.now n soon.turns (sweep_of s) u soon.left path soon.ends in
        let all = l.all in
        let few = soon.few in
        omega (arith, all, few)

    -- what is so by the moment and the newest ticket of the first is so by those of the last
    idle_by : (newest now : ℕ) (m : Rows) → IsIdle s.core.newest d.life s.core.now m → newest ≡ s.core.newest → now ≡ s.core.now → IsIdle newest d.life now m
    idle_by newest now m idle a b = subst (λ x. IsIdle x d.life now m) (sym a) (subst (λ x. IsIdle s.core.newest d.life x m) (sym b) idle)

    idle_there : AllIdle d s → (n : ℕ) (u : Sweep) → GoesTo s.core.newest d.life s.core.now n (sweep_of s) u → IsIdle s.core.newest d.life s.core.now u.rows
    idle_there idle n u path = idle_goes s.core.newest d.life s.core.now n (sweep_of s) u path idle

    adrift_by : (n : ℕ) (u : Sweep) → GoesTo s.core.newest d.life s.core.now n (sweep_of s) u → {now : ℕ} → now ≡ s.core.now → AreAdriftBy s.core.now s.rows → AreAdriftBy now u.rows
    adrift_by n u path {now} same by = subst (λ z. AreAdriftBy z u.rows) (sym same) (adrift_by_there s.core.newest d.life s.core.now n (sweep_of s) u path by)

    -- while it goes on
    goes_as_promised : (turns : ℕ) → Turns d k turns s t → IsUntroubled turns s t → Promises d k turns false s t
    goes_as_promised turns path free =
        let events = free.events in
        let h = went_to turns s t path free.faults free.below free.serves (omega (arith, events)) eight in
        record {
          few = few_by turns (sweep_of t) h.path;
          ended = λ e. cc;
          moments = adrift_by turns (sweep_of t) h.path h.now;
          idle = λ idle. idle_by t.core.newest t.core.now t.rows (idle_there idle turns (sweep_of t) h.path) h.newest h.now;
          trims = λ e. cc;
          tidies = λ e. cc;
        }

    -- .. and where it ends
    ends_as_promised : (turns : ℕ) → Sweeps d k turns true s t → IsUntroubled turns s t → Promises d k turns true s t
    ends_as_promised turns (u, path, on) free =
        let events = free.events in
        let a = rise turns s u path in
        let b = rises_by (nat_lt u.core.taken most_events) u.core.shut u t Pruned.Round on in
        let same = free.faults in
        let below = free.below in
        let h = went_to turns s u path (omega (arith, a, b, same)) (omega (arith, b, below)) free.serves (omega (arith, events)) eight in
        let count = h.taken in
        let w = went u t Pruned.Round on (omega (arith, a, b, same)) free.below (h.shut ∙ free.serves) (omega (arith, count, events)) (h.eight ∙ eight) in
        let x = s.core.newest in
        let y = s.core.now in
        let last : is_last_turn d.life y (sweep_of u) ≡ true = ap (λ z. is_last_turn d.life z (sweep_of u)) (sym h.now) ∙ w.last in
        let leads : after_turn x d.life y (sweep_of u) ≡ sweep_of t = sym (ap₂ (λ a b. after_turn a d.life b (sweep_of u)) h.newest h.now) ∙ w.leads in
        let newest : t.core.newest ≡ x = w.newest ∙ h.newest in
        let ends : IsFirst k s.core → EndsAt x d.life y turns (begin s.rows) (sweep_of t) =
        λ at. record { before = sweep_of u; path = subst (λ z. GoesTo x d.life y turns z (sweep_of u)) (first_is at) h.path; last = last; done = sym leads } in
        let idle_then : AllIdle d s → AllIdle d t =
        λ idle. idle_by t.core.newest t.core.now t.rows (subst (λ (z : Sweep). IsIdle x d.life y z.rows) leads (idle_stays x d.life y (sweep_of u).collector u.rows (idle_there idle turns (sweep_of u) h.path))) newest (w.now ∙ h.now) in
        let invariant_then : IsSafe d t.core t.rows = turn_invariant u t Pruned.Round (turns_invariant turns s u right path) on in
        record {
          few = few_by turns (sweep_of u) h.path;
          ended = λ e. sym (ap (λ (z : Sweep). z.collector) leads) ∙ first_after x y (sweep_of u) last;
          moments = λ by. subst (λ z. AreAdriftBy z t.rows) (sym (w.now ∙ h.now)) (subst (λ (z : Sweep). AreAdriftBy y z.rows) leads (adrift_by_then d.life y (sweep_of u).collector u.rows (adrift_by_there x d.life y turns (sweep_of s) (sweep_of u) h.path by)));
          idle = idle_then;
          trims = λ e idle at. subst (λ z. AreTrimmed z t.rows) (sym newest) (trims x d.life y (cells_done x d.life y) turns s.rows (sweep_of t) (old idle) sound (ends at));
          tidies = λ e idle at trimmed long.
              let tidy = subst (λ z. AreTidy z t.rows) (sym newest) (tidies x d.life y (cells_done x d.life y) turns s.rows (sweep_of t) (old idle) sound trimmed long (ends at)) in
              (tidy, one_behind t.core.newest t.rows tidy (idle_end_once d t.core t.rows invariant_then.has (idle_then idle)));
        }

pub sweeps_as_promised : SweepsAsPromised
sweeps_as_promised d k turns false s t right eight path free = goes_as_promised d k s t right eight turns path free
sweeps_as_promised d k turns true s t right eight path free = ends_as_promised d k s t right eight turns path free

-- ---- three sweeps
module _ (d : Deployment) (k : ℕ) where
  swept : (s t : State) (w : Swept d k s t) → Promises d k w.turns true s t
  swept s t w = sweeps_as_promised d k w.turns true s t w.invariant w.eight w.path w.free

  still_idle : (s t : State) → Rests s t → AllIdle d s → AllIdle d t
  still_idle s t rests idle = subst (λ n. IsIdle n d.life t.core.now t.rows) (sym rests.newest) (subst (IsIdle s.core.newest d.life t.core.now) (sym rests.rows) (idle_later s.core.newest d.life s.core.now t.core.now s.rows rests.later idle))

  still_first : (s t : State) → Rests s t → IsFirst k s.core → IsFirst k t.core
  still_first s t rests at = ap (λ cs. collector_at cs k) rests.collectors ∙ at

  still_by : (s t : State) → Rests s t → AreAdriftBy s.core.now s.rows → AreAdriftBy t.core.now t.rows
  still_by s t rests by = subst (AreAdriftBy t.core.now) (sym rests.rows) (λ l x since there at. let early = by l x since there at in let later = rests.later in omega (arith, early, later))

pub three_sweeps_tidy : ThreeSweepsTidy
three_sweeps_tidy d k a b c e f g idle by first one second two late third =
    let p = swept d k a b first in
    let q = swept d k c e second in
    let r = swept d k f g third in
    let rested = still_idle d k b c one (p.idle idle) in
    let trimmed = q.trims refl rested (still_first d k b c one (p.ended refl)) in
    let long = long_after d.life e.core.now f.core.now e.rows late (q.moments (still_by d k b c one (p.moments by))) in
    r.tidies refl (still_idle d k e f two (q.idle rested)) (still_first d k e f two (q.ended refl)) (subst (λ n. AreTrimmed n f.rows) (sym two.newest) (subst (AreTrimmed e.core.newest) (sym two.rows) trimmed)) (subst (AreLongAdrift d.life f.core.now) (sym two.rows) long)
