-- Events and turns of log collectors keep the invariant with the collectors.
use Rattle.std.specs.Prelude.{max, replicate, get_or, slice_set, nat_lt, ◌%◌, Result, Ok, Err, IfOk}
use Rattle.std.specs.declared.alloc.AllocError.{AllocError}
use Rattle.std.proofs.Common.{◌≡◌, ◌⊎◌, inl, inr, ℕ, zero, suc, ◌+◌, ◌≤◌, Bool, true, false, List, [], ◌∷◌, Option, Some, None, if◌then◌else◌, refl, ap, sym, ◌∙◌, subst, arith}
use Rattle.beldi_tree.specs.declared.deployment.Deployment.{Deployment}
use Rattle.beldi_row.specs.{Act.is_adrift, Act.is_old_row, Key.RowKey, Table.Rows, declared.row.Row.Row, declared.table.TableErr.TableErr}
use Rattle.beldi_invariant.proofs.Moves.{with_runs}
use Rattle.beldi_prune.specs.{Collectors.collector_at, Collectors.first_collectors, Collectors.set_collector, Prune.anew, Prune.first_collector, Prune.prune_output}
use Rattle.beldi_prune.specs.PruneLaws.{GoesNow, HasRemoved, HasCollectorInvariant, MayGo, IsOutputOf, TurnedOn, is_behind, rows_turned, told, turned}
use Rattle.beldi_prune.specs.declared.collector.{LogCollector.LogCollector, GcOutput.GcOutput, GcOutput.TheVariants.Going, GcOutput.TheVariants.Marked, GcOutput.TheVariants.Skipped, GcOutput.TheVariants.Dangled, GcOutput.TheVariants.Removed, GcOutput.TheVariants.Round}
use Rattle.beldi_prune.specs.declared.collector.CollectorAt.{CollectorAt, TheVariants.Before, TheVariants.ToDropIntent, TheVariants.ToLook, TheVariants.ToDrop, TheVariants.ToProve, TheVariants.ToMark, TheVariants.ToLead, TheVariants.ToSkip, TheVariants.ToDangle, TheVariants.ToDropCell}
use Rattle.beldi_prune.proofs.{CollectorInvariant.stay_invariant, PruneOutput.say_what_they_did}
use Rattle.beldi_step.specs.{HostStep.Core, HostStep.counted, HostStep.most_events, Prunes.PrunesOn, Prunes.PrunesOnBy, Prunes.bar_of, Prunes.pruned_by, Prunes.output_pruned, Prunes.taken, Prunes.with_collector, declared.event.Pruned.Pruned}
use Rattle.beldi_step.proofs.{StepRuns.either, Shut.collectors_stay}
use Rattle.beldi_txn.specs.Closed.{ClosedArePassed}
use Rattle.beldi_upkeep.specs.Upkeep.{Upkeep}
use Rattle.beldi_kept.specs.{KeptRows.HasKept, KeptRows.IsLater, KeptRows.IsRowOfOld, Safe.Collects, Safe.EventsKeepSafe, Safe.Found, Safe.IsSafe, Safe.MovesCollectors, Safe.OnlyOldRowsGo, Safe.PruningsKeepSafe, Safe.PruningsKeepWhole, Safe.PruningsMoveCollectors, Safe.RemovesOld, Safe.SafeAtCursor, Safe.SafeAtFirst, Safe.changes, Safe.takes}
use Rattle.beldi_kept.proofs.{Declared.later_then, Finds.finds, KeptKeeps.events_keep, KeptKeeps.no_row_comes_back, Passing.LeadOn, Passing.event_leads_on, Passing.found_later, Passing.same_chains_lead_on, KeptTurns.Leaves, KeptTurns.as_it_was, KeptTurns.by_said, KeptTurns.unless_changed}

-- ---- what a collector found is so later
module _ (d : Deployment) (c b : Core) (m n : Rows) (h : HasKept d c m) (g : HasKept d b n) (later : IsLater h g) (on : LeadOn h.kept m n) where
  collects_later : (w : LogCollector) → Collects d c m h w → Collects d b n g w
  collects_later w z = let right = stay_invariant.1 c.newest b.newest w later.ticket z.invariant in record { invariant = right; found = found_later d c b m n h g later on b.newest w right z.found }

same_on : (d : Deployment) (c : Core) (m : Rows) (h : HasKept d c m) → LeadOn h.kept m m
same_on d c m h = same_chains_lead_on h.kept m m (λ x. refl)

-- ---- where the host stands elsewhere, which the rows do not read
abbrev elsewhere : Core → RowKey → ℕ → List LogCollector → Core
elsewhere c k t l = record c { cursor = k; taken = t; collectors = l }

pub upkept : (d : Deployment) (c : Core) (m : Rows) → Upkeep d c m → (k : RowKey) (t : ℕ) (l : List LogCollector) → Upkeep d (elsewhere c k t l) m
upkept d c m u k t l = record { invariant = with_runs u.invariant (elsewhere c k t l) refl refl u.invariant.runs; seats = u.seats; owe = record { each = u.owe.each }; past = u.past; passes = record { each = u.passes.each }; near = record { soon = u.near.soon; near = u.near.near }; started = u.started }

module _ (d : Deployment) (c : Core) (m : Rows) (h : HasKept d c m) (k : RowKey) (t : ℕ) (l : List LogCollector) where
  abbrev moved : HasKept d (elsewhere c k t l) m
  moved = record {
    kept = h.kept;
    upkeep = upkept d c h.kept h.upkeep k t l;
    wanted = record { spares = h.wanted.spares; frees = h.wanted.frees };
    gone = h.gone;
    less = h.less;
    latest = h.latest;
    over = h.over;
    spared = h.spared;
    ahead = h.ahead;
    newest = h.newest;
  }

  moved_later : IsLater h moved
  moved_later = record { moment = omega arith; ticket = omega arith; rows = λ q there. there; finishes = λ q f is. is; gone = λ i off. off; latest = omega arith }

-- ---- collectors by their numbers
same_or_other : (cs : List LogCollector) (i j : ℕ) (x e : LogCollector) → (get_or (slice_set cs i x) j e ≡ x) ⊎ (get_or (slice_set cs i x) j e ≡ get_or cs j e)
same_or_other [] i j x e = inr refl
same_or_other (y ∷ ys) zero zero x e = inl refl
same_or_other (y ∷ ys) zero (suc j) x e = inr refl
same_or_other (y ∷ ys) (suc i) zero x e = inr refl
same_or_other (y ∷ ys) (suc i) (suc j) x e = same_or_other ys i j x e

alike : (n j : ℕ) (x : LogCollector) → get_or (replicate n x) j x ≡ x
alike zero j x = refl
alike (suc n) zero x = refl
alike (suc n) (suc j) x = alike n j x

first_collects : (d : Deployment) (c : Core) (m : Rows) (h : HasKept d c m) → c.collectors ≡ first_collectors → (n : ℕ) → Collects d c m h (collector_at c.collectors n)
first_collects d c m h is n = subst (Collects d c m h) (sym (ap (λ cs. collector_at cs n) is ∙ alike 8 (n % 8) first_collector)) (record { invariant = tt; found = tt })

pub safe_at_first : SafeAtFirst
safe_at_first d c m h is = (record { has = h; collects = first_collects d c m h is }, refl)

-- ---- an event
pub events_keep_safe : ClosedArePassed → EventsKeepSafe
events_keep_safe may_pass d room old new e c b m n x h s = (record { has = g.0; collects = collects (collectors_stay d room old new e c b m n x s) }, g.1, g.2)
  where
    g : (g : HasKept d b n) × IsLater h.has g × (g.latest ≡ h.has.latest)
    g = events_keep may_pass d room old new e c b m n x h.has s

    on : LeadOn h.has.kept m n
    on = event_leads_on d room old new e c b m n x h.has s (no_row_comes_back may_pass d room old new e c b m n x h.has s)

    collects : (b.collectors ≡ c.collectors) ⊎ (b.collectors ≡ first_collectors) → (k : ℕ) → Collects d b n g.0 (collector_at b.collectors k)
    collects (inl same) k = subst (λ cs. Collects d b n g.0 (collector_at cs k)) (sym same) (collects_later d c b m n h.has g.0 g.1 on (collector_at c.collectors k) (h.collects k))
    collects (inr first) k = first_collects d b n g.0 first k

pub safe_at_cursor : SafeAtCursor
safe_at_cursor d c m h k =
    let z : Core = elsewhere c k c.taken c.collectors in
    let g : HasKept d z m = moved d c m h.has k c.taken c.collectors in
    (record { has = g; collects = λ n. collects_later d c z m m h.has g (moved_later d c m h.has k c.taken c.collectors) (same_on d c m h.has) (collector_at c.collectors n) (h.collects n) }, refl)

-- ---- one turn of a collector
-- it leaves these rows, stands so, and says this
record Went (d : Deployment) (c : Core) (m : Rows) (h : HasKept d c m) (x : LogCollector) (n : Rows) (s : GcOutput) : Type 0 where
  leaves : Leaves d c m h n s
  same : changes (output_pruned s) ≡ false → n ≡ m
  found : Found d c n leaves.has x.at

turns : (d : Deployment) (c : Core) (m : Rows) (h : HasKept d c m) (w : LogCollector) → Collects d c m h w → Went d c m h (turned c.newest d.life c.now w m) (rows_turned d.life c.now w m) (prune_output w (told d.life c.now w m))
turns d c m h w has =
    let said = say_what_they_did d.life c.now w m in
    let s = prune_output w (told d.life c.now w m) in
    let leaves = by_said d c m h w.cursor w.at has.invariant has.found s said in
    record { leaves = leaves; same = unless_changed d.life c.now w m (rows_turned d.life c.now w m) s said; found = finds d c m h w has leaves.has leaves.later leaves.on }

-- ---- a turn may be counted, or not
module _ (d : Deployment) (old new k : ℕ) (c b : Core) (m n : Rows) (x : Result Pruned AllocError) where
  pub by_taken : (P : Type 0) → ((t : ℕ) → PrunesOnBy (bar_of c) d old new k (record c { taken = t }) m b n x → P) → PrunesOnBy (bar_of c) d old new k (taken c) m b n x → P
  by_taken P f = either (λ (z : Core). PrunesOnBy (bar_of c) d old new k z m b n x → P) (nat_lt c.taken most_events) (counted c) c (λ few. f (c.taken + 1)) (λ spent. f c.taken)

-- ---- so a turn of one of the host's keeps it
module _ (d : Deployment) (c : Core) (m : Rows) (h : IsSafe d c m) (k : ℕ) where
  abbrev w : LogCollector
  w = collector_at c.collectors k

  abbrev Keeps : Core → Rows → Result Pruned AllocError → Type 0
  Keeps b n x = (g : IsSafe d b n) × IsLater h.has g.has × (g.has.latest ≤ max h.has.latest c.now) × (IfOk x (λ y. changes y ≡ false) → n ≡ m) × (IfOk x (λ y. takes y ≡ false) → g.has.latest ≡ h.has.latest)

  -- what is asked of an answer is asked of what the collector said
  abbrev AsSaid : GcOutput → Result Pruned AllocError → Type 0
  AsSaid s y = (IfOk y (λ z. changes z ≡ false) → changes (output_pruned s) ≡ false) × (IfOk y (λ z. takes z ≡ false) → takes (output_pruned s) ≡ false)

  -- this collector stands so, and any other as before; so many events were taken
  stands : (t : ℕ) (x : LogCollector) (n : Rows) (s : GcOutput) (y : Result Pruned AllocError) → AsSaid s y → Went d c m h.has x n s → HasCollectorInvariant c.newest x → Keeps (record c { taken = t; collectors = set_collector c.collectors k x }) n y
  stands t x n s y said v right = (record { has = g; collects = λ j. by_number j (same_or_other c.collectors (k % 8) (j % 8) x first_collector) }, later_then v.leaves.later on, v.leaves.later.latest, λ none. v.same (said.0 none), λ none. v.leaves.latest (said.1 none))
    where
      l : List LogCollector
      l = set_collector c.collectors k x

      z : Core
      z = elsewhere c c.cursor t l

      g : HasKept d z n
      g = moved d c n v.leaves.has c.cursor t l

      on : IsLater v.leaves.has g
      on = moved_later d c n v.leaves.has c.cursor t l

      by_number : (j : ℕ) → (collector_at l j ≡ x) ⊎ (collector_at l j ≡ collector_at c.collectors j) → Collects d z n g (collector_at l j)
      by_number j (inl is) = subst (Collects d z n g) (sym is) (collects_later d c z n n v.leaves.has g on (same_on d c n v.leaves.has) x (record { invariant = right; found = v.found }))
      by_number j (inr is) = subst (Collects d z n g) (sym is) (collects_later d c z m n h.has g (later_then v.leaves.later on) v.leaves.on (collector_at c.collectors j) (h.collects j))

  module _ (t old new : ℕ) (b : Core) (n : Rows) (x : Result Pruned AllocError) where
    abbrev host : Core
    host = record c { taken = t }

    -- no turn was made
    counts : Keeps host m x
    counts =
        let g : HasKept d host m = moved d c m h.has c.cursor t c.collectors in
        let on = moved_later d c m h.has c.cursor t c.collectors in
        (record { has = g; collects = λ j. collects_later d c host m m h.has g on (same_on d c m h.has) (collector_at c.collectors j) (h.collects j) }, on, omega arith, λ none. refl, λ none. refl)

    -- the rows are as before, and it begins anew
    begins_anew : (y : LogCollector) → y ≡ anew w → n ≡ m → Keeps (with_collector host k y) n x
    begins_anew y is same = subst (λ z. Keeps (with_collector host k z) n x) (sym is) (subst (λ z. Keeps (with_collector host k (anew w)) z x) (sym same)
        (by_anew (stands t (anew w) m Going (Ok Pruned.Going) (λ none. none, λ none. none) (record { leaves = as_it_was d c m h.has m Going refl; same = λ none. refl; found = tt }) tt)))
      where
        by_anew : Keeps (with_collector host k (anew w)) m (Ok Pruned.Going) → Keeps (with_collector host k (anew w)) m x
        by_anew z = (z.0, z.1, z.2, λ none. refl, λ none. z.4 refl)

    by_said_turn : (s : Result GcOutput TableErr) (y : LogCollector) → TurnedOn c.newest d.life c.now w y m n s → x ≡ pruned_by s → Keeps (with_collector host k y) n x
    by_said_turn (Ok s) y turn is =
        let went = turns d c m h.has w (h.collects k) in
        let stood = subst (λ z. Went d c m h.has z n s) (sym turn.0) (subst (λ z. Went d c m h.has (turned c.newest d.life c.now w m) z s) (sym turn.1) (subst (Went d c m h.has (turned c.newest d.life c.now w m) (rows_turned d.life c.now w m)) (sym turn.2) went)) in
        stands t y n s x (λ none. subst (λ z. IfOk z (λ y. changes y ≡ false)) is none, λ none. subst (λ z. IfOk z (λ y. takes y ≡ false)) is none) stood (subst (HasCollectorInvariant c.newest) (sym turn.0) (stay_invariant.2 c.newest d.life c.now w m (h.collects k).invariant))
    by_said_turn (Err TableErr.OutOfMemory) y turn is = begins_anew y turn.0 turn.1
    by_said_turn (Err TableErr.Failed) y turn is = begins_anew y turn.0 turn.1
    by_said_turn (Err (TableErr.Full live room)) y turn is = absurd turn

    by_bar : (o : Option Pruned) → PrunesOnBy o d old new k host m b n x → Keeps b n x
    by_bar (Some y) s = subst (λ z. Keeps z n x) (sym s.0) (subst (λ z. Keeps host z x) (sym s.2) counts)
    by_bar None s = subst (λ z. Keeps z n x) (sym s.3) (by_said_turn s.0 s.1 s.2 s.4)

pub prunings_keep_safe : PruningsKeepSafe
prunings_keep_safe d old new k c b m n x h s = by_taken d old new k c b m n x (Keeps d c m h k b n x) (λ t. by_bar d c m h k t old new b n x (bar_of c)) s

-- ---- what it leaves of the host, and of rows of which none was changed
module _ (d : Deployment) (k : ℕ) (c : Core) (m : Rows) (t old new : ℕ) (b : Core) (n : Rows) (x : Result Pruned AllocError) where
  moves_by : (o : Option Pruned) → PrunesOnBy o d old new k (record c { taken = t }) m b n x → MovesCollectors c b
  moves_by (Some y) s = record { taken = t; collectors = c.collectors; is = s.0 }
  moves_by None s = record { taken = t; collectors = set_collector c.collectors k s.1; is = s.3 }

  said_same : (s : Result GcOutput TableErr) (y : LogCollector) → TurnedOn c.newest d.life c.now (collector_at c.collectors k) y m n s → x ≡ pruned_by s → IfOk x (λ y. changes y ≡ false) → n ≡ m
  said_same (Ok s) y turn is none = let w = collector_at c.collectors k in
      turn.1 ∙ unless_changed d.life c.now w m (rows_turned d.life c.now w m) (prune_output w (told d.life c.now w m)) (say_what_they_did d.life c.now w m)
      (subst (λ z. changes (output_pruned z) ≡ false) turn.2 (subst (λ z. IfOk z (λ y. changes y ≡ false)) is none))
  said_same (Err TableErr.OutOfMemory) y turn is none = turn.1
  said_same (Err TableErr.Failed) y turn is none = turn.1
  said_same (Err (TableErr.Full live room)) y turn is none = absurd turn

  same_by : (o : Option Pruned) → PrunesOnBy o d old new k (record c { taken = t }) m b n x → IfOk x (λ y. changes y ≡ false) → n ≡ m
  same_by (Some y) s none = s.2
  same_by None s none = said_same s.0 s.1 s.2 s.4 none

pub prunings_move : PruningsMoveCollectors
prunings_move d old new k c b m n x = by_taken d old new k c b m n x (MovesCollectors c b) (λ t. moves_by d k c m t old new b n x (bar_of c))

pub prunings_same : (d : Deployment) (old new k : ℕ) (c b : Core) (m n : Rows) (x : Result Pruned AllocError) → PrunesOn d old new k c m b n x → IfOk x (λ y. changes y ≡ false) → n ≡ m
prunings_same d old new k c b m n x = by_taken d old new k c b m n x (IfOk x (λ y. changes y ≡ false) → n ≡ m) (λ t. same_by d k c m t old new b n x (bar_of c))

pub prunings_keep_whole : PruningsKeepWhole
prunings_keep_whole d old new k c b m n x s none u =
    let moves = prunings_move d old new k c b m n x s in
    subst (λ z. Upkeep d z n) (sym moves.is) (subst (Upkeep d (record c { taken = moves.taken; collectors = moves.collectors })) (sym (prunings_same d old new k c b m n x s none)) (upkept d c m u c.cursor moves.taken moves.collectors))

-- what keeps a host from a turn is no removal
no_bar : (c : Core) (y : Pruned) → bar_of c ≡ Some y → ◌≡◌ {A = Result Pruned AllocError} (Ok y) (Ok Pruned.Removed) → ⊥
no_bar c y bar is = by_bars (nat_lt c.taken most_events) c.shut bar is
  where
    by_bars : (t u : Bool) → (if t then (if u then Some Pruned.Shut else None) else Some Pruned.Spent) ≡ Some y → ◌≡◌ {A = Result Pruned AllocError} (Ok y) (Ok Pruned.Removed) → ⊥
    by_bars true true bar is = let same : y ≡ Pruned.Shut = cc in cc
    by_bars true false bar is = cc
    by_bars false u bar is = let same : y ≡ Pruned.Spent = cc in cc

-- ---- what it removed
module _ (d : Deployment) (c : Core) (m n : Rows) (h : HasKept d c m) where
  goes_old : (cursor : RowKey) (a : CollectorAt) (k : RowKey) (r : Row) → Collects d c m h (record { cursor = cursor; at = a }) → GoesNow d.life c.now a k r
      → (MayGo c.newest k.kind × (is_old_row d.life c.now r ≡ true)) ⊎ (((is_behind k.kind ≡ true) × (is_adrift d.life c.now r ≡ true)) ⊎ IsRowOfOld d.life c.now h.gone h.kept k)
  goes_old cursor Before k r w goes = absurd goes
  goes_old cursor (ToDropIntent q) k r w goes = inl (subst (λ (z : RowKey). MayGo c.newest z.kind) goes.0 w.invariant.1, goes.1)
  goes_old cursor (ToLook q) k r w goes = absurd goes
  goes_old cursor (ToDrop q) k r w goes = inr (inr (subst (IsRowOfOld d.life c.now h.gone h.kept) goes w.found))
  goes_old cursor (ToProve q i is) k r w goes = absurd goes
  goes_old cursor (ToMark q) k r w goes = absurd goes
  goes_old cursor (ToLead q to at) k r w goes = absurd goes
  goes_old cursor (ToSkip q to at) k r w goes = absurd goes
  goes_old cursor (ToDangle q) k r w goes = absurd goes
  goes_old cursor (ToDropCell q) k r w goes = inr (inl (subst (λ (z : RowKey). is_behind z.kind ≡ true) goes.0 w.invariant.1, goes.1))

  removed_old : (w : LogCollector) → Collects d c m h w → HasRemoved d.life c.now w m n → RemovesOld d c m n h
  removed_old w found r = record { key = r.key; row = r.row; there = r.there; old = goes_old w.cursor w.at r.key r.row found r.goes; gone = r.gone }

module _ (d : Deployment) (k : ℕ) (c : Core) (m : Rows) (h : IsSafe d c m) (t old new : ℕ) (b : Core) (n : Rows) where
  output_old : (s : Result GcOutput TableErr) (y : LogCollector) → TurnedOn c.newest d.life c.now (collector_at c.collectors k) y m n s → Ok Pruned.Removed ≡ pruned_by s → RemovesOld d c m n h.has
  output_old (Ok Going) y turn is = cc
  output_old (Ok Round) y turn is = cc
  output_old (Ok Marked) y turn is = cc
  output_old (Ok Skipped) y turn is = cc
  output_old (Ok Dangled) y turn is = cc
  output_old (Ok Removed) y turn is =
      let w = collector_at c.collectors k in
      let said = say_what_they_did d.life c.now w m in
      removed_old d c m n h.has w (h.collects k) (subst (HasRemoved d.life c.now w m) (sym turn.1) (subst (IsOutputOf d.life c.now w m (rows_turned d.life c.now w m)) (sym turn.2) said))
  output_old (Err TableErr.OutOfMemory) y turn is = cc
  output_old (Err TableErr.Failed) y turn is = cc
  output_old (Err (TableErr.Full live room)) y turn is = cc

  old_by : (o : Option Pruned) → bar_of c ≡ o → PrunesOnBy o d old new k (record c { taken = t }) m b n (Ok Pruned.Removed) → RemovesOld d c m n h.has
  old_by (Some y) bar s = absurd (no_bar c y bar (sym s.1))
  old_by None bar s = output_old s.0 s.1 s.2 s.4

pub only_old : OnlyOldRowsGo
only_old d old new k c b m n h = by_taken d old new k c b m n (Ok Pruned.Removed) (RemovesOld d c m n h.has) (λ t. old_by d k c m h t old new b n (bar_of c) refl)
