-- What a halt leaves, and what a host that is shut answers.
use Rattle.std.specs.declared.alloc.AllocError.{AllocError}
use Rattle.std.specs.FinMap as map
use Rattle.std.proofs.{Math.Bool.and-false, lemmas.Bool.lt-ltb}
use Rattle.std.proofs.Common.{◌≡◌, ◌<◌, ◌+◌, ◌&&◌, not, nat_lt, ℕ, Bool, true, false, List, ◌⊎◌, inl, inr, if◌then◌else◌, Result, Ok, Err, refl, ap, sym, ◌∙◌, subst}
use Rattle.beldi_tree.specs.declared.deployment.Deployment.{Deployment}
use Rattle.beldi_row.{specs.Table.Rose, specs.Table.Rows, specs.Table.TableState, specs.Table.Tells, specs.declared.table.TableErr.TableErr, proofs.Tells.tells_map}
use Rattle.beldi_query.specs.Query.{QueryReply}
use Rattle.beldi_prune.specs.{Collectors.first_collectors, declared.collector.LogCollector.LogCollector}
use Rattle.beldi_step.proofs.{PastDeadline.over_by, Plans.PlanOutput, Plans.fixed, Plans.heard_quiet, Plans.no_memory_quiet, Plans.plan_output, Plans.refused_quiet, Plans.is_of_halt, StepRuns.either, StepRuns.of_plan}
use Rattle.beldi_step.specs.HostStep.{Core, EventBy, EventOn, Followed, HaltCame, HaltOn, Plan, StepBy, asks, immediate, counted, first_core, halt_next, halted, is_halt, most_events, newest_of, open_plan, plan, plan_of, reads_all}
use Rattle.beldi_step.specs.{declared.event.Event.Event, declared.event.EventReply.EventReply, Prunes.CollectorsStay, RunDeadlines.after_step, RunDeadlines.at_first, Shut.HaltsAsOpened, Shut.HaltsEndRuns, Shut.OnlyShutAnswersShut, Shut.ShutAnswersShut, Shut.ShutHasNoRuns, Shut.ShutsAtAFailedHalt, Shut.StaysShut}

abbrev is_shut : Bool × List LogCollector → Bool
is_shut f = f.0

-- the plan of an event that is not the last one
few_plan : (d : Deployment) (e : Event) (c : Core) → c.taken < most_events → plan d e c ≡ open_plan d e (counted c)
few_plan d e c few = ap (λ t. if t then open_plan d e (counted c) else immediate c EventReply.Spent) (lt-ltb c.taken most_events few)

pub answers_shut : ShutAnswersShut
answers_shut d e c b old new r s few shut apart =
    let away : open_plan d e (counted c) ≡ immediate (counted c) EventReply.Shut =
    ap (λ t. if t && not (is_halt e) then immediate (counted c) EventReply.Shut else plan_of d e (counted c)) shut ∙ ap (λ t. if not t then immediate (counted c) EventReply.Shut else plan_of d e (counted c)) apart in
    over_by d e (counted c) (counted c) b EventReply.Shut (λ starts. starts) old new r (subst (λ p. StepBy d e (counted c) p b old new r) (few_plan d e c few ∙ away) s)

module _ (d : Deployment) (e : Event) (c b : Core) where
  heard_apart : (w : Result QueryReply TableErr) (x : EventReply) → Followed d e (counted c) w b (Ok x) → is_of_halt x ≡ false
  heard_apart (Ok t) x is = ap (λ (y : Core × EventReply). is_of_halt y.1) is ∙ (heard_quiet d (counted c) e t).1
  heard_apart (Err v) x is = (refused_quiet d (counted c) e v).1 x (sym (ap (λ (y : Core × Result EventReply AllocError). y.1) is))

  -- an event that was followed leaves what only a halt changes
  followed : (w : Result QueryReply TableErr) (x : Result EventReply AllocError) → Followed d e (counted c) w b x → fixed b ≡ fixed c
  followed (Ok t) (Ok x) is = ap (λ (y : Core × EventReply). fixed y.0) is ∙ (heard_quiet d (counted c) e t).0
  followed (Ok t) (Err w) is = no_memory_quiet d (counted c) e t b is
  followed (Err v) x is = ap (λ (y : Core × Result EventReply AllocError). fixed y.0) is ∙ (refused_quiet d (counted c) e v).0

  halt_apart : (w : Result ℕ TableErr) → (b, Ok EventReply.Shut) ≡ halt_next (counted c) w → ⊥
  halt_apart (Ok t) is = let clash = ap (λ (y : Core × Result EventReply AllocError). y.1) is in cc
  halt_apart (Err TableErr.OutOfMemory) is = let clash = ap (λ (y : Core × Result EventReply AllocError). y.1) is in cc
  halt_apart (Err v) is = let clash = ap (λ (y : Core × Result EventReply AllocError). y.1) is in cc

module _ (d : Deployment) (e : Event) (c b : Core) (old new : TableState) where
  -- ---- only a host that is shut answers so
  abbrev OfShut : Plan → Type 0
  OfShut p = StepBy d e (counted c) p b old new (Ok EventReply.Shut) → (c.shut ≡ true) × (b ≡ counted c) × (new ≡ old)

  open_apart : (p : Plan) → PlanOutput e (counted c) p → OfShut p
  open_apart (immediate z y) h s = let same = ap is_of_halt s.0.1 ∙ h.1 in cc
  open_apart (asks q) h s = let same = heard_apart d e c b s.0 EventReply.Shut s.1 in cc
  open_apart reads_all h s = absurd (halt_apart d e c b s.0 s.1)

  shut_only : OfShut (plan d e c)
  shut_only = of_plan d e c OfShut (λ few. open_apart (plan_of d e (counted c)) (plan_output d e (counted c))) (λ shut s. (shut, s.0.0, s.1)) (λ spent. let same = ap is_of_halt spent.0.1 in cc)

  module _ (r : Result EventReply AllocError) where
    -- ---- what an event makes of it
    record Shuts (w : Result ℕ TableErr) : Type 0 where
      halt : is_halt e ≡ true
      is : (b, r) ≡ halt_next (counted c) w
      came : HaltCame w old new

    data Moves : Type 0 where
      same : fixed b ≡ fixed c → Moves
      halts : (w : Result ℕ TableErr) → Shuts w → Moves

    abbrev OfPlan : Plan → Type 0
    OfPlan p = StepBy d e (counted c) p b old new r → Moves

    local_steps_moves : (z : Core) (y : EventReply) → fixed z ≡ fixed c → OfPlan (immediate z y)
    local_steps_moves z y kept = by_answer r
      where
        by_answer : (x : Result EventReply AllocError) → StepBy d e (counted c) (immediate z y) b old new x → Moves
        by_answer (Ok x) s = same (ap fixed s.0.0 ∙ kept)
        by_answer (Err w) s = same (ap fixed s.0.0)

    open_moves : (p : Plan) → PlanOutput e (counted c) p → OfPlan p
    open_moves (immediate z y) h s = local_steps_moves z y h.0 s
    open_moves (asks q) h s = same (followed d e c b s.0 r s.1)
    open_moves reads_all h s = halts s.0 (record { halt = h; is = s.1; came = s.2 })

    moves : OfPlan (plan d e c)
    moves = of_plan d e c OfPlan (λ few. open_moves (plan_of d e (counted c)) (plan_output d e (counted c))) (λ shut. local_steps_moves (counted c) EventReply.Shut refl) (local_steps_moves c EventReply.Spent refl)

    shuts : c.shut ≡ false → b.shut ≡ true → Moves → (is_halt e ≡ true) × (r ≡ Ok EventReply.Dropped) × Rose old.faults new.faults
    shuts unshut shut (same kept) = let clash = sym shut ∙ ap is_shut kept ∙ unshut in cc
    shuts unshut shut (halts w h) = let k = by_cause w h.is h.came in (h.halt, k.0, k.1)
      where
        by_cause : (w : Result ℕ TableErr) → (b, r) ≡ halt_next (counted c) w → HaltCame w old new → (r ≡ Ok EventReply.Dropped) × Rose old.faults new.faults
        by_cause (Ok t) is came = let clash = sym shut ∙ ap (λ (y : Core × Result EventReply AllocError). y.0.shut) is in cc
        by_cause (Err TableErr.OutOfMemory) is came = let clash = sym shut ∙ ap (λ (y : Core × Result EventReply AllocError). y.0.shut) is ∙ unshut in cc
        by_cause (Err TableErr.Failed) is came = (ap (λ (y : Core × Result EventReply AllocError). y.1) is, came.cause.failed refl)
        by_cause (Err (TableErr.Full live room)) is came = absurd came.fits

    opens : c.shut ≡ true → b.shut ≡ false → Moves → (is_halt e ≡ true) × (r ≡ Ok EventReply.Halted)
    opens shut unshut (same kept) = let clash = sym unshut ∙ ap is_shut kept ∙ shut in cc
    opens shut unshut (halts w h) = (h.halt, by_cause w h.is)
      where
        by_cause : (w : Result ℕ TableErr) → (b, r) ≡ halt_next (counted c) w → r ≡ Ok EventReply.Halted
        by_cause (Ok t) is = ap (λ (y : Core × Result EventReply AllocError). y.1) is
        by_cause (Err TableErr.OutOfMemory) is = let clash = sym unshut ∙ ap (λ (y : Core × Result EventReply AllocError). y.0.shut) is ∙ shut in cc
        by_cause (Err v) is = let clash = sym unshut ∙ ap (λ (y : Core × Result EventReply AllocError). y.0.shut) is in cc

    -- ---- the live runs
    halt_runs : (w : Result ℕ TableErr) → (halt_next (counted c) w).0.runs ≡ map.empty
    halt_runs (Ok t) = refl
    halt_runs (Err TableErr.OutOfMemory) = refl
    halt_runs (Err v) = refl

    abbrev Ends : Plan → Type 0
    Ends p = StepBy d e (counted c) p b old new r → b.runs ≡ map.empty

    reads_end : Ends reads_all
    reads_end s = ap (λ (y : Core × Result EventReply AllocError). y.0.runs) s.1 ∙ halt_runs s.0

    halt_plan : (e : Event) → is_halt e ≡ true → plan_of d e (counted c) ≡ reads_all
    halt_plan Event.Halt h = refl
    halt_plan e h = cc

    local_steps_ends : (z : Core) (y : EventReply) → c.runs ≡ map.empty → z.runs ≡ c.runs → Ends (immediate z y)
    local_steps_ends z y none kept = by_answer r
      where
        by_answer : (x : Result EventReply AllocError) → StepBy d e (counted c) (immediate z y) b old new x → b.runs ≡ map.empty
        by_answer (Ok x) s = ap (λ (k : Core). k.runs) s.0.0 ∙ kept ∙ none
        by_answer (Err w) s = ap (λ (k : Core). k.runs) s.0.0 ∙ none

    pub halt_ends : is_halt e ≡ true → c.taken < most_events → StepBy d e (counted c) (plan d e c) b old new r → b.runs ≡ map.empty
    halt_ends halt few s = reads_end (subst (λ p. StepBy d e (counted c) p b old new r)
        (few_plan d e c few ∙ ap (λ t. if t then immediate (counted c) EventReply.Shut else plan_of d e (counted c)) (ap (λ t. c.shut && not t) halt ∙ and-false c.shut) ∙ halt_plan e halt) s)

    -- one that is shut has none after an event, where it had none before
    idles : c.shut ≡ true → c.runs ≡ map.empty → Ends (plan d e c)
    idles shut none = either Ends (nat_lt c.taken most_events) _ _
        (λ few. either Ends (c.shut && not (is_halt e)) _ _ (λ t. local_steps_ends (counted c) EventReply.Shut none refl)
        (λ t. subst Ends (sym (halt_plan e (not_not (is_halt e) (sym (ap (λ a. a && not (is_halt e)) shut) ∙ t)))) reads_end))
        (λ spent. local_steps_ends c EventReply.Spent none refl)
      where
        not_not : (t : Bool) → not t ≡ false → t ≡ true
        not_not true h = refl
        not_not false h = cc

    pub shut_ends : b.shut ≡ true → (c.shut ≡ true → c.runs ≡ map.empty) → StepBy d e (counted c) (plan d e c) b old new r → b.runs ≡ map.empty
    shut_ends shut none s = (elim (moves s) [
      | same kept ↦ let before = sym (ap is_shut kept) ∙ shut in idles before (none before) s
      | halts w h ↦ ap (λ (y : Core × Result EventReply AllocError). y.0.runs) h.is ∙ halt_runs w
    ])

  -- ---- a halt is answered as halted
  abbrev AsOpened : Rows → Rows → Type 0
  AsOpened m n = (n ≡ m) × (b ≡ record (first_core (newest_of m) c.now) { book = c.book; last_run = c.last_run; taken = c.taken + 1 })

  abbrev Opens : Plan → Type 0
  Opens p = StepBy d e (counted c) p b old new (Ok EventReply.Halted) → Tells old.rows new.rows AsOpened

  halted_by : (w : Result ℕ TableErr) → (b, Ok EventReply.Halted) ≡ halt_next (counted c) w → HaltCame w old new → Tells old.rows new.rows AsOpened
  halted_by (Ok t) is came =
      tells_map {P = λ m n. HaltOn (Ok t) m n} {Q = AsOpened} old.rows new.rows (λ m n h. (h.0, ap (λ (y : Core × Result EventReply AllocError). y.0) is ∙ ap (λ k. halted k false (counted c)) h.1)) came.rows
  halted_by (Err TableErr.OutOfMemory) is came = let clash = ap (λ (y : Core × Result EventReply AllocError). y.1) is in cc
  halted_by (Err v) is came = let clash = ap (λ (y : Core × Result EventReply AllocError). y.1) is in cc

  open_opens : (p : Plan) → PlanOutput e (counted c) p → Opens p
  open_opens (immediate z y) h s = let same = ap is_of_halt s.0.1 ∙ h.1 in cc
  open_opens (asks q) h s = let same = heard_apart d e c b s.0 EventReply.Halted s.1 in cc
  open_opens reads_all h s = halted_by s.0 s.1 s.2

  opened : Opens (plan d e c)
  opened = of_plan d e c Opens (λ few. open_opens (plan_of d e (counted c)) (plan_output d e (counted c))) (λ shut s. let clash = s.0.1 in cc) (λ s. let clash = s.0.1 in cc)

pub only_shut : OnlyShutAnswersShut
only_shut d e c b old new s = shut_only d e c b old new s

pub shuts_at_halt : ShutsAtAFailedHalt
shuts_at_halt d e c b old new r s unshut shut = shuts d e c b old new r unshut shut (moves d e c b old new r s)

pub stays_shut : StaysShut
stays_shut d e c b old new r s shut unshut = opens d e c b old new r shut unshut (moves d e c b old new r s)

-- over rows that are told as well
module _ (d : Deployment) (room old new : ℕ) (e : Event) (c b : Core) (m n : Rows) where
  abbrev OnShut : Plan → Type 0
  OnShut p = EventBy d room old new e (counted c) p m b n (Ok EventReply.Shut) → b.shut ≡ true

  plan_shut : (p : Plan) → PlanOutput e (counted c) p → OnShut p
  plan_shut (immediate z y) h s = let same = ap is_of_halt s.0.1 ∙ h.1 in cc
  plan_shut (asks q) h s = let same = heard_apart d e c b s.0 EventReply.Shut s.1 in cc
  plan_shut reads_all h s = absurd (halt_apart d e c b s.0 s.1)

  pub event_shut : EventOn d room old new e c m b n (Ok EventReply.Shut) → b.shut ≡ true
  event_shut = of_plan d e c OnShut (λ few. plan_shut (plan_of d e (counted c)) (plan_output d e (counted c))) (λ shut s. ap (λ (k : Core). k.shut) s.0.0 ∙ shut) (λ s. let clash = s.0.1 in cc)

pub halts_end : HaltsEndRuns
halts_end d c b old new r s few = halt_ends d Event.Halt c b old new r refl few s

pub no_runs : ShutHasNoRuns
no_runs d c (at_first newest now b is) shut = let clash = sym shut ∙ ap (λ (k : Core). k.shut) is in cc
no_runs d c (after_step e a b old new x before s) shut = shut_ends d e a b old new x shut (no_runs d a before) s

pub as_opened : HaltsAsOpened
as_opened d e c b old new s = opened d e c b old new s

-- ---- the log collectors
collectors_begin : (c : Core) (w : Result ℕ TableErr) → (halt_next c w).0.collectors ≡ first_collectors
collectors_begin c (Ok t) = refl
collectors_begin c (Err TableErr.OutOfMemory) = refl
collectors_begin c (Err v) = refl

module _ (d : Deployment) (room old new : ℕ) (e : Event) (c b : Core) (m n : Rows) (r : Result EventReply AllocError) where
  abbrev Stay : Type 0
  Stay = (b.collectors ≡ c.collectors) ⊎ (b.collectors ≡ first_collectors)

  abbrev OnPlan : Plan → Type 0
  OnPlan p = EventBy d room old new e (counted c) p m b n r → Stay

  by_fixed : fixed b ≡ fixed c → Stay
  by_fixed kept = inl (ap (λ (f : Bool × List LogCollector). f.1) kept)

  local_steps_stay : (z : Core) (y : EventReply) → fixed z ≡ fixed c → OnPlan (immediate z y)
  local_steps_stay z y kept = by_answer r
    where
      by_answer : (x : Result EventReply AllocError) → EventBy d room old new e (counted c) (immediate z y) m b n x → Stay
      by_answer (Ok x) s = by_fixed (ap fixed s.0.0 ∙ kept)
      by_answer (Err w) s = by_fixed (ap fixed s.0.0)

  plan_stay : (p : Plan) → PlanOutput e (counted c) p → OnPlan p
  plan_stay (immediate z y) h s = local_steps_stay z y h.0 s
  plan_stay (asks q) h s = by_fixed (followed d e c b s.0 r s.1)
  plan_stay reads_all h s = inr (ap (λ (y : Core × Result EventReply AllocError). y.0.collectors) s.1 ∙ collectors_begin (counted c) s.0)

  stay : OnPlan (plan d e c)
  stay = of_plan d e c OnPlan (λ few. plan_stay (plan_of d e (counted c)) (plan_output d e (counted c))) (λ shut. local_steps_stay (counted c) EventReply.Shut refl) (local_steps_stay c EventReply.Spent refl)

pub collectors_stay : CollectorsStay
collectors_stay d room old new e c b m n r s = stay d room old new e c b m n r s
