-- The events of a settling lead on, and its promises follow from them.
use Rattle.std.specs.Prelude.{IfSome}
use Rattle.beldi_session.proofs.Names.{At, Collect, Core, Deployment, Err, Event, EventOn, Working, IfOk, List, Next, None, Ok, Option, Over, Result, Rows, EventReply, Some, Standing, State, Stepped, Stop, TableState, Tells, Turn, ap, on_ic_reply, next_of, next_run, over_any_table, over_rows, refl, reset, subst, sym, tells_map, on_turn_reply, ℕ, ◌∙◌, ◌≡◌}
use Rattle.std.proofs.Common.{◌≤◌}
use Rattle.beldi_check.specs.Keeps.{KeepsRules}
use Rattle.beldi_row.specs.Key.{RowKey}
use Rattle.beldi_step.specs.{HostStep.last_moment, Next.PassesNoOpen, Next.at_key}
use Rattle.beldi_host.specs.Survey.{PassesToldOpen}
use Rattle.beldi_schedule.specs.{Settle.core_for, Settle.event_of, Settle.first_at, Settle.go_on, Settle.on_reply_of, Settles.Advances, Settles.MaySkip, Settles.Settles, Settles.goes, Settles.skips, Settles.stands, declared.machine.Settled.Settled}
use Rattle.beldi_upkeep.specs.{Checked.StartsAreOfIt, Upkeep.Upkeep}
use Rattle.beldi_bound.specs.Ends.{Promises, SettlesAsPromised, Sound}
use Rattle.beldi_book.specs.declared.entry.Entry.{Entry}
use Rattle.beldi_joined.specs.{Joined.behind, Joined.with_joined, JoinedLaws.SettlesAsPromisedAfter}
use Rattle.beldi_session.specs.Settling.{Collected, WasAnswered, KeepsPromises, KeepsPromisesAfter, Led, state_with}

-- ---- one after another
pub tells_then : {P Q R : Rows → Rows → Type 0} (x y z : Option Rows) → ((m n o : Rows) → P m n → Q n o → R m o) → Tells x y P → Tells y z Q → Tells x z R
tells_then {P} {Q} {R} None y z f p q = subst (λ w. Tells w z Q) p q
tells_then (Some m) None z f p q = absurd p
tells_then (Some m) (Some n) None f p q = absurd q
tells_then (Some m) (Some n) (Some o) f p q = f m n o p q

pub tells_with : {P R : Rows → Rows → Type 0} {Q : Rows → Type 0} (x y : Option Rows) → ((m n : Rows) → Q m → P m n → R m n) → IfSome x Q → Tells x y P → Tells x y R
tells_with None y f q p = p
tells_with (Some m) None f q p = p
tells_with (Some m) (Some n) f q p = f m n q p

module _ {d : Deployment} {room budget : ℕ} where
  pub settles_then : {x y z : Standing} {s t u : State} → Settles d room budget x s y t → Settles d room budget y t z u → Settles d room budget x s z u
  settles_then (stands y t) h = h
  settles_then {z = z} {u = u} (goes a s w v y t first rest) h = goes a s w v z u first (settles_then rest h)
  settles_then {z = z} {u = u} (skips a s b q y t may rest) h = skips a s b q z u may (settles_then rest h)

  -- one event
  pub settles_once : {a : At} {z : Standing} {s u : State} → Advances d room budget a s u z → Settles d room budget (Working a) s z u
  settles_once {a} {z} {s} {u} h = goes a s z u z u h (stands z u)

-- ---- one event
abbrev Advanced : Deployment → ℕ → At → Core → Core → TableState → TableState → Standing → Type 0
Advanced d budget at c z old new next = Tells old.rows new.rows (λ m n. Advances d old.room budget at (state_with c old m) (state_with z new n) next)

module _ (d : Deployment) (budget : ℕ) (s : At) (n : Next) (c z : Core) (old new : TableState) (next : Standing) (x : EventReply) where
  abbrev On : Next → Rows → Rows → Type 0
  On w m k = EventOn d old.room old.faults new.faults (event_of w) (core_for w c) m z k (Ok x)

  advances_so : next_of c s ≡ n → Stepped d (event_of n) (core_for n c) z old new (Ok x) → next ≡ on_reply_of budget z n x → Advanced d budget s c z old new next
  advances_so is step follows =
      tells_map {P = On n} {Q = λ m k. Advances d old.room budget s (state_with c old m) (state_with z new k) next} old.rows new.rows
      (λ m k h. record {
        answer = x;
        event = subst (λ w. On w m k) (sym is) h;
        later = (over_any_table d (event_of n) (core_for n c) z old new (Ok x) step).later;
        next = follows ∙ ap (λ w. on_reply_of budget z w x) (sym is);
      }) (over_rows d (event_of n) (core_for n c) z old new (Ok x) step)

module _ (d : Deployment) (budget : ℕ) (s : At) (c z : Core) (old new : TableState) where
  -- a turn of a run
  pub turn_led : (at : At) (i : ℕ) (r : Result Standing Stop) → next_of c s ≡ Turn at i → IfOk r (λ next. WasAnswered d (Event.Turn i) (λ k x. on_turn_reply budget at i x) c z old new next) → IfOk r (λ next. Led d budget (Working s) next c z old new)
  turn_led at i (Ok next) is h =
      tells_map {P = λ m n. Advances d old.room budget s (state_with c old m) (state_with z new n) next} {Q = λ m n. Settles d old.room budget (Working s) (state_with c old m) next (state_with z new n)} old.rows new.rows
      (λ m n. settles_once) (advances_so d budget s (Turn at i) c z old new next h.answer is h.step h.follows_so)
  turn_led at i (Err w) is h = tt

  -- a turn of the intent collector, which was set past some rows
  pub if_collected : (b : At) (k : RowKey) (r : Result Standing Stop) → ((m : Rows) (q : RowKey) → PassesNoOpen m k q → MaySkip c m (next_of c s) b q) → ((q : RowKey) → next_of (at_key q c) b ≡ Collect b)
      → IfOk r (λ next. Collected d budget b (at_key k c) z old new next) → IfOk r (λ next. Led d budget (Working s) next c z old new)
  if_collected b k (Ok next) may is h =
      tells_with {P = λ m n. Advances d old.room budget b (state_with (at_key h.cursor c) old m) (state_with z new n) next} {R = λ m n. Settles d old.room budget (Working s) (state_with c old m) next (state_with z new n)} {Q = λ m. PassesNoOpen m k h.cursor}
      old.rows new.rows (λ m n passes step. skips s (state_with c old m) b h.cursor next (state_with z new n) (may m h.cursor passes) (settles_once step)) h.passes
      (advances_so d budget b (Collect b) (at_key h.cursor c) z old new next h.answered.answer (is h.cursor) h.answered.step h.answered.follows_so)
  if_collected b k (Err w) may is h = tt

-- .. where it was set before all rows first
pub after_reset : (d e : Deployment) (budget : ℕ) (at : At) (c k z : Core) (old mid new : TableState) (r : Result Standing Stop) → e ≡ d → k ≡ reset c → mid ≡ old → IfOk r (λ next. Collected e budget at k z mid new next) → IfOk r (λ next. Collected d budget at (reset c) z old new next)
after_reset d e budget at c k z old mid new r code core table h =
    subst (λ w. IfOk r (λ next. Collected w budget at (reset c) z old new next)) code (subst (λ w. IfOk r (λ next. Collected e budget at w z old new next)) core (subst (λ w. IfOk r (λ next. Collected e budget at k z w new next)) table h))

-- the intent collector was set past some rows, and an event of it answered
pub collected_so : (d e : Deployment) (budget : ℕ) (at : At) (c k z : Core) (old mid new : TableState) (next : Standing) (q : RowKey) (x : EventReply) → e ≡ d → k ≡ at_key q c → mid ≡ old → PassesToldOpen old.rows c.cursor q
    → Stepped e Event.Ic k z mid new (Ok x) → next ≡ on_ic_reply budget (next_run z 0) at x → Collected d budget at c z old new next
collected_so d e budget at c k z old mid new next q x code core table passes step follows = record {
  cursor = q;
  passes = passes;
  answered = record {
    answer = x;
    step = subst (λ w. Stepped w Event.Ic (at_key q c) z old new (Ok x)) code (subst (λ w. Stepped e Event.Ic w z old new (Ok x)) core (subst (λ w. Stepped e Event.Ic k z w new (Ok x)) table step));
    follows_so = follows;
  };
}

module _ (d : Deployment) (budget : ℕ) (y : Standing) (c : Core) (old : TableState) where
  pub led_nowhere : Led d budget y y c c old old
  led_nowhere = by_rows old.rows
    where
      by_rows : (o : Option Rows) → Tells o o (λ p q. Settles d old.room budget y (state_with c old p) y (state_with c old q))
      by_rows None = refl
      by_rows (Some m) = stands y (state_with c old m)

  pub led_on : (a : At) (next : Standing) (b z : Core) (mid new : TableState) (e : Deployment) → e ≡ d → mid.room ≡ old.room → Led d budget y (Working a) c b old mid → Led e budget (Working a) next b z mid new → Led d budget y next c z old new
  led_on a next b z mid new e same room h k =
      tells_then {P = λ m n. Settles d old.room budget y (state_with c old m) (Working a) (state_with b mid n)} {Q = λ m n. Settles e mid.room budget (Working a) (state_with b mid m) next (state_with z new n)} {R = λ m n. Settles d old.room budget y (state_with c old m) next (state_with z new n)}
      old.rows mid.rows new.rows (λ m n o p q. settles_then p (subst (λ w. Settles w old.room budget (Working a) (state_with b mid n) next (state_with z new o)) same (subst (λ w. Settles e w budget (Working a) (state_with b mid n) next (state_with z new o)) room q))) h k

-- ---- what is promised
pub if_sound : (d : Deployment) (c : Core) → KeepsRules d.funcs → StartsAreOfIt d c.book → (told : Option Rows) → IfSome told (Upkeep d c) → IfSome told (λ m. Sound d c m)
if_sound d c rules starts None h = h
if_sound d c rules starts (Some m) h = record { upkeep = h; rules = rules; starts = starts }

pub promised : SettlesAsPromised → (d : Deployment) (budget : ℕ) (c b : Core) (old new : TableState) (x : Settled) → c.now ≤ last_moment → IfSome old.rows (λ m. Sound d c m) → Led d budget (go_on budget first_at) (Over x) c b old new → KeepsPromises d budget c b old new x
promised law d budget c b old new x early sound led = by_rows old.rows new.rows sound led
  where
    by_rows : (p q : Option Rows) → IfSome p (λ m. Sound d c m) → Tells p q (λ m n. Settles d old.room budget (go_on budget first_at) (state_with c old m) (Over x) (state_with b new n)) → Tells p q (λ m n. Promises d budget (state_with c old m) (state_with b new n) x)
    by_rows None q h k = k
    by_rows (Some m) None h k = k
    by_rows (Some m) (Some n) h k = law d old.room budget (state_with c old m) (state_with b new n) x h early k

pub promised_after : SettlesAsPromisedAfter → (base : List Entry) (d : Deployment) (budget : ℕ) (c b : Core) (old new : TableState) (x : Settled) → c.now ≤ last_moment → IfSome old.rows (λ m. Sound d (behind base c) m) → Led d budget (go_on budget first_at) (Over x) c b old new
    → KeepsPromisesAfter base d budget c b old new x
promised_after law base d budget c b old new x early sound led = by_rows old.rows new.rows sound led
  where
    by_rows : (p q : Option Rows) → IfSome p (λ m. Sound d (behind base c) m) → Tells p q (λ m n. Settles d old.room budget (go_on budget first_at) (state_with c old m) (Over x) (state_with b new n))
        → Tells p q (λ m n. Promises d budget (with_joined base (state_with c old m)) (with_joined base (state_with b new n)) x)
    by_rows None q h k = k
    by_rows (Some m) None h k = k
    by_rows (Some m) (Some n) h k = law d base old.room budget (state_with c old m) (state_with b new n) x h early k
