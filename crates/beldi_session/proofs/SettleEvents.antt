-- A settling, event by event.
use Rattle.std.specs.Prelude.{not}
use Rattle.beldi_row.specs.Key.{RowKey}
use Rattle.beldi_step.{proofs.StepRuns.either, specs.Next.PassesNoOpen, specs.Next.at_key}
use Rattle.beldi_host.specs.Survey.{PassesToldOpen}
use Rattle.beldi_schedule.specs.Settle.{by_round, counted, is_empty, restless, turn_or, unparked}
use Rattle.beldi_session.{proofs.SessionCalls.Calm, proofs.SessionCalls.made, proofs.Responses.event_answered, proofs.Responses.event_broke, proofs.Went.broken, proofs.Went.by_one, proofs.Went.fine}
use Rattle.beldi_session.proofs.Names.{Action, AllocError, Answered, At, Bool, BrokeOff, Collect, Core, DoesTo, Err, Event, Working, IfOk, IsErrOf, IsStep, List, Next, None, Ok, OnOk, Option, OutOfMemory, Over, ReplyAlone, Reset, Response, Result, Rows, EventReply, Settle, SettlingLeaves, Sight, SinkFault, Some, Standing, Stepped, Stop, TableState, Observed, WasTaken, WentBack, WentBy, WentOn, [], ap, append-nil, arith, away, begun, counts, ends_round, false, on_ic_reply, if◌then◌else◌, is_turned_away, is_waiting, left_by, most_events, next_of, next_run, parked, refl, reset, response_text, round_over, state_at, subst, sym, told_same, true, on_turn_reply, unless_away, ℕ, ◌&&◌, ◌++◌, ◌+◌, ◌<◌, ◌∙◌, ◌∷◌, ◌≡◌, ◌≤◌}

-- ---- the events that a settling goes on after were taken, one at least
pub taken_by : (c z : Core) (next : Standing) → c.taken < z.taken → z.taken ≤ most_events → WasTaken c z next
taken_by c z (Working s) some few = (some, few)
taken_by c z (Over r) some few = tt

taken_unless_away : (c z : Core) (s : At) (x : EventReply) (next : Standing) → ((x ≡ EventReply.Spent → ⊥) → (c.taken < most_events) × (z.taken ≡ c.taken + 1)) → WasTaken c z (unless_away s x next)
taken_unless_away c z s x next h = (elim (is_turned_away x) as (λ b. is_turned_away x ≡ b → WasTaken c z (if b then Over (away s.turns x) else next)) [
  | true ↦ λ e. tt
  | false ↦ λ e. let once = h (λ same. let clash : false ≡ true = sym e ∙ ap is_turned_away same in cc) in taken_by c z next (omega (arith, once.1)) (omega (arith, once.0, once.1))
]) refl

pub turn_taken : (c z : Core) (budget : ℕ) (s : At) (i : ℕ) (x : EventReply) (next : Standing) → next ≡ on_turn_reply budget s i x → ((x ≡ EventReply.Spent → ⊥) → (c.taken < most_events) × (z.taken ≡ c.taken + 1)) → WasTaken c z next
turn_taken c z budget s i x next is h = subst (WasTaken c z) (sym is) (taken_unless_away c z s x (if is_waiting x then Working (parked s i x) else counted budget s) h)

pub ic_taken : (c z : Core) (budget : ℕ) (s : At) (x : EventReply) (next : Standing) → next ≡ on_ic_reply budget (next_run z 0) s x → ((x ≡ EventReply.Spent → ⊥) → (c.taken < most_events) × (z.taken ≡ c.taken + 1)) → WasTaken c z next
ic_taken c z budget s x next is h = subst (WasTaken c z) (sym is) (taken_unless_away c z s x (if ends_round x then round_over (next_run z 0) s s.round else if counts x then counted budget (record s { round = Some true }) else Working s) h)

-- ---- an event of a settling, and where it goes
module _ (budget : ℕ) (a b : Sight) (held : b.held ≡ a.held) (faults : b.faults ≡ a.faults) (code : b.code ≡ a.code) (e : Event) (s : At) (n : Next) (is : next_of a.core s ≡ n) where
  abbrev Tells : EventReply → Type 0
  Tells x = b.waiting ≡ a.waiting ++ response_text a.code (Answered ReplyAlone e x)

  left_so : (st : Standing) (x : EventReply) (r : Result Standing Stop) → IfOk r (λ next. (next ≡ st) × Tells x) → OnOk r ((left_by budget r ≡ Settle budget st ∷ []) × Tells x)
  left_so st x (Ok next) h = (ap (λ z. Settle budget z ∷ []) h.0, h.1)
  left_so st x (Err w) h = tt

  pub settling_answered : (st : Standing) (x : EventReply) (r : Result Standing Stop) → SettlingLeaves budget b.core n (Answered ReplyAlone e x) (Settle budget st ∷ []) → Stepped a.code e a.core b.core a.table b.table (Ok x)
      → IfOk r (λ next. (next ≡ st) × Tells x) → (IsErrOf r SinkFault → ⊥) → DoesTo (Settle budget (Working s) ∷ []) (left_by budget r) a b r
  settling_answered st x r leaves h goes none =
      event_answered a b held faults code e (Settle budget (Working s)) (left_by budget r) ReplyAlone x (Settle budget st ∷ []) r
      (subst (λ z. SettlingLeaves budget b.core z (Answered ReplyAlone e x) (Settle budget st ∷ [])) (sym is) leaves) h (left_so st x r goes) none

  pub settling_broke : (w : AllocError) (front : List Action) → SettlingLeaves budget b.core n (BrokeOff (Some e)) front → Stepped a.code e a.core b.core a.table b.table (Err w) → DoesTo (Settle budget (Working s) ∷ []) [] a b (broken Standing OutOfMemory)
  settling_broke w front leaves h = event_broke a b held faults code e (Settle budget (Working s)) [] Standing w front (subst (λ z. SettlingLeaves budget b.core z (BrokeOff (Some e)) front) (sym is) leaves) h

-- the intent collector was set before all rows, or past some
module _ (budget : ℕ) (a b : Sight) (held : b.held ≡ a.held) (faults : b.faults ≡ a.faults) (code : b.code ≡ a.code) (table : b.table ≡ a.table) (waiting : b.waiting ≡ a.waiting) (s at : At) where
  pub calm : Calm a b
  calm = record { held = held; faults = faults; code = code; room = ap (λ (t : TableState). t.room) table; later = subst (λ (t : TableState). a.table.faults ≤ t.faults) (sym table) (omega arith) }

  abbrev first : List Action
  first = Settle budget (Working s) ∷ []

  abbrev then_on : List Action
  then_on = Settle budget (Working at) ∷ []

  abbrev Set : Rows → Type 0
  Set m = WentBy a.code a.table.room first then_on (state_at a m) (state_at b m) a.waiting [] b.waiting (fine {X = Unit {0}} tt)

  set_so : (m : Rows) (y : Response) → SettlingLeaves budget b.core (next_of a.core s) y then_on → response_text a.code y ≡ [] → IsStep a.code a.table.room (state_at a m) (state_at b m) y → Set m
  set_so m y leaves silent step = by_one a.code a.table.room (Settle budget (Working s)) then_on then_on y (state_at a m) (state_at b m) a.waiting b.waiting (fine {X = Unit {0}} tt)
      leaves step (refl, waiting ∙ sym (append-nil a.waiting) ∙ ap (λ z. a.waiting ++ z) (sym silent))

  -- with the same table before and after
  all_set : Observed a.table.rows a.table.rows (λ m n. WentBy a.code a.table.room first then_on (state_at a m) (state_at b n) a.waiting [] b.waiting (fine {X = Unit {0}} tt)) → DoesTo first then_on a b (fine {X = Unit {0}} tt)
  all_set t = made first then_on a b (fine {X = Unit {0}} tt) calm (λ e. cc)
      (subst (λ (t : TableState). Observed a.table.rows t.rows (λ m n. WentBy a.code a.table.room first then_on (state_at a m) (state_at b n) a.waiting [] b.waiting (fine {X = Unit {0}} tt))) (sym table) t)

  pub same_state : (c : Core) → b.core ≡ c → (m : Rows) → state_at b m ≡ record (state_at a m) { core = c }
  same_state c core m = λ j. record { core = core j; rows = m; faults = (table j).faults }

  pub went_back : (z : At) → next_of a.core s ≡ Reset z → at ≡ begun z → b.core ≡ reset a.core → DoesTo first then_on a b (fine {X = Unit {0}} tt)
  went_back z is begins core = all_set (told_same (λ m n. WentBy a.code a.table.room first then_on (state_at a m) (state_at b n) a.waiting [] b.waiting (fine {X = Unit {0}} tt)) a.table.rows
      (λ m. set_so m WentBack (subst (λ n. SettlingLeaves budget b.core n WentBack then_on) (sym is) (ap (λ n. Settle budget (Working n) ∷ []) begins)) refl (same_state (reset a.core) core m)))

  pub went_on : (k : RowKey) → next_of a.core s ≡ Collect at → b.core ≡ at_key k a.core → PassesToldOpen a.table.rows a.core.cursor k → DoesTo first then_on a b (fine {X = Unit {0}} tt)
  went_on k is core passes = all_set (told_some a.table.rows passes
      (λ m h. set_so m (WentOn k) (subst (λ n. SettlingLeaves budget b.core n (WentOn k) then_on) (sym is) refl) refl (h, same_state (at_key k a.core) core m)))
    where
      told_some : (o : Option Rows) → PassesToldOpen o a.core.cursor k → ((m : Rows) → PassesNoOpen m a.core.cursor k → Set m) → Observed o o (λ m n. WentBy a.code a.table.room first then_on (state_at a m) (state_at b n) a.waiting [] b.waiting (fine {X = Unit {0}} tt))
      told_some None h f = tt
      told_some (Some m) h f = f m h

-- ---- where the collector is given a turn next
collects_not : (c : Core) (s at : At) (o : Option ℕ) (n : Next) → (n ≡ Collect at → ⊥) → turn_or s n o ≡ Collect at → ⊥
collects_not c s at None n none is = none is
collects_not c s at (Some i) n none is = cc

rests_not : (c : Core) (s at : At) → restless c s ≡ Collect at → ⊥
rests_not c s at = either (λ n. n ≡ Collect at → ⊥) (s.moved && not (is_empty s.waiting)) _ _ (λ t. collects_not c (unparked s) at (next_run c 0) (Reset s) (λ h. cc)) (λ t h. cc)

-- it goes round, and so it does wherever it stands
pub collects_so : (c : Core) (s at : At) (k : RowKey) → next_of c s ≡ Collect at → next_of (at_key k c) at ≡ Collect at
collects_so c s at k = by_round_of s.round refl
  where
    same_at : {x y : At} → Collect x ≡ Collect y → x ≡ y
    same_at h = cc

    by_round_of : (o : Option Bool) → s.round ≡ o → by_round c s o ≡ Collect at → next_of (at_key k c) at ≡ Collect at
    by_round_of None is h = absurd (collects_not c s at (next_run c s.past) (restless c s) (rests_not c s at) h)
    by_round_of (Some b) is h = ap (by_round (at_key k c) at) (ap (λ (z : At). z.round) (sym (same_at h)) ∙ is)

pub begun_collects : (c : Core) (b z : At) → b ≡ begun z → next_of c b ≡ Collect b
begun_collects c b z begins = ap (next_of c) begins ∙ ap Collect (sym begins)
