-- The responses of the host, and their text.
use Rattle.beldi_session.proofs.Names.{Action, AllocError, Answered, BrokeOff, Does, DoesTo, Err, Event, EventOn, IfOk, IsCount, IsErrOf, IsReport, Leaves, List, None, Ok, OnOk, OpenErr, Option, OutOfMemory, PruneAnswered, PruneBroke, Pruned, Prunes, PrunesOn, Reads, Report, Reported, Result, Rows, EventReply, Share, Sight, SinkFault, Some, Stepped, Stop, Tells, Observed, WentBy, [], ap, append_assoc, by_text, over_any_table, over_rows, refl, report_text, response_text, row_count, state_at, tables_head, tells_map, told_map, unread_line, ℕ, ◌++◌, ◌∙◌, ◌∷◌, ◌≡◌}
use Rattle.beldi_step.proofs.Prunes.{over_any_table as prune_over_any_table, over_rows as prune_over_rows}
use Rattle.beldi_session.proofs.{Went.broken, Went.by_one, SessionCalls.Calm, SessionCalls.made}

-- what a table tells is told
pub told_tells : (rows rows' : Option Rows) (P : Rows → Rows → Type 0) → Tells rows rows' P → Observed rows rows' P
told_tells None rows' P h = tt
told_tells (Some m) None P h = h
told_tells (Some m) (Some n) P h = h

abbrev OverRows : Sight → Sight → (Rows → Rows → Type 0) → Type 0
OverRows a b P = Tells a.table.rows b.table.rows P

abbrev EventFrom : Sight → Sight → Event → Result EventReply AllocError → Rows → Rows → Type 0
EventFrom a b e x m n = EventOn a.code a.table.room a.table.faults b.table.faults e a.core m b.core n x

abbrev no_actions : List Action
no_actions = []

-- nothing is left to do
pub text_by : (wrote : Result (Unit {0}) AllocError) (P : Type 0) → OnOk wrote P → OnOk (by_text wrote) ((no_actions ≡ []) × P)
text_by (Ok u) P h = (refl, h)
text_by (Err w) P h = tt

pub no_fault : (wrote : Result (Unit {0}) AllocError) → IsErrOf (by_text wrote) SinkFault → ⊥
no_fault (Ok u) h = cc
no_fault (Err w) h = cc

module _ {X : Type 0} (a b : Sight) (calm : Calm a b) (r : Result X Stop) where
  over : (act : Action) (left : List Action) (P : Rows → Rows → Type 0) → ((m n : Rows) → P m n → WentBy a.code a.table.room (act ∷ []) left (state_at a m) (state_at b n) a.waiting [] b.waiting r) → (IsErrOf r SinkFault → ⊥) → OverRows a b P → DoesTo (act ∷ []) left a b r
  over act left P f none t = made (act ∷ []) left a b r calm none (told_map {P = P} {Q = λ m n. WentBy a.code a.table.room (act ∷ []) left (state_at a m) (state_at b n) a.waiting [] b.waiting r} a.table.rows b.table.rows f (told_tells a.table.rows b.table.rows P t))

-- a report
module _ (a b : Sight) (calm : Calm a b) where
  -- a report was made of the rows, which are as they were
  pub reported : b.core ≡ a.core → (y : Rows → Report) (act : Action) (wrote : Result (Unit {0}) AllocError) → ((m : Rows) → Leaves act a.core b.core (Reported (y m)) [])
      → OverRows a b (λ m n. (n ≡ m) × (OnOk wrote (b.waiting ≡ a.waiting ++ report_text a.code (y m)) × IsReport a.code (state_at a m) (state_at b n) (y m))) → Does (act ∷ []) a b (by_text wrote)
  reported core y act wrote is t =
      over a b calm (by_text wrote) act [] (λ m n. (n ≡ m) × (OnOk wrote (b.waiting ≡ a.waiting ++ report_text a.code (y m)) × IsReport a.code (state_at a m) (state_at b n) (y m)))
      (λ m n o. by_one a.code a.table.room act [] [] (Reported (y m)) (state_at a m) (state_at b n) a.waiting b.waiting (by_text wrote) (is m) (record { core = core; rows = o.0; later = calm.later }, o.1.1) (text_by wrote _ o.1.0)) (no_fault wrote) t

  -- memory was short, and nothing was reported
  pub unreported : b.core ≡ a.core → (act : Action) → Leaves act a.core b.core (BrokeOff None) (act ∷ []) → OverRows a b (λ m n. n ≡ m) → Does (act ∷ []) a b (broken (Unit {0}) OutOfMemory)
  unreported core act is t =
      over a b calm (broken (Unit {0}) OutOfMemory) act [] (λ m n. n ≡ m)
      (λ m n o. by_one a.code a.table.room act (act ∷ []) [] (BrokeOff None) (state_at a m) (state_at b n) a.waiting b.waiting (broken (Unit {0}) OutOfMemory) is (record { core = core; rows = o; later = calm.later }) tt) (λ e. cc) t

-- an event is one step of the host
module _ (a b : Sight) (held : b.held ≡ a.held) (faults : b.faults ≡ a.faults) (code : b.code ≡ a.code) (e : Event) (act : Action) (left : List Action) where
  abbrev EventStep : Result EventReply AllocError → Type 0
  EventStep r = Stepped a.code e a.core b.core a.table b.table r

  calm : (r : Result EventReply AllocError) → EventStep r → Calm a b
  calm r h = let t = over_any_table a.code e a.core b.core a.table b.table r h in record { held = held; faults = faults; code = code; room = t.room; later = t.later }

  -- it was answered, and what is told of the answer appended
  pub event_answered : {X : Type 0} (share : Share) (x : EventReply) (front : List Action) (r : Result X Stop) → Leaves act a.core b.core (Answered share e x) front → EventStep (Ok x)
      → OnOk r ((left ≡ front) × (b.waiting ≡ a.waiting ++ response_text a.code (Answered share e x))) → (IsErrOf r SinkFault → ⊥) → DoesTo (act ∷ []) left a b r
  event_answered share x front r is h text none =
      over a b (calm (Ok x) h) r act left (EventFrom a b e (Ok x))
      (λ m n o. by_one a.code a.table.room act front left (Answered share e x) (state_at a m) (state_at b n) a.waiting b.waiting r is (o, (calm (Ok x) h).later) text) none
      (over_rows a.code e a.core b.core a.table b.table (Ok x) h)

  -- it broke off
  pub event_broke : (X : Type 0) (w : AllocError) (front : List Action) → Leaves act a.core b.core (BrokeOff (Some e)) front → EventStep (Err w) → DoesTo (act ∷ []) left a b (broken X OutOfMemory)
  event_broke X w front is h =
      over a b (calm (Err w) h) (broken X OutOfMemory) act left (EventFrom a b e (Err w))
      (λ m n o. by_one a.code a.table.room act front left (BrokeOff (Some e)) (state_at a m) (state_at b n) a.waiting b.waiting (broken X OutOfMemory) is (o, (calm (Err w) h).later) tt) (λ e. cc)
      (over_rows a.code e a.core b.core a.table b.table (Err w) h)

-- a turn of a log collector is one step of the host
module _ (a b : Sight) (held : b.held ≡ a.held) (faults : b.faults ≡ a.faults) (code : b.code ≡ a.code) (k : ℕ) (act : Action) (left : List Action) where
  abbrev PruneStep : Result Pruned AllocError → Type 0
  PruneStep r = Prunes a.code k a.core b.core a.table b.table r

  abbrev PruneFrom : Result Pruned AllocError → Rows → Rows → Type 0
  PruneFrom r m n = PrunesOn a.code a.table.faults b.table.faults k a.core m b.core n r

  prune_calm : (r : Result Pruned AllocError) → PruneStep r → Calm a b
  prune_calm r h = let t = prune_over_any_table a.code k a.core b.core a.table b.table r h in record { held = held; faults = faults; code = code; room = t.room; later = t.later }

  -- it was answered, and what is told of the answer appended
  pub prune_answered : {X : Type 0} (share : Share) (x : Pruned) (front : List Action) (r : Result X Stop) → Leaves act a.core b.core (PruneAnswered share k x) front → PruneStep (Ok x)
      → OnOk r ((left ≡ front) × (b.waiting ≡ a.waiting ++ response_text a.code (PruneAnswered share k x))) → (IsErrOf r SinkFault → ⊥) → DoesTo (act ∷ []) left a b r
  prune_answered share x front r is h text none =
      over a b (prune_calm (Ok x) h) r act left (PruneFrom (Ok x))
      (λ m n o. by_one a.code a.table.room act front left (PruneAnswered share k x) (state_at a m) (state_at b n) a.waiting b.waiting r is (o, (prune_calm (Ok x) h).later) text) none
      (prune_over_rows a.code k a.core b.core a.table b.table (Ok x) h)

  -- it was out of memory
  pub prune_broke : (X : Type 0) (w : AllocError) (front : List Action) → Leaves act a.core b.core (PruneBroke k) front → PruneStep (Err w) → DoesTo (act ∷ []) left a b (broken X OutOfMemory)
  prune_broke X w front is h =
      over a b (prune_calm (Err w) h) (broken X OutOfMemory) act left (PruneFrom (Err w))
      (λ m n o. by_one a.code a.table.room act front left (PruneBroke k) (state_at a m) (state_at b n) a.waiting b.waiting (broken X OutOfMemory) is (o, (prune_calm (Err w) h).later) tt) (λ e. cc)
      (prune_over_rows a.code k a.core b.core a.table b.table (Err w) h)

-- what the table told of its rows as they were read
module _ (a b : Sight) {X : Type 0} (P : Rows → X → Type 0) where
  pub read_rows : (x : Result X OpenErr) → Reads P a.table b.table x → OverRows a b (λ m n. n ≡ m)
  read_rows x h = tells_map {P = λ m n. (n ≡ m) × IfOk x (P m)} {Q = λ m n. n ≡ m} a.table.rows b.table.rows (λ m n v. v.0) h.rows

  -- .. with what they say
  pub read_as : (x : X) (Q : Rows → Rows → Type 0) → ((m n : Rows) → n ≡ m → P m x → Q m n) → Reads P a.table b.table (Ok x) → OverRows a b (λ m n. (n ≡ m) × Q m n)
  read_as x Q f h = tells_map {P = λ m n. (n ≡ m) × P m x} {Q = λ m n. (n ≡ m) × Q m n} a.table.rows b.table.rows (λ m n v. (v.0, f m n v.0 v.1)) h.rows

  pub read_failed : (e : OpenErr) (Q : Rows → Rows → Type 0) → ((m n : Rows) → Q m n) → Reads P a.table b.table (Err e) → OverRows a b (λ m n. (n ≡ m) × Q m n)
  read_failed e Q f h = tells_map {P = λ m n. (n ≡ m) × Unit {0}} {Q = λ m n. (n ≡ m) × Q m n} a.table.rows b.table.rows (λ m n v. (v.0, f m n)) h.rows

-- the rows were not touched
pub tells_same : (o : Option Rows) (Q : Rows → Type 0) → ((m : Rows) → Q m) → Tells o o (λ m n. (n ≡ m) × Q m)
tells_same None Q f = refl
tells_same (Some m) Q f = (refl, f m)

-- .. but counted
pub counted_rows : (o : Option Rows) (n : ℕ) (Q : Type 0) → IsCount o n → Q → Tells o o (λ m k. (k ≡ m) × (Q × (n ≡ row_count m)))
counted_rows None n Q is q = refl
counted_rows (Some m) n Q is q = (refl, (q, is))

pub tells_still : (o : Option Rows) → Tells o o (λ m n. n ≡ m)
tells_still None = refl
tells_still (Some m) = refl

-- what went under the heading of the tables
pub under_head : (p v q lines : List ℕ) → v ≡ p ++ tables_head → q ≡ v ++ lines → q ≡ p ++ (tables_head ++ lines)
under_head p v q lines h is = is ∙ ap (λ z. z ++ lines) h ∙ append_assoc p tables_head lines

pub unread_under : (p v w q : List ℕ) (wrote : Result (Unit {0}) AllocError) → v ≡ p ++ tables_head → w ≡ v → OnOk wrote (q ≡ w ++ unread_line) → OnOk wrote (q ≡ p ++ (tables_head ++ unread_line))
unread_under p v w q (Ok u) h same is = under_head p v q unread_line h (is ∙ ap (λ z. z ++ unread_line) same)
unread_under p v w q (Err e) h same is = tt
