-- The host after an event: what it makes of the table, and how the book and the runs went on.
use Rattle.beldi_step.specs.Run.{callee_of}
use Rattle.beldi_invariant.proofs.Names.{AllocError, Bool, Core, Deployment, Entry, Err, Frame, Grows, IntentId, IsFree, IsGuarded, IsLast, Histories, KnowsAt, List, Mark, None, Ok, Option, Outcome, PlainState, Query, Result, Invariant, Row, RowKey, Rows, Run, RunAt, RunsMatch, EventReply, VersionsBounded, Some, ActReply, QueryReply, TurnOutput, Turned, Wait, [], after, after_grows, after_turn, ap, append-nil, arith, change_last, changed, entry_of, false, got, grows_self, has_run, if◌then◌else◌, inl, inr, is_crowded, is_gone, is_some, key_exact, leb-false, linear, made, marked, may_start, most_runs, nat_le, nat_lt, nothing, option_map, or_parts, put_run, refl, remove_put, reply_of, root_key, rows_after, run_of, replied, output_of, version_of, set_row, started, subst, sym, query_reply, reply_outcome, true, turn_next, turned_core, unchanged, with_run, without_run, ℕ, ◌&&◌, ◌++◌, ◌||◌, ◌∙◌, ◌∷◌, ◌≡◌, ◌⊎◌}
use Rattle.beldi_invariant.proofs.Lives.{InsideOn, PlacesOn, places_last, places_same, runs_on, runs_put, runs_more, runs_less, runs_before, numbers_put}
use Rattle.beldi_invariant.proofs.Shown.{Shows, shown}
use Rattle.beldi_invariant.proofs.Names.map

-- what an event came to, as an answer: out of memory it tells no more than one that was lost
abbrev pub seen_by : Result EventReply AllocError → EventReply
seen_by (Ok x) = x
seen_by (Err w) = EventReply.Dropped

-- it has the invariant; what was made before, in the plain state p, goes on; and an outcome that the answer tells is the plain one
pub record After (d : Deployment) (p : PlainState) (b : Core) (n : Rows) (x : EventReply) : Type 0 where
  pub invariant : Invariant d b n
  pub goes_on : Grows p.made invariant.plain.made
  pub there : is_gone x ≡ false
  pub reply : (t : ℕ) (o : Outcome) → reply_outcome x ≡ Some (t, o) → reply_of invariant.plain t ≡ Some o

-- after a query, by what follows from what it told
abbrev pub AfterQuery : Deployment → PlainState → ℕ → Rows → (QueryReply → Core × EventReply) → Query → Type 0
AfterQuery d p now m f q = After d p (f (query_reply q now m)).0 (rows_after q now m) (f (query_reply q now m)).1

-- after an act on the row of a key, by what it left there and what it told
abbrev pub AfterAct : Deployment → PlainState → Rows → RowKey → (QueryReply → Core × EventReply) → Option Row × ActReply → Type 0
AfterAct d p m k f z = After d p (f (replied z.1)).0 (set_row m k z.0) (f (replied z.1)).1

-- an act that left the row as it was
pub still : {b : Core} {x : EventReply} (d : Deployment) (p : PlainState) (m : Rows) (k : RowKey) (v : Option Row) → v ≡ map.get m k → After d p b m x → After d p b (set_row m k v) x
still {b} {x} d p m k v same a = subst (λ n. After d p b n x) (sym (unchanged m k v same)) a

-- after a turn
abbrev pub AfterTurn : Deployment → PlainState → Core → ℕ → Run → Turned → Rows → Type 0
AfterTurn d p c i r s n = After d p (turn_next c i r s).0 n (turn_next c i r s).1

-- the same roots have rows
abbrev pub SameRoots : Rows → Rows → Type 0
SameRoots m n = (t : ℕ) → is_some (map.get n (root_key t)) ≡ is_some (map.get m (root_key t))

pub replaced : (m : Rows) (k : RowKey) (v : Option Row) → is_some v ≡ is_some (map.get m k) → SameRoots m (set_row m k v)
replaced m k v h t = changed key_exact m (set_row m k v) k v (λ q. got m k q v) (λ q r. is_some r ≡ is_some (map.get m q)) h (λ q. refl) (root_key t)

-- ---- what a turn keeps: rows that show the plain state q and what is known then, and what the runs of others have found in them
pub record Kept {d : Deployment} {c : Core} {m : Rows} (h : Invariant d c m) (n : Rows) (q : PlainState) (next : Histories) (after : IntentId → Bool) : Type 0 where
  pub shows : Shows d n q next after
  pub grows : Grows h.histories next
  pub frame : Frame d m n h.plain q h.histories next
  pub others : InsideOn d m n h.plain q c.book h.histories next

-- .. where plain state and histories are as before
abbrev pub Stays : {d : Deployment} {c : Core} {m : Rows} → Invariant d c m → Rows → Type 0
Stays h n = Kept h n h.plain h.histories h.lock_ahead

-- ---- a book that has grown leads to the plain state q, and reads that are to be kept have their places in it
pub record Led (d : Deployment) (c : Core) (p : PlainState) (histories : Histories) (more : List Entry) (q : PlainState) (next : Histories) : Type 0 where
  pub grows : Grows p.made q.made
  pub bounded : VersionsBounded 0 more
  pub legal : run_of d more ≡ Some q
  pub guarded : IsGuarded d nothing (linear more)
  pub places : PlacesOn d c.book more histories next

-- .. as it is
pub led_still : {d : Deployment} {c : Core} {m : Rows} (h : Invariant d c m) (next : Histories) → Led d c h.plain h.histories c.book h.plain next
led_still {d} {c} h next = record { grows = grows_self h.plain.made; bounded = h.bounded; legal = h.legal; guarded = h.guarded; places = places_same d c.book h.histories next }

-- .. by an entry
abbrev pub Entered : Deployment → Core → PlainState → Histories → Entry → PlainState → Histories → Type 0
Entered d c p histories e q next = Led d c p histories (c.book ++ e ∷ []) q next

-- where the entry is a change, and nobody else has locked its item
pub change_entered : (d : Deployment) (c : Core) (m : Rows) (h : Invariant d c m) (e : Entry) (q : PlainState) (next : Histories) → version_of e ≡ None → after d h.plain e ≡ Some q → IsFree d h.plain e → Entered d c h.plain h.histories e q next
change_entered d c m h e q next change enabled free =
    let last : IsLast d c.book e q = change_last d c.book h.plain e q (record { bounded = h.bounded; legal = h.legal; guarded = h.guarded; change = change; enabled = enabled; free = free }) in
    record { grows = after_grows d h.plain e q enabled; bounded = last.bounded; legal = last.legal; guarded = last.guarded; places = places_last d c.book e h.histories next q last }

-- ---- a host has the invariant whose rows show the plain state that its book leads to
abbrev pub invariant_by : {d : Deployment} {b : Core} {n : Rows} {q : PlainState} {next : Histories} {lock_ahead : IntentId → Bool} → VersionsBounded 0 b.book → run_of d b.book ≡ Some q → IsGuarded d nothing (linear b.book) → Shows d n q next lock_ahead
    → ((t : ℕ) → is_some (map.get n (root_key t)) ≡ (nat_lt 0 t && nat_le t b.newest)) → RunsMatch d n q b.book next b.runs b.last_run → Invariant d b n
invariant_by {q} {next} {lock_ahead} bounded legal guarded s tickets runs = record {
  plain = q;
  bounded = bounded;
  legal = legal;
  guarded = guarded;
  histories = next;
  lock_ahead = lock_ahead;
  extends = s.goes.extends;
  well_formed = s.well_formed;
  ahead_at_ends = s.ahead_at_ends;
  rows = s.rows;
  values = s.values;
  tickets = tickets;
  shadows = s.goes.shadows;
  marks = s.settled.marks;
  holders = s.settled.holders;
  latest = s.settled.latest;
  unended = s.settled.unended;
  seated = s.settled.seated;
  released = s.settled.released;
  short = s.settled.short;
  runs = runs;
}

-- .. and one of the same book and tickets as one with the invariant, where its runs know what they have to
abbrev pub with_runs : {d : Deployment} {c : Core} {m : Rows} (h : Invariant d c m) (b : Core) → c.book ≡ b.book → c.newest ≡ b.newest → RunsMatch d m h.plain c.book h.histories b.runs b.last_run → Invariant d b m
with_runs {d} {c} {m} h b book newest runs = invariant_by {q = h.plain} {next = h.histories} {lock_ahead = h.lock_ahead} (subst (VersionsBounded 0) book h.bounded) (ap (run_of d) (sym book) ∙ h.legal) (subst (λ z. IsGuarded d nothing (linear z)) book h.guarded) (shown h)
    (λ t. h.tickets t ∙ ap (λ n. nat_lt 0 t && nat_le t n) newest) (subst (λ z. RunsMatch d m h.plain z h.histories b.runs b.last_run) book runs)

-- ---- a run turned, and the book has the entry of its act, if any
abbrev reply_told : ℕ → Option Outcome → Option (ℕ × Outcome)
reply_told t u = option_map (λ (o : Outcome). (t, o)) u

told_reply : (q : PlainState) (t : ℕ) (u : Option Outcome) → ((o : Outcome) → u ≡ Some o → reply_of q t ≡ Some o) → (s : ℕ) (o : Outcome) → reply_told t u ≡ Some (s, o) → reply_of q s ≡ Some o
told_reply q t u h s o e = grind arith

-- ---- a run more
-- a run that knows what it has to is started, where there is a place
pub with_one : (d : Deployment) (p : PlainState) (c : Core) (m : Rows) (x : EventReply) (r : Run) → is_crowded c ≡ false → (h : After d p c m x) → KnowsAt d m h.invariant.plain c.book h.invariant.histories r r.at → After d p (with_run c r) m x
with_one d p c m x r room h knows = record {
  invariant = with_runs h.invariant (with_run c r) refl refl (runs_more d m h.invariant.plain c.book h.invariant.histories c.runs c.last_run r (leb-false most_runs (map.len c.runs) room) knows h.invariant.runs);
  goes_on = h.goes_on;
  there = h.there;
  reply = h.reply;
}

-- what a test decides, as a plan
pub if_plan : {A : Type 0} (S : A → Type 0) (b : Bool) (p q : A) → (b ≡ true → S p) → (b ≡ false → S q) → S (if b then p else q)
if_plan S b p q g h = grind arith

-- a turn that may start a run of what its run calls
abbrev starts_by : Option Wait → Bool → Bool
starts_by None starts = starts
starts_by (Some (Wait.Held o)) starts = false
starts_by (Some Wait.Worn) starts = false
starts_by (Some (Wait.Result j)) starts = true

-- that run knows what it has to
abbrev pub KnowsCallee : Deployment → Rows → PlainState → List Entry → Histories → Run → Turned → Option Wait → Type 0
KnowsCallee d m p book histories r s w = starts_by w s.starts ≡ true → (k : Run) → callee_of r ≡ Some k → KnowsAt d m p book histories k k.at

-- what follows a turn whose core is so tells nothing but the outcome that the turn gave
module _ (d : Deployment) (p : PlainState) (c : Core) (m : Rows) (r : Run) (s : Turned) (h : Invariant d c m) (goes_on : Grows p.made h.plain.made)
    (reply : (t : ℕ) (o : Outcome) → reply_told r.id.ticket s.reply ≡ Some (t, o) → reply_of h.plain t ≡ Some o) where
  told_so : (x : EventReply) → is_gone x ≡ false → reply_outcome x ≡ reply_told r.id.ticket s.reply → After d p c m x
  told_so x there output = record { invariant = h; goes_on = goes_on; there = there; reply = λ t o e. reply t o (sym output ∙ e) }

  silent : (x : EventReply) → is_gone x ≡ false → reply_outcome x ≡ None → After d p c m x
  silent x there none = record { invariant = h; goes_on = goes_on; there = there; reply = λ t o e. let clash = sym none ∙ e in cc }

  abbrev AfterMade : Core × Option ℕ → Type 0
  AfterMade q = let z = made r.id (output_of s) q in After d p z.0 m z.1

  none_more : AfterMade (c, None)
  none_more = told_so (made r.id (output_of s) (c, None)).1 refl refl

  after_started : (o : Option Run) → ((k : Run) → o ≡ Some k → KnowsAt d m h.plain c.book h.histories k k.at) → is_crowded c ≡ false → AfterMade (started c o)
  unfolding told_so
  after_started None knows room = none_more
  after_started (Some k) knows room = let x = (made r.id (output_of s) (started c (Some k))).1 in with_one d p c m x k room (told_so x refl refl) (knows k refl)

  after_opened : (o : Option Run) → ((k : Run) → o ≡ Some k → KnowsAt d m h.plain c.book h.histories k k.at) → AfterMade (may_start c o)
  after_opened None knows = none_more
  after_opened (Some k) knows = if_plan AfterMade (has_run c.runs k.id || is_crowded c) _ _ (λ t. none_more) (λ e. after_started (Some k) knows (or_parts (has_run c.runs k.id) (is_crowded c) e).1)

  AfterThat : Core × EventReply → Type 0
  AfterThat z = After d p z.0 m z.1

  pub followed : (w : Option Wait) → KnowsCallee d m h.plain c.book h.histories r s w → let z = after_turn c (callee_of r) r.id (output_of s) w in After d p z.0 m z.1
  unfolding AfterThat
  followed None knows = if_plan AfterMade s.starts _ _ (λ t. after_opened (callee_of r) (knows t)) (λ t. none_more)
  followed (Some (Wait.Held u)) knows = silent (EventReply.Held u) refl refl
  followed (Some Wait.Worn) knows = silent EventReply.Worn refl refl
  followed (Some (Wait.Result j)) knows =
      if_plan AfterThat (has_run c.runs j) _ _ (λ t. silent (EventReply.NotYet j) refl refl)
      (λ t. if_plan AfterThat (is_crowded c) _ _ (λ u. silent EventReply.Crowded refl refl) (λ u. after_started (callee_of r) (knows refl) u))

-- ---- a run turned
module _ (d : Deployment) (c : Core) (m n : Rows) (i : ℕ) (r : Run) (h : Invariant d c m) (live : map.get c.runs i ≡ Some r) (roots : SameRoots m n) where
  -- by the book as it is then
  pub turned : (s : Turned) (more : List Entry) (q : PlainState) (next : Histories) (after : IntentId → Bool) → more ≡ marked c.book r.id s.mark → Led d c h.plain h.histories more q next → ((v : Outcome) → s.reply ≡ Some v → reply_of q r.id.ticket ≡ Some v)
      → RunAt d n q more next s.next → KnowsCallee d n q more next r s s.wait → Kept h n q next after → AfterTurn d h.plain c i r s n
  turned s more q next after book leads reply run callee kept = followed d h.plain (turned_core c i r.id s) n r s
      (invariant_by (subst (VersionsBounded 0) book leads.bounded) (ap (run_of d) (sym book) ∙ leads.legal) (subst (λ b. IsGuarded d nothing (linear b)) book leads.guarded) kept.shows (λ t. roots t ∙ h.tickets t)
      (subst (λ b. RunsMatch d n q b next (put_run c.runs i s.next) c.last_run) book (runs_put d n q more next c.runs c.last_run i s.next (ap is_some live) run
      (runs_on d m n h.plain q c.book more h.histories next kept.grows leads.places kept.others c.runs c.last_run h.runs))))
      leads.grows (told_reply q r.id.ticket s.reply reply) s.wait (subst (λ b. KnowsCallee d n q b next r s s.wait) book callee)

  -- it made no entry
  pub quiet : (s : Turned) (next : Histories) (after : IntentId → Bool) → s.mark ≡ None → s.reply ≡ None → RunAt d n h.plain c.book next s.next → KnowsCallee d n h.plain c.book next r s s.wait → Kept h n h.plain next after → AfterTurn d h.plain c i r s n
  quiet s next after none silent = turned s c.book h.plain next after (sym (append-nil c.book) ∙ ap (marked c.book r.id) (sym none)) (led_still h next) (λ v told. let clash = sym silent ∙ told in cc)

  -- it made this entry, which led to the plain state q
  pub entered : (s : Turned) (k : Mark) (q : PlainState) (next : Histories) (after : IntentId → Bool) → s.mark ≡ Some k → Entered d c h.plain h.histories (entry_of r.id k) q next → ((v : Outcome) → s.reply ≡ Some v → reply_of q r.id.ticket ≡ Some v) → RunAt d n q (c.book ++ entry_of r.id k ∷ []) next s.next
      → KnowsCallee d n q (c.book ++ entry_of r.id k ∷ []) next r s s.wait → Kept h n q next after → AfterTurn d h.plain c i r s n
  entered s k q next after is = turned s (c.book ++ entry_of r.id k ∷ []) q next after (ap (marked c.book r.id) (sym is))

-- ---- nobody hears what a turn told: its run is over, and none is started
-- what follows a turn leaves its core, or one run more
MaybeStarted : Core → Core → Type 0
MaybeStarted c b = (b ≡ c) ⊎ ((r : Run) × (b ≡ with_run c r))

module _ (c : Core) where
  started_so : (o : Option Run) → MaybeStarted c (started c o).0
  unfolding MaybeStarted
  started_so None = inl refl
  started_so (Some k) = inr (k, refl)

  opened_so : (o : Option Run) → MaybeStarted c (may_start c o).0
  unfolding MaybeStarted
  opened_so None = inl refl
  opened_so (Some k) = if_plan (λ (q : Core × Option ℕ). MaybeStarted c q.0) (has_run c.runs k.id || is_crowded c) _ _ (λ t. inl refl) (λ t. started_so (Some k))

  after_so : (o : Option Run) (id : IntentId) (x : TurnOutput) (w : Option Wait) → MaybeStarted c (after_turn c o id x w).0
  unfolding MaybeStarted
  after_so o id x None = if_plan (λ (q : Core × Option ℕ). MaybeStarted c q.0) x.starts _ _ (λ t. opened_so o) (λ t. inl refl)
  after_so o id x (Some (Wait.Held u)) = inl refl
  after_so o id x (Some Wait.Worn) = inl refl
  after_so o id x (Some (Wait.Result j)) =
      if_plan (λ (z : Core × EventReply). MaybeStarted c z.0) (has_run c.runs j) _ _ (λ t. inl refl)
      (λ t. if_plan (λ (z : Core × EventReply). MaybeStarted c z.0) (is_crowded c) _ _ (λ u. inl refl) (λ u. started_so o))

module _ (d : Deployment) (c : Core) (m n : Rows) (i : ℕ) (r : Run) (h : Invariant d c m) (live : map.get c.runs i ≡ Some r) (s : Turned) where
  abbrev core : Core
  core = turned_core c i r.id s

  run_over : (g : Invariant d core n) → Invariant d (without_run c i r.id s.mark) n
  run_over g = with_runs g (without_run c i r.id s.mark) refl refl (subst (λ f. RunsMatch d n g.plain core.book g.histories f core.last_run) (remove_put c.runs i s.next) (runs_less d n g.plain core.book g.histories core.runs core.last_run i g.runs))

  not_started : (k : Run) (g : Invariant d (with_run core k) n) → Invariant d core n
  not_started k g = with_runs g core refl refl (runs_before d n g.plain core.book g.histories core.runs core.last_run k (numbers_put c.runs c.last_run i s.next (ap is_some live) (λ j t. (h.runs.numbers j t).1)) g.runs)

  lost_by : (b : Core) → MaybeStarted core b → After d h.plain b n (turn_next c i r s).1 → After d h.plain (without_run c i r.id s.mark) n EventReply.Dropped
  unfolding MaybeStarted run_over not_started
  lost_by b (inl same) a =
      let g : After d h.plain core n (turn_next c i r s).1 = subst (λ z. After d h.plain z n (turn_next c i r s).1) same a in
      record { invariant = run_over g.invariant; goes_on = g.goes_on; there = refl; reply = λ t o e. cc }
  lost_by b (inr k) a =
      let g : After d h.plain (with_run core k.0) n (turn_next c i r s).1 = subst (λ z. After d h.plain z n (turn_next c i r s).1) k.1 a in
      record { invariant = run_over (not_started k.0 g.invariant); goes_on = g.goes_on; there = refl; reply = λ t o e. cc }

  pub unheard : AfterTurn d h.plain c i r s n → After d h.plain (without_run c i r.id s.mark) n EventReply.Dropped
  unheard a = lost_by (turn_next c i r s).0 (after_so core (callee_of r) r.id (output_of s) s.wait) a
