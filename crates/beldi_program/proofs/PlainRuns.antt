-- What every step keeps, what is said at its moment, and what is so at the end: a session is a run without crashes.
use Rattle.std.specs.Prelude.{is_some, max, if◌then◌else◌}
use Rattle.beldi_book.specs.LinearOrder.{count_changes}
use Rattle.beldi_plain.specs.{Legal.run_of, Listing.listing_of, Plain.PlainState}
use Rattle.beldi_row.specs.Table.{HasCause}
use Rattle.beldi_step.specs.{HostStep.first_core, Prunes.PrunesOn, Tables.tables_text, EventContent.reply_outcome, declared.event.Pruned.Pruned}
use Rattle.beldi_upkeep.{proofs.Together.begins_upkept, proofs.Together.keeps_upkeep, specs.Upkeep.Upkeep}
use Rattle.beldi_kept.specs.{Safe.changes, Safe.takes, KeptRows.HasKept, KeptRows.IsLater, Safe.EventsKeepSafe, Safe.IsSafe, StandsLess.StandsLess, KeptReplies.KeptOutcomes, KeptReplies.KeptReplies}
use Rattle.beldi_kept.proofs.{Begins.begins_kept, Begins.begins_early, Collecting.prunings_keep_safe, Collecting.prunings_keep_whole, Collecting.prunings_move, Collecting.safe_at_cursor, Collecting.upkept, LeftRows.kept_listing, LeftRows.kept_stand, LeftRows.stands_later, Telling.kept_are_legal}
use Rattle.beldi_host.specs.Survey.{latest_of, opened_core, reply_status}
use Rattle.beldi_host.proofs.HostInvariant.{status_less, reply_there}
use Rattle.beldi_joined.specs.Joined.{behind, joined, raised_answer, raised_reply}
use Rattle.beldi_joined.proofs.{After.told_same, Books.joined_nothing, Books.starts_joined, RaisedEvents.step_behind, RaisedPrunes.prunes_behind, Reopened.behind_nothing, Reopened.opened_safe, Reopened.opened_upkept}
use Rattle.beldi_session.specs.HostResponse.{PruneAnswered, PruneBroke, Share, SweptIs}
use Rattle.beldi_program.proofs.Names.{IfOk, AllocError, Answered, BookGrew, BookIs, Booked, BrokeOff, Core, Deployment, Entry, Err, Event, EventOn, Gone, HasReply, IsLegal, IsPlainRun, IsReport, IsReportSo, IsSo, IsStep, LeadsTo, LineRefused, List, Moment, Moments, None, Ok, Option, Outcome, Reply, ReplyIs, ReplyStatus, Report, Reported, Response, Result, RowKey, Rows, RowsAre, RowsStandFor, IsStatusSo, EventReply, SettledIs, Some, State, TablesAre, TellOutcomes, Unchanged, Unknown, Value, Waiting, WentBack, WentOn, [], ap, append-nil, append_assoc, arith, at_key, book_grew, bound_by, bound_by_event, bound_in, entries_in, false, last_book, least_key, loses, opened_at, outcome_in, refl, responses_in, invariant_stands, same_Some, starts_bound, starts_of, subst, sym, true, ℕ, ◌++◌, ◌+◌, ◌∙◌, ◌∷◌, ◌≡◌, ◌≤◌}
use Rattle.beldi_program.proofs.Names.map
use Rattle.beldi_program.specs.PlainRun.{StandsBy, alone, last_changed, later, changes_row}
use Rattle.beldi_program.specs.Hosted.{Left, SessionsArePlainRuns, StepTo, no_session, one_more, changed_by}

abbrev Bound : Type 0
Bound = List (ℕ × (ℕ × Value))

-- ---- the host as if it had made the whole history: it makes the same steps, and tells the same outcomes
record Lifts (d : Deployment) (lift : Core → Core) (history : List Entry → List Entry) : Type 0 where
  answer : Result EventReply AllocError → Result EventReply AllocError
  event : (room f g : ℕ) (e : Event) (c b : Core) (m n : Rows) (r : Result EventReply AllocError) → EventOn d room f g e c m b n r → EventOn d room f g e (lift c) m (lift b) n (answer r)
  prune : (f g k : ℕ) (c b : Core) (m n : Rows) (r : Result Pruned AllocError) → PrunesOn d f g k c m b n r → PrunesOn d f g k (lift c) m (lift b) n r
  told : (x : EventReply) → (y : EventReply) × (answer (Ok x) ≡ Ok y) × (reply_outcome y ≡ reply_outcome x)
  book : (c : Core) → (lift c).book ≡ history c.book
  starts : (book : List Entry) → starts_of (history book) ≡ starts_of (history []) ++ starts_of book
  cursor : (k : RowKey) (c : Core) → lift (at_key k c) ≡ at_key k (lift c)
  newest : (c : Core) → (lift c).newest ≡ c.newest
  now : (c : Core) → (lift c).now ≡ c.now

-- the first session over its rows is its own history
first_lifts : (d : Deployment) → Lifts d (λ c. c) alone
first_lifts d = record {
  answer = λ r. r;
  event = λ room f g e c b m n r o. o;
  prune = λ f g k c b m n r o. o;
  told = λ x. (x, refl, refl);
  book = λ c. refl;
  starts = λ book. refl;
  cursor = λ k c. refl;
  newest = λ c. refl;
  now = λ c. refl;
}

-- a later one has those before it as the front of its history
behind_lifts : (d : Deployment) (base : List Entry) → Lifts d (behind base) (joined base)
behind_lifts d base = record {
  answer = raised_answer (count_changes base);
  event = λ room f g e c b m n r o. step_behind base d room f g e c b m n r o;
  prune = λ f g k c b m n r o. prunes_behind d base f g k c b m n r o;
  told = λ x. (raised_reply (count_changes base) x, refl, told_same (count_changes base) x);
  book = λ c. refl;
  starts = λ book. starts_joined base book ∙ ap (λ z. starts_of z ++ starts_of book) (sym (joined_nothing base));
  cursor = λ k c. refl;
  newest = λ c. refl;
  now = λ c. refl;
}

-- ---- when a collector changed a row last: where none did, all rows are there; else who is gone was old then
abbrev Changed : (d : Deployment) → Option ℕ → (c : Core) (m : Rows) → HasKept d c m → Type 0
Changed d None c m h = Upkeep d c m × (h.latest ≡ 0)
Changed d (Some l) c m h = h.latest ≤ l

-- .. and where one is changed now
changed_now : (d : Deployment) (gone was : Option ℕ) (c b : Core) (m n : Rows) (h : HasKept d c m) (g : HasKept d b n) (now : ℕ) → Changed d (later gone was) c m h → g.latest ≤ max h.latest now → Changed d (later gone (later was (Some now))) b n g
changed_now d None None c b m n h g now so up = let none = so.1 in omega (arith, none, up)
changed_now d None (Some a) c b m n h g now so up = omega (arith, so, up)
changed_now d (Some a) None c b m n h g now so up = omega (arith, so, up)
changed_now d (Some a) (Some b') c b m n h g now so up = omega (arith, so, up)

-- the laws that are called
record Laws : Type 0 where
  keep : EventsKeepSafe
  reply : KeptReplies
  stay : KeptOutcomes

module _ (laws : Laws) (d : Deployment) (lift : Core → Core) (history : List Entry → List Entry) (lifts : Lifts d lift history) (gone : Option ℕ) where
  -- a host with its rows, that has the invariant with its history; `was` is when a collector changed a row last in this session
  record InvariantFor (was : Option ℕ) (c : Core) (m : Rows) : Type 0 where
    safe : IsSafe d (lift c) m
    so : Changed d (later gone was) (lift c) m safe.has

  abbrev InvariantAt : Option ℕ → State → Type 0
  InvariantAt was s = InvariantFor was s.core s.rows

  -- ---- what lies between two states of a host that has the invariant, and what was bound
  record Kept (now : Option ℕ) (s t : State) (bound : Bound) : Type 0 where
    invariant : InvariantAt now t
    starts : starts_of t.core.book ≡ starts_of s.core.book ++ bound
    keeps : (n : ℕ) (o : Outcome) → HasReply d (history s.core.book) n o → HasReply d (history t.core.book) n o

  kept_then : (r : Option ℕ) (s t u : State) (x y : Bound) (q : Option ℕ) → Kept q s t x → Kept r t u y → Kept r s u (x ++ y)
  kept_then r s t u x y q p k = record {
    invariant = k.invariant;
    starts = k.starts ∙ ap (λ z. z ++ y) p.starts ∙ append_assoc (starts_of s.core.book) x y;
    keeps = λ n o h. k.keeps n o (p.keeps n o h);
  }

  -- where the book is the same
  kept_by : (was : Option ℕ) (s t : State) → t.core.book ≡ s.core.book → InvariantAt was t → Kept was s t []
  kept_by was s t same right = record {
    invariant = right;
    starts = ap starts_of same ∙ sym (append-nil (starts_of s.core.book));
    keeps = λ n o h. subst (λ b. HasReply d (history b) n o) (sym same) h;
  }

  kept_same : (was : Option ℕ) (s t : State) → InvariantAt was s → Unchanged s t → Kept was s t []
  kept_same was s t h u = kept_by was s t (ap (λ (c : Core). c.book) u.core) (subst (λ c. InvariantFor was c t.rows) (sym u.core) (subst (InvariantFor was s.core) (sym u.rows) h))

  -- what is so of the book of the host as if, is so of the history
  of_history : (P : List Entry → Type 0) (s : State) → P (lift s.core).book → P (history s.core.book)
  of_history P s h = subst P (lifts.book s.core) h

  to_history : (P : List Entry → Type 0) (s : State) → P (history s.core.book) → P (lift s.core).book
  to_history P s h = subst P (sym (lifts.book s.core)) h

  -- ---- an event
  lifted : (e : Event) (s t : State) (r : Result EventReply AllocError) → EventOn d d.room s.faults t.faults e s.core s.rows t.core t.rows r → EventOn d d.room s.faults t.faults e (lift s.core) s.rows (lift t.core) t.rows (lifts.answer r)
  lifted e s t r o = lifts.event d.room s.faults t.faults e s.core t.core s.rows t.rows r o

  event_invariant : (was : Option ℕ) (e : Event) (s t : State) (r : Result EventReply AllocError) → InvariantAt was s → EventOn d d.room s.faults t.faults e s.core s.rows t.core t.rows r → InvariantAt was t
  event_invariant was e s t r h o = record { safe = g.0; so = by_changed (later gone was) h.so }
    where
      g : (g : IsSafe d (lift t.core) t.rows) × IsLater h.safe.has g.has × (g.has.latest ≡ h.safe.has.latest)
      g = laws.keep d d.room s.faults t.faults e (lift s.core) (lift t.core) s.rows t.rows (lifts.answer r) h.safe (lifted e s t r o)

      by_changed : (l : Option ℕ) → Changed d l (lift s.core) s.rows h.safe.has → Changed d l (lift t.core) t.rows g.0.has
      by_changed None so = (keeps_upkeep d d.room s.faults t.faults e (lift s.core) (lift t.core) s.rows t.rows (lifts.answer r) so.0 (lifted e s t r o), g.2 ∙ so.1)
      by_changed (Some l) so = subst (λ z. z ≤ l) (sym g.2) so

  kept_event : (was : Option ℕ) (e : Event) (s t : State) (r : Result EventReply AllocError) → InvariantAt was s → EventOn d d.room s.faults t.faults e s.core s.rows t.core t.rows r → Kept was s t (bound_by_event e r)
  kept_event was e s t r h o = record {
    invariant = event_invariant was e s t r h o;
    starts = starts_bound d d.room s.faults t.faults e s.core t.core s.rows t.rows r o;
    keeps = λ n w k. of_history (λ b. HasReply d b n w) t (laws.stay d d.room s.faults t.faults e (lift s.core) (lift t.core) s.rows t.rows (lifts.answer r) n w h.safe.has (lifted e s t r o) (to_history (λ b. HasReply d b n w) s k));
  }

  told_so : (was : Option ℕ) (e : Event) (s t : State) (x : EventReply) → InvariantAt was s → EventOn d d.room s.faults t.faults e s.core s.rows t.core t.rows (Ok x) → (n : ℕ) (w : Outcome) → reply_outcome x ≡ Some (n, w) → HasReply d (lift t.core).book n w
  told_so was e s t x h o n w is =
      let y = lifts.told x in
      laws.reply d d.room s.faults t.faults e (lift s.core) (lift t.core) s.rows t.rows y.0 h.safe.has (subst (EventOn d d.room s.faults t.faults e (lift s.core) s.rows (lift t.core) t.rows) y.1 (lifted e s t (Ok x) o)) n w (y.2 ∙ is)

  -- ---- a turn of a log collector
  module _ (was : Option ℕ) (k : ℕ) (s t : State) (r : Result Pruned AllocError) (h : InvariantAt was s) (o : PrunesOn d s.faults t.faults k s.core s.rows t.core t.rows r) where
    abbrev on : PrunesOn d s.faults t.faults k (lift s.core) s.rows (lift t.core) t.rows r
    on = lifts.prune s.faults t.faults k s.core t.core s.rows t.rows r o

    after : (g : IsSafe d (lift t.core) t.rows) × IsLater h.safe.has g.has × (g.has.latest ≤ max h.safe.has.latest (lift s.core).now) × (IfOk r (λ y. changes y ≡ false) → t.rows ≡ s.rows) × (IfOk r (λ y. takes y ≡ false) → g.has.latest ≡ h.safe.has.latest)
    after = prunings_keep_safe d s.faults t.faults k (lift s.core) (lift t.core) s.rows t.rows r h.safe on

    same_book : t.core.book ≡ s.core.book
    same_book = let moves = prunings_move d s.faults t.faults k s.core t.core s.rows t.rows r o in ap (λ (c : Core). c.book) moves.is

    -- it changed no row
    kept_still : IfOk r (λ y. changes y ≡ false) → IfOk r (λ y. takes y ≡ false) → Kept was s t []
    kept_still none stays = kept_by was s t same_book (record { safe = after.0; so = by_changed (later gone was) h.so })
      where
        by_changed : (l : Option ℕ) → Changed d l (lift s.core) s.rows h.safe.has → Changed d l (lift t.core) t.rows after.0.has
        by_changed None so = (prunings_keep_whole d s.faults t.faults k (lift s.core) (lift t.core) s.rows t.rows r on none so.0, after.4 stays ∙ so.1)
        by_changed (Some l) so = subst (λ z. z ≤ l) (sym (after.4 stays)) so

    -- it changed one
    kept_less : Kept (later was (Some s.core.now)) s t []
    kept_less = kept_by (later was (Some s.core.now)) s t same_book (record { safe = after.0; so = changed_now d gone was (lift s.core) (lift t.core) s.rows t.rows h.safe.has after.0.has s.core.now h.so (subst (λ z. after.0.has.latest ≤ max h.safe.has.latest z) (lifts.now s.core) after.2) })

  kept_prune : (was : Option ℕ) (share : Share) (k : ℕ) (s t : State) (x : Pruned) → InvariantAt was s → PrunesOn d s.faults t.faults k s.core s.rows t.core t.rows (Ok x) → Kept (changed_by s.core.now was (PruneAnswered share k x)) s t []
  kept_prune was share k s t Pruned.Marked h o = kept_less was k s t (Ok Pruned.Marked) h o
  kept_prune was share k s t Pruned.Skipped h o = kept_less was k s t (Ok Pruned.Skipped) h o
  kept_prune was share k s t Pruned.Dangled h o = kept_less was k s t (Ok Pruned.Dangled) h o
  kept_prune was share k s t Pruned.Removed h o = kept_less was k s t (Ok Pruned.Removed) h o
  kept_prune was share k s t Pruned.Going h o = kept_still was k s t (Ok Pruned.Going) h o refl refl
  kept_prune was share k s t Pruned.Round h o = kept_still was k s t (Ok Pruned.Round) h o refl refl
  kept_prune was share k s t Pruned.Dropped h o = kept_still was k s t (Ok Pruned.Dropped) h o refl refl
  kept_prune was share k s t Pruned.Shut h o = kept_still was k s t (Ok Pruned.Shut) h o refl refl
  kept_prune was share k s t Pruned.Spent h o = kept_still was k s t (Ok Pruned.Spent) h o refl refl

  -- ---- the intent collector was set to a key
  kept_at : (was : Option ℕ) (k : RowKey) (s t : State) → InvariantAt was s → t ≡ record s { core = at_key k s.core } → Kept was s t []
  kept_at was k s t h o = subst (λ z. Kept was s z []) (sym o) (kept_by was s (record s { core = at_key k s.core }) refl moved)
    where
      by_changed : (l : Option ℕ) → Changed d l (lift s.core) s.rows h.safe.has → Changed d l (at_key k (lift s.core)) s.rows (safe_at_cursor d (lift s.core) s.rows h.safe k).0.has
      by_changed None so = (upkept d (lift s.core) s.rows so.0 k (lift s.core).taken (lift s.core).collectors, (safe_at_cursor d (lift s.core) s.rows h.safe k).1 ∙ so.1)
      by_changed (Some l) so = subst (λ z. z ≤ l) (sym (safe_at_cursor d (lift s.core) s.rows h.safe k).1) so

      at_lift : (c : Core) → at_key k (lift s.core) ≡ c → (g : IsSafe d c s.rows) × Changed d (later gone was) c s.rows g.has
      at_lift c is = subst (λ z. (g : IsSafe d z s.rows) × Changed d (later gone was) z s.rows g.has) is ((safe_at_cursor d (lift s.core) s.rows h.safe k).0, by_changed (later gone was) h.so)

      moved : InvariantFor was (at_key k s.core) s.rows
      moved = let g = at_lift (lift (at_key k s.core)) (sym (lifts.cursor k s.core)) in record { safe = g.0; so = g.1 }

  kept_step : (was : Option ℕ) (s t : State) (y : Response) → InvariantAt was s → IsStep d d.room s t y → Kept (changed_by s.core.now was y) s t (bound_by y)
  kept_step was s t (Answered share e x) h o = kept_event was e s t (Ok x) h o.0
  kept_step was s t WentBack h o = kept_at was least_key s t h o
  kept_step was s t (WentOn k) h o = kept_at was k s t h o.1
  kept_step was s t (BrokeOff None) h o = kept_same was s t h o
  kept_step was s t (BrokeOff (Some e)) h o = kept_event was e s t (Err (record {})) h o.0
  kept_step was s t (PruneAnswered share k x) h o = kept_prune was share k s t x h o.0
  kept_step was s t (PruneBroke k) h o = kept_still was k s t (Err (record {})) h o.0 tt tt
  kept_step was s t (Reported r) h o = kept_same was s t h o.0

  -- with the book, the rows and the moment that the response has
  kept_to : (was : Option ℕ) (s u : State) (y : Booked) → InvariantAt was s → StepTo d was s u y → Kept y.changed s u (bound_by y.response)
  kept_to was s u y h o = subst (λ z. Kept z s u (bound_by y.response)) (sym o.changed) (kept_step was s u y.response h o.step)

  kept_all : (ys : List Booked) (was : Option ℕ) (s t : State) → InvariantAt was s → LeadsTo d was ys s t → Kept (last_changed was ys) s t (bound_in (responses_in ys))
  kept_all [] was s t h x = subst (λ z. Kept was s z []) (sym x) (kept_by was s s refl h)
  kept_all (y ∷ ys) was s t h x = let k = kept_to was s x.0 y h x.1 in kept_then (last_changed y.changed ys) s x.0 t (bound_by y.response) (bound_in (responses_in ys)) y.changed k (kept_all ys y.changed x.0 t k.invariant x.2)

  -- ---- the moment after a step
  whole_told : (was : Option ℕ) (s : State) (n : ℕ) (l : Option ℕ) (h : InvariantAt was s) → Changed d l (lift s.core) s.rows h.safe.has → reply_status (lift s.core).newest n s.rows ≡ Gone → is_some l ≡ true
  whole_told was s n None h so gone = absurd (reply_there d (lift s.core) s.rows so.0.invariant n gone)
  whole_told was s n (Some l) h so gone = refl

  report_so : (was : Option ℕ) (s t : State) (r : Report) → InvariantAt was s → IsReport d s t r → IsReportSo d history gone s.core.book was r
  report_so was s t (ReplyIs n None) h o = tt
  report_so was s t (ReplyIs n (Some x)) h o =
      let told = subst (λ k. x ≡ reply_status k n s.rows) (sym (lifts.newest s.core)) o in (
        of_history (λ b. IsStatusSo d b n x) s (subst (λ z. IsStatusSo d (lift s.core).book n z) (sym told) (status_less d (lift s.core) s.rows h.safe.has n)),
        λ is. whole_told was s n (later gone was) h h.so (sym told ∙ is),
      )
  report_so was s t (RowsAre n) h o = tt
  report_so was s t (TablesAre None) h o = tt
  report_so was s t (TablesAre (Some lines)) h o = λ p is. o ∙ kept_listing d (lift s.core) s.rows p h.safe.has (to_history (λ b. run_of d b ≡ Some p) s is)
  report_so was s t (BookIs lines) h o = o
  report_so was s t (SettledIs r) h o = tt
  report_so was s t (SweptIs r) h o = tt
  report_so was s t (LineRefused x) h o = tt

  stands_for : (was : Option ℕ) (t : State) → InvariantAt was t → RowsStandFor d (later gone was) t.rows (history t.core.book)
  stands_for was t h p is = by_changed (later gone was) h.so
    where
      by_changed : (l : Option ℕ) → Changed d l (lift t.core) t.rows h.safe.has → StandsBy d l t.rows p
      by_changed None so = invariant_stands d (lift t.core) t.rows p so.0.invariant (to_history (λ b. run_of d b ≡ Some p) t is)
      by_changed (Some l) so = stands_later d h.safe.has.latest l t.rows p so (kept_stand d (lift t.core) t.rows p h.safe.has (to_history (λ b. run_of d b ≡ Some p) t is))

  legal_at : (was : Option ℕ) (t : State) → InvariantAt was t → IsLegal d (history t.core.book)
  legal_at was t h = of_history (IsLegal d) t (kept_are_legal d (lift t.core) t.rows h.safe.has)

  -- what is after a response
  abbrev at_moment : Option ℕ → State → State → Response → Booked
  at_moment was s t y = record { response = y; book = t.core.book; rows = t.rows; changed = changed_by s.core.now was y }

  still_by : (was : Option ℕ) (now : ℕ) (y : Response) → changes_row y ≡ false → changed_by now was y ≡ was
  still_by was now y none = ap (λ b. if b then later was (Some now) else was) none

  -- one that makes no entry
  quiet : (was : Option ℕ) (s t : State) (y : Response) → t.core.book ≡ s.core.book → (loses y ≡ false → [] ≡ entries_in y) → InvariantAt (changed_by s.core.now was y) t → IsSo d history gone t.core.book (changed_by s.core.now was y) y → Moment d history gone s.core.book was (at_moment was s t y)
  quiet was s t y same told right so = record {
    entry = None;
    grew = same ∙ sym (append-nil s.core.book);
    told = told;
    still = still_by was s.core.now y;
    legal = legal_at (changed_by s.core.now was y) t right;
    tables = stands_for (changed_by s.core.now was y) t right;
    so = so;
  }

  moment : (was : Option ℕ) (s t : State) (y : Response) → InvariantAt was s → IsStep d d.room s t y → InvariantAt (changed_by s.core.now was y) t → Moment d history gone s.core.book was (at_moment was s t y)
  moment was s t (Answered share e x) h o right =
      let g = book_grew d d.room s.faults t.faults e s.core t.core s.rows t.rows (Ok x) o.0 in
      record {
        entry = g.entry;
        grew = g.book;
        told = g.told;
        still = λ none. refl;
        legal = legal_at was t right;
        tables = stands_for was t right;
        so = λ n w is. of_history (λ b. HasReply d b n w) t (told_so was e s t x h o.0 n w is);
      }
  moment was s t WentBack h o right = quiet was s t WentBack (ap (λ (z : State). z.core.book) o) (λ v. refl) right tt
  moment was s t (WentOn k) h o right = quiet was s t (WentOn k) (ap (λ (z : State). z.core.book) o.1) (λ v. refl) right tt
  moment was s t (BrokeOff None) h o right = quiet was s t (BrokeOff None) (ap (λ (c : Core). c.book) o.core) (λ v. cc) right tt
  moment was s t (BrokeOff (Some e)) h o right =
      let g = book_grew d d.room s.faults t.faults e s.core t.core s.rows t.rows (Err (record {})) o.0 in
      record {
        entry = g.entry;
        grew = g.book;
        told = λ v. cc;
        still = λ none. refl;
        legal = legal_at was t right;
        tables = stands_for was t right;
        so = tt;
      }
  moment was s t (PruneAnswered share k x) h o right = quiet was s t (PruneAnswered share k x) (same_book was k s t (Ok x) h o.0) (λ v. refl) right tt
  moment was s t (PruneBroke k) h o right = quiet was s t (PruneBroke k) (same_book was k s t (Err (record {})) h o.0) (λ v. refl) right tt
  moment was s t (Reported r) h o right = quiet was s t (Reported r) (ap (λ (c : Core). c.book) o.0.core) (λ v. refl) right
      (subst (λ (c : Core). IsReportSo d history gone c.book was r) (sym o.0.core) (report_so was s t r h o.1))

  moment_to : (was : Option ℕ) (s u : State) (y : Booked) → InvariantAt was s → StepTo d was s u y → Moment d history gone s.core.book was y
  moment_to was s u y h o =
      let same : at_moment was s u y.response ≡ y = λ i. record { response = y.response; book = o.book i; rows = o.rows i; changed = sym o.changed i } in
      subst (Moment d history gone s.core.book was) same (moment was s u y.response h o.step (kept_step was s u y.response h o.step).invariant)

  -- ---- outcomes
  reply_tells : (book : List Entry) (u n : ℕ) (x : ReplyStatus) (o : Outcome) → IsStatusSo d book u x → outcome_in (Reported (ReplyIs u (Some x))) ≡ Some (n, o) → HasReply d book n o
  reply_tells book u n (Reply v) o s is = subst (λ (z : ℕ × Outcome). HasReply d book z.0 z.1) (same_Some (u, v) (n, o) is) s
  reply_tells book u n Unknown o s is = cc
  reply_tells book u n Gone o s is = cc
  reply_tells book u n Waiting o s is = cc

  tells : (book : List Entry) (changed : Option ℕ) (y : Response) (n : ℕ) (o : Outcome) → IsSo d history gone book changed y → outcome_in y ≡ Some (n, o) → HasReply d (history book) n o
  tells book changed (Answered share e x) n o s is = s n o is
  tells book changed WentBack n o s is = cc
  tells book changed (WentOn k) n o s is = cc
  tells book changed (BrokeOff e) n o s is = cc
  tells book changed (PruneAnswered share k x) n o s is = cc
  tells book changed (PruneBroke k) n o s is = cc
  tells book changed (Reported (ReplyIs u (Some x))) n o s is = reply_tells (history book) u n x o s.0 is
  tells book changed (Reported (ReplyIs u None)) n o s is = cc
  tells book changed (Reported (RowsAre k)) n o s is = cc
  tells book changed (Reported (TablesAre lines)) n o s is = cc
  tells book changed (Reported (BookIs lines)) n o s is = cc
  tells book changed (Reported (SettledIs r)) n o s is = cc
  tells book changed (Reported (SweptIs r)) n o s is = cc
  tells book changed (Reported (LineRefused x)) n o s is = cc

  -- ---- a session
  told_all : (ys : List Booked) (was : Option ℕ) (s t : State) → InvariantAt was s → LeadsTo d was ys s t → TellOutcomes d (history t.core.book) (responses_in ys)
  told_all [] was s t h x = tt
  told_all (y ∷ ys) was s t h x =
      let after = (kept_to was s x.0 y h x.1).invariant in
      let so = (moment_to was s x.0 y h x.1).so in
      (λ n o is. (kept_all ys y.changed x.0 t after x.2).keeps n o (subst (λ b. HasReply d (history b) n o) (sym x.1.book) (tells y.book y.changed y.response n o so is)), told_all ys y.changed x.0 t after x.2)

  last_is : (ys : List Booked) (was : Option ℕ) (s t : State) → LeadsTo d was ys s t → last_book s.core.book ys ≡ t.core.book
  last_is [] was s t x = ap (λ (z : State). z.core.book) (sym x)
  last_is (y ∷ ys) was s t x = ap (λ b. last_book b ys) (sym x.1.book) ∙ last_is ys y.changed x.0 t x.2

  moments : (ys : List Booked) (was : Option ℕ) (s t : State) → InvariantAt was s → LeadsTo d was ys s t → Moments d history gone s.core.book was ys
  moments [] was s t h x = tt
  moments (y ∷ ys) was s t h x = (moment_to was s x.0 y h x.1, subst (λ b. Moments d history gone b y.changed ys) x.1.book (moments ys y.changed x.0 t (kept_to was s x.0 y h x.1).invariant x.2))

  -- over rows for which the host has the invariant, with its history, its steps are a run without crashes
  module _ (ys : List Booked) (m : Rows) (now opened : ℕ) (t : State) (x : LeadsTo d None ys (opened_at m now opened) t) (h : InvariantAt None (opened_at m now opened)) where
    end_invariant : InvariantAt (last_changed None ys) t
    end_invariant = (kept_all ys None (opened_at m now opened) t h x).invariant

    book_is : t.core.book ≡ last_book [] ys
    book_is = sym (last_is ys None (opened_at m now opened) t x)

    run_so : IsPlainRun d history gone t.rows ys
    run_so =
        let k = kept_all ys None (opened_at m now opened) t h x in
        record {
          moments = moments ys None (opened_at m now opened) t h x;
          legal = subst (λ b. IsLegal d (history b)) book_is (legal_at (last_changed None ys) t k.invariant);
          bound = ap (λ b. starts_of (history b)) (sym book_is) ∙ lifts.starts t.core.book ∙ ap (λ z. starts_of (history []) ++ z) k.starts;
          replies = subst (λ b. TellOutcomes d (history b) (responses_in ys)) book_is (told_all ys None (opened_at m now opened) t h x);
          tables = subst (λ b. RowsStandFor d (later gone (last_changed None ys)) t.rows (history b)) book_is (stands_for (last_changed None ys) t k.invariant);
        }

    listing_so : (p : PlainState) → run_of d (history t.core.book) ≡ Some p → tables_text d t.rows ≡ listing_of d p
    listing_so p is = kept_listing d (lift t.core) t.rows p end_invariant.safe.has (to_history (λ b. run_of d b ≡ Some p) t is)

-- ---- rows that sessions left
module _ (laws : Laws) (d : Deployment) where
  -- a host that is opened over kept rows, behind the books that they are of
  abbrev OpensAt : Option ℕ → Core → Rows → Type 0
  OpensAt l c m = (g : IsSafe d c m) × Changed d l c m g.has

  opens : (l : Option ℕ) (c : Core) (m : Rows) (now : ℕ) (h : HasKept d c m) → Changed d l c m h → OpensAt l (behind c.book (opened_core m now)) m
  opens l c m now h so = (g.0, by_changed l so)
    where
      g : (g : IsSafe d (behind c.book (opened_core m now)) m) × (g.has.latest ≡ h.latest)
      g = opened_safe d c m h now

      by_changed : (l : Option ℕ) → Changed d l c m h → Changed d l (behind c.book (opened_core m now)) m g.0.has
      by_changed None so = (opened_upkept d c m now so.0, g.1 ∙ so.1)
      by_changed (Some l) so = subst (λ z. z ≤ l) (sym g.1) so

  begins : (now : ℕ) → OpensAt None (behind [] (opened_core map.empty now)) map.empty
  begins now = opens None (first_core 0 0) map.empty now (begins_kept d 0) (begins_upkept d 0, begins_early d 0)

  no_more : (l : Option ℕ) → later l None ≡ l
  no_more None = refl
  no_more (Some l) = refl

  reopens : {base : List Entry} {gone : Option ℕ} {m : Rows} → Left d base gone m → (now : ℕ) → OpensAt gone (behind base (opened_core m now)) m
  reopens no_session now = begins now
  reopens (one_more first gone k left before opened ys t x) now =
      let first_right = reopens left before in
      let begun : InvariantFor laws d (behind first) (joined first) (behind_lifts d first) gone None (opened_core k before) k = record { safe = first_right.0; so = subst (λ l. Changed d l (behind first (opened_core k before)) k first_right.0.has) (sym (no_more gone)) first_right.1 } in
      let right = end_invariant laws d (behind first) (joined first) (behind_lifts d first) gone ys k before opened t x begun in
      opens (later gone (last_changed None ys)) (behind first t.core) t.rows now right.safe.has right.so

pub plain_runs : EventsKeepSafe → KeptReplies → KeptOutcomes → SessionsArePlainRuns
plain_runs keep reply stay d ys m now opened t x = (
  λ none. run_so laws d (λ c. c) alone (first_lifts d) None ys m now opened t x (alone_invariant none),
  λ base gone left. let right = behind_invariant base gone left in (
    run_so laws d (behind base) (joined base) (behind_lifts d base) gone ys m now opened t x right,
    listing_so laws d (behind base) (joined base) (behind_lifts d base) gone ys m now opened t x right,
  ),
)
  where
    laws : Laws
    laws = record { keep = keep; reply = reply; stay = stay }

    alone_invariant : m ≡ map.empty → InvariantFor laws d (λ c. c) alone (first_lifts d) None None (opened_core m now) m
    alone_invariant none =
        let g = subst (λ (c : Core). OpensAt laws d None c map.empty) (behind_nothing (opened_core map.empty now)) (begins laws d now) in
        subst (λ z. InvariantFor laws d (λ c. c) alone (first_lifts d) None None (opened_core z now) z) (sym none) (record { safe = g.0; so = g.1 })

    behind_invariant : (base : List Entry) (gone : Option ℕ) → Left d base gone m → InvariantFor laws d (behind base) (joined base) (behind_lifts d base) gone None (opened_core m now) m
    behind_invariant base gone left =
        let g = reopens laws d left now in
        record { safe = g.0; so = subst (λ l. Changed d l (behind base (opened_core m now)) m g.0.has) (sym (no_more laws d gone)) g.1 }
