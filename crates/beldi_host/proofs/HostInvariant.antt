-- Why the calls of a host keep the invariant of it and its rows, and what they tell of the run of the book.
use Rattle.beldi_row.specs.declared.row.Row.TheVariants.{Intent}
use Rattle.beldi_book.specs.declared.entry.Entry.{Entry}
use Rattle.beldi_step.proofs.Prunes.{over_rows as pruned_over_rows}
use Rattle.beldi_kept.specs.Safe.{changes}
use Rattle.beldi_host.proofs.Names.{[], after_event, AllocError, answers_stay, AnswersStay, ap, arith, begins_early, begins_kept, begins_upkept, Body, BodyMatches, Bool, Core, Deployment, EndsLate, Err, Event, EventOn, EventsKeepSafe, expires, false, first_core, Gone, greatest, has_ended, HasKept, HasNoReply, HasNoRows, IfOk, IfSome, if◌then◌else◌, inl, inr, IntentMatches, is_gone, is_some, is_unknown, IsHighWater, IsLegal, IsSafe, IsSome, keeps_upkeep, kept_answers, kept_are_legal, kept_listing, kept_stand, key_cmp, latest_of, len-empty, len-entries, List, listing_of, max, nat_le, nat_lt, nat_tests, nil_from_length, None, Ok, one_answer, OneAnswerLess, OneAnswerPerStep, OnOk, opened_core, OpenErr, Option, Outcome, outcome_recorded, outcome_of, outcome_status, over_rows, PlainState, Pruned, Prunes, PrunesOn, prunings_keep_safe, prunings_keep_whole, Reads, refl, reply_of, reply_status, ReplyStatus, Result, Invariant, invariant_stands, root_key, root_of, Row, row_status, RowKey, Rows, RowsStandFor, RowsStandLess, run_of, safe_at_cursor, safe_at_first, IsStatusSo, same_run, EventReply, seen_by, Some, Stands, StandsLess, Stepped, subst, sym, tables_text, TableState, Tells, tells_map, true, Unknown, Upkeep, with_runs, ℕ, ◌&&◌, ◌++◌, ◌∙◌, ◌≡◌, ◌⊎◌}
use Rattle.beldi_host.proofs.Names.map

-- ---- what is told
if_told : {P Q : Rows → Type 0} (told : Option Rows) → ((m : Rows) → P m → Q m) → IfSome told P → IfSome told Q
if_told None f h = h
if_told (Some m) f h = f m h

-- what follows from what is told before and after
tells_so : {R : Rows → Rows → Type 0} (Z : Option Rows → Option Rows → Type 0) → Z None None → ((m n : Rows) → R m n → Z (Some m) (Some n)) → (before after : Option Rows) → Tells before after R → Z before after
tells_so Z none some None after h = subst (Z None) (sym h) none
tells_so Z none some (Some m) None h = absurd h
tells_so Z none some (Some m) (Some n) h = some m n h

-- ---- what a host with the invariant has
module _ (d : Deployment) (c : Core) (told : Option Rows) where
  pub legal_at : IfSome told (IsSafe d c) → IfSome told (λ m. IsLegal d c.book)
  legal_at h = if_told {P = IsSafe d c} {Q = λ m. IsLegal d c.book} told (λ m u. kept_are_legal d c m u.has) h

  pub stands_at : IfSome told (Upkeep d c) → RowsStandFor d c.book told
  stands_at h = if_told {P = Upkeep d c} {Q = λ m. (p : PlainState) → run_of d c.book ≡ Some p → Stands d m p} told (λ m u p is. invariant_stands d c m p u.invariant is) h

  pub stands_less_at : IfSome told (IsSafe d c) → RowsStandLess d c.book told
  stands_less_at h = if_told {P = IsSafe d c} {Q = λ m. (p : PlainState) → run_of d c.book ≡ Some p → (latest : ℕ) × StandsLess d latest m p} told (λ m u p is. (u.has.latest, kept_stand d c m p u.has is)) h

  pub one_answer_at : IfSome told (Upkeep d c) → IfSome told (λ m. (p : PlainState) → run_of d c.book ≡ Some p → OneAnswerPerStep d c m p)
  one_answer_at h = if_told {P = Upkeep d c} {Q = λ m. (p : PlainState) → run_of d c.book ≡ Some p → OneAnswerPerStep d c m p} told (λ m u p is. one_answer d c m p u.invariant is) h

  pub one_answer_less_at : IfSome told (IsSafe d c) → IfSome told (λ m. (p : PlainState) → run_of d c.book ≡ Some p → (latest : ℕ) × OneAnswerLess d c latest m p)
  one_answer_less_at h = if_told {P = IsSafe d c} {Q = λ m. (p : PlainState) → run_of d c.book ≡ Some p → (latest : ℕ) × OneAnswerLess d c latest m p} told (λ m u p is. (u.has.latest, kept_answers d c m p u.has is)) h

-- ---- where the intent collector stands is nothing that the invariant speaks of
pub at_cursor : (d : Deployment) (c : Core) (k : RowKey) (m : Rows) → Invariant d c m → Invariant d (record c { cursor = k }) m
at_cursor d c k m h = with_runs h (record c { cursor = k }) refl refl h.runs

kept_at_cursor : (d : Deployment) (c : Core) (k : RowKey) (m : Rows) → Upkeep d c m → Upkeep d (record c { cursor = k }) m
kept_at_cursor d c k m u = record { invariant = at_cursor d c k m u.invariant; seats = u.seats; owe = record { each = u.owe.each }; past = u.past; passes = record { each = u.passes.each }; near = record { soon = u.near.soon; near = u.near.near }; started = u.started }

pub moved_cursor : (d : Deployment) (c : Core) (k : RowKey) (told : Option Rows) → (IfSome told (IsSafe d c) → IfSome told (IsSafe d (record c { cursor = k }))) × (IfSome told (Upkeep d c) → IfSome told (Upkeep d (record c { cursor = k })))
moved_cursor d c k told = (if_told {P = IsSafe d c} {Q = IsSafe d (record c { cursor = k })} told (λ m h. (safe_at_cursor d c m h k).0), if_told {P = Upkeep d c} {Q = Upkeep d (record c { cursor = k })} told (kept_at_cursor d c k))

-- ---- the host after an event
module _ (d : Deployment) (e : Event) (c b : Core) (old new : TableState) (x : Result EventReply AllocError) (s : Stepped d e c b old new x) where
  abbrev On : Rows → Rows → Type 0
  On m n = EventOn d old.room old.faults new.faults e c m b n x

  pub event_stays : Tells old.rows new.rows AnswersStay
  event_stays = tells_map {P = On} {Q = AnswersStay} old.rows new.rows (λ m n h. answers_stay d old.room old.faults new.faults e c b m n x h) (over_rows d e c b old new x s)

  pub event_keeps : EventsKeepSafe → (k : Deployment) → k ≡ d → (IfSome old.rows (IsSafe d c) → IfSome new.rows (IsSafe k b)) × (IfSome old.rows (Upkeep d c) → IfSome new.rows (Upkeep k b))
  event_keeps keeps_safe k code = subst (λ (z : Deployment). (IfSome old.rows (IsSafe d c) → IfSome new.rows (IsSafe z b)) × (IfSome old.rows (Upkeep d c) → IfSome new.rows (Upkeep z b))) (sym code) (
    tells_so {R = On} (λ o u. IfSome o (IsSafe d c) → IfSome u (IsSafe d b)) (λ h. tt) (λ m n h u. (keeps_safe d old.room old.faults new.faults e c b m n x u h).0) old.rows new.rows (over_rows d e c b old new x s),
    tells_so {R = On} (λ o u. IfSome o (Upkeep d c) → IfSome u (Upkeep d b)) (λ h. tt) (λ m n h u. keeps_upkeep d old.room old.faults new.faults e c b m n x u h) old.rows new.rows (over_rows d e c b old new x s),
  )

  -- no ticket is answered gone
  pub never_gone : IsSome old.rows → IfSome old.rows (Upkeep d c) → IfOk x (λ y. is_gone y ≡ false)
  never_gone = tells_so {R = On} (λ o u. IsSome o → IfSome o (Upkeep d c) → IfOk x (λ y. is_gone y ≡ false)) (λ some. let clash : false ≡ true = some in cc)
      (λ m n h some u. answered x (after_event d old.room old.faults new.faults e c b m n x u.invariant h).there) old.rows new.rows (over_rows d e c b old new x s)
    where
      answered : (y : Result EventReply AllocError) → is_gone (seen_by y) ≡ false → IfOk y (λ z. is_gone z ≡ false)
      answered (Ok z) h = h
      answered (Err w) h = tt

  pub ends_late : EndsLate e c b old new x
  ends_late i run few unshut of is past = expires d e c b old new x i run s few unshut of is past

-- ---- the host after a turn of a log collector
module _ (d : Deployment) (k : ℕ) (c b : Core) (old new : TableState) (x : Result Pruned AllocError) (s : Prunes d k c b old new x) (l : Deployment) (code : l ≡ d) where
  abbrev Pruned_on : Rows → Rows → Type 0
  Pruned_on m n = PrunesOn d old.faults new.faults k c m b n x

  pub pruning_keeps : IfSome old.rows (IsSafe d c) → IfSome new.rows (IsSafe l b)
  pruning_keeps = subst (λ (z : Deployment). IfSome old.rows (IsSafe d c) → IfSome new.rows (IsSafe z b)) (sym code)
      (tells_so {R = Pruned_on} (λ o u. IfSome o (IsSafe d c) → IfSome u (IsSafe d b)) (λ h. tt) (λ m n h u. (prunings_keep_safe d old.faults new.faults k c b m n x u h).0) old.rows new.rows (pruned_over_rows d k c b old new x s))

  -- where it changed no row, all rows are there that were
  pub pruning_keeps_whole : IfSome old.rows (Upkeep d c) → IfOk x (λ y. changes y ≡ false) → IfSome new.rows (Upkeep l b)
  pruning_keeps_whole h none = subst (λ (z : Deployment). IfSome new.rows (Upkeep z b)) (sym code)
      (tells_so {R = Pruned_on} (λ o u. IfSome o (Upkeep d c) → IfSome u (Upkeep d b)) (λ h. tt) (λ m n h u. prunings_keep_whole d old.faults new.faults k c b m n x h none u) old.rows new.rows (pruned_over_rows d k c b old new x s) h)

-- ---- a host that was opened over no rows
no_entries : map.entries (map.empty {X = Row} {R = key_cmp}) ≡ []
no_entries = nil_from_length (map.entries (map.empty {X = Row} {R = key_cmp})) (sym (len-entries (map.empty {X = Row} {R = key_cmp})) ∙ len-empty key_cmp Row)

begins_whole : (d : Deployment) (now : ℕ) (m : Rows) → m ≡ map.empty → Upkeep d (opened_core m now) m
begins_whole d now m none = subst (λ (y : Rows). Upkeep d (opened_core y now) y) (sym none) (subst (λ (k : ℕ). Upkeep d (first_core k (max now (latest_of map.empty))) map.empty) (sym (ap greatest no_entries)) (begins_upkept d (max now (latest_of map.empty))))

pub begins_with_invariant : (d : Deployment) (now : ℕ) (m : Rows) → m ≡ map.empty → Invariant d (opened_core m now) m
begins_with_invariant d now m none = (begins_whole d now m none).invariant

-- .. and with the invariant, where nobody was old
abbrev IsEarly : Deployment → Core → Rows → Type 0
IsEarly d c m = (g : IsSafe d c m) × (g.has.latest ≡ 0)

pub begins_safe : (d : Deployment) (now : ℕ) (m : Rows) → m ≡ map.empty → (g : IsSafe d (opened_core m now) m) × (g.has.latest ≡ 0)
begins_safe d now m none =
    let t = max now (latest_of map.empty) in
    let g = safe_at_first d (first_core 0 t) map.empty (begins_kept d t) refl in
    subst (λ (y : Rows). IsEarly d (opened_core y now) y) (sym none) (subst (λ (k : ℕ). IsEarly d (first_core k t) map.empty) (sym (ap greatest no_entries)) (g.0, ap (λ z. z.latest) g.1 ∙ begins_early d t))

-- by what was found in the rows
pub opened_rows : (c : Core) (t u now : ℕ) (before after : Option Rows) → c ≡ first_core t (max now u) → Tells before after (λ m n. (n ≡ m) × IsHighWater m t u) → Tells before after (λ m n. (n ≡ m) × (c ≡ opened_core m now))
opened_rows c t u now before after core = tells_map {P = λ m n. (n ≡ m) × IsHighWater m t u} {Q = λ m n. (n ≡ m) × (c ≡ opened_core m now)} before after (λ m n h. (h.0, core ∙ (λ i. first_core (h.1.newest i) (max now (h.1.latest i)))))

pub opened : (d : Deployment) (c : Core) (now : ℕ) (before after : Option Rows) → Tells before after (λ m n. (n ≡ m) × (c ≡ opened_core m now)) → HasNoRows before → IfSome after (IsSafe d c) × IfSome after (Upkeep d c)
opened d c now before after = tells_so {R = λ m n. (n ≡ m) × (c ≡ opened_core m now)} (λ o u. HasNoRows o → IfSome u (IsSafe d c) × IfSome u (Upkeep d c)) (λ h. (tt, tt))
    (λ m n t none. subst (λ z. IsSafe d c z × Upkeep d c z) (sym t.0) (subst (λ (z : Core). IsSafe d z m × Upkeep d z m) (sym t.1) ((begins_safe d now m none).0, begins_whole d now m none))) before after

-- ---- the listing
pub listed : (d : Deployment) (c : Core) (text longer : List ℕ) (old new : TableState) (x : Result (Unit {0}) OpenErr) → Reads (λ m u. longer ≡ text ++ tables_text d m) old new x
    → IfSome old.rows (IsSafe d c) → OnOk x (IfSome old.rows (λ m. (p : PlainState) → run_of d c.book ≡ Some p → longer ≡ text ++ listing_of d p))
listed d c text longer old new (Err w) s h = tt
listed d c text longer old new (Ok u) s h = tells_so {R = λ m n. (n ≡ m) × (longer ≡ text ++ tables_text d m)}
    (λ o u. IfSome o (IsSafe d c) → IfSome o (λ m. (p : PlainState) → run_of d c.book ≡ Some p → longer ≡ text ++ listing_of d p)) (λ h. tt)
    (λ m n t u p is. t.1 ∙ ap (λ z. text ++ z) (kept_listing d c m p u.has is)) old.rows new.rows s.rows h

-- ---- a reply
issued_if : (t n : ℕ) → is_unknown n t ≡ false → (nat_lt 0 t && nat_le t n) ≡ true
issued_if t n h = grind (arith, nat_tests)

not_issued_if : (t n : ℕ) → is_unknown n t ≡ true → (nat_lt 0 t && nat_le t n) ≡ false
not_issued_if t n h = grind (arith, nat_tests)

not_there : (r : Option Row) → is_some r ≡ false → r ≡ None
not_there None h = refl
not_there (Some r) h = cc

module _ (d : Deployment) (c : Core) (m : Rows) (h : Invariant d c m) (t : ℕ) where
  no_reply : reply_of h.plain t ≡ None → HasNoReply d c.book t
  no_reply none p is = subst (λ (q : PlainState). reply_of q t ≡ None) (same_run d c m p h is) none

  -- a reply that is known is the plain one
  reply_recorded : reply_of h.plain t ≡ outcome_of (map.get h.histories (root_of t))
  reply_recorded = sym (outcome_recorded d h.plain h.histories h.extends (root_of t) (λ k is. (h.well_formed.roots t k is).1))

  absent : map.get m (root_key t) ≡ None → HasNoReply d c.book t
  absent is = no_reply (reply_recorded ∙ ap outcome_of (subst (λ (r : Option Row). IntentMatches (has_ended d h.histories) true 0 r (map.get h.histories (root_of t))) is (h.rows.keys (root_key t))))

  by_body : (b : Option Body) (o : Option Outcome) → (b ≡ None → o ≡ None) → BodyMatches b o (map.get h.histories (root_of t)) → IsStatusSo d c.book t (outcome_status o)
  by_body None None bare root = no_reply (reply_recorded ∙ ap outcome_of root)
  by_body None (Some o) bare root = let clash = bare refl in cc
  by_body (Some b) None bare root = no_reply (reply_recorded ∙ ap outcome_of root.0.made ∙ root.1)
  by_body (Some b) (Some o) bare root = record { run = h.plain; legal = h.legal; reply = reply_recorded ∙ ap outcome_of root.0.made ∙ root.1 }

  by_row : (r : Option Row) → is_some r ≡ true → IntentMatches (has_ended d h.histories) true 0 r (map.get h.histories (root_of t)) → IsStatusSo d c.book t (row_status r)
  by_row None there root = cc
  by_row (Some (Intent i)) there root = by_body i.body i.outcome root.bare root.body
  by_row (Some r) there root = absurd root

  by_ticket : (b : Bool) → is_unknown c.newest t ≡ b → IsStatusSo d c.book t (if b then Unknown else row_status (map.get m (root_key t)))
  by_ticket true is = absent (not_there (map.get m (root_key t)) (h.tickets t ∙ not_issued_if t c.newest is))
  by_ticket false is = by_row (map.get m (root_key t)) (h.tickets t ∙ issued_if t c.newest is) (h.rows.keys (root_key t))

  pub status_so : IsStatusSo d c.book t (reply_status c.newest t m)
  status_so = by_ticket (is_unknown c.newest t) refl

-- .. by the rows that are left: where that of the ticket is gone, nothing is said
by_left : (d : Deployment) (book : List Entry) (t : ℕ) (unknown : Bool) (o p : Option Row) → (o ≡ p) ⊎ (o ≡ None) → IsStatusSo d book t (if unknown then Unknown else row_status p) → IsStatusSo d book t (if unknown then Unknown else row_status o)
by_left d book t true o p is said = said
by_left d book t false o p (inl same) said = subst (λ (z : Option Row). IsStatusSo d book t (row_status z)) (sym same) said
by_left d book t false o p (inr none) said = subst (λ (z : Option Row). IsStatusSo d book t (row_status z)) (sym none) tt

pub status_less : (d : Deployment) (c : Core) (m : Rows) → HasKept d c m → (t : ℕ) → IsStatusSo d c.book t (reply_status c.newest t m)
status_less d c m h t = elim (h.less.rows (root_key t) refl) [
  | inl same ↦ by_row (inl same)
  | inr off ↦ by_row (inr off.0)
]
  where
    by_row : (map.get m (root_key t) ≡ map.get h.kept (root_key t)) ⊎ (map.get m (root_key t) ≡ None) → IsStatusSo d c.book t (reply_status c.newest t m)
    by_row left = by_left d c.book t (is_unknown c.newest t) (map.get m (root_key t)) (map.get h.kept (root_key t)) left (status_so d c h.kept h.upkeep.invariant t)

pub said : (d : Deployment) (c : Core) (t : ℕ) (old new : TableState) (x : Result ReplyStatus OpenErr)
    → Reads (λ m y. y ≡ reply_status c.newest t m) old new x → IfSome old.rows (IsSafe d c) → IfOk x (λ y. IfSome old.rows (λ m. IsStatusSo d c.book t y))
said d c t old new (Err w) s h = tt
said d c t old new (Ok y) s h = tells_so {R = λ m n. (n ≡ m) × (y ≡ reply_status c.newest t m)} (λ o u. IfSome o (IsSafe d c) → IfSome o (λ m. IsStatusSo d c.book t y)) (λ h. tt)
    (λ m n z u. subst (λ (r : ReplyStatus). IsStatusSo d c.book t r) (sym z.1) (status_less d c m u.has t)) old.rows new.rows s.rows h

-- ---- where no log collector changed a row, the row of a ticket that was issued is there
outcome_there : (o : Option Outcome) → outcome_status o ≡ Gone → ⊥
outcome_there None is = cc
outcome_there (Some o) is = cc

row_there : (r : Option Row) → is_some r ≡ true → row_status r ≡ Gone → ⊥
row_there None there is = cc
row_there (Some (Intent i)) there is = outcome_there i.outcome is
row_there (Some r) there is = cc

pub reply_there : (d : Deployment) (c : Core) (m : Rows) → Invariant d c m → (t : ℕ) → reply_status c.newest t m ≡ Gone → ⊥
reply_there d c m h t is = by_ticket (is_unknown c.newest t) refl is
  where
    by_ticket : (b : Bool) → is_unknown c.newest t ≡ b → (if b then Unknown else row_status (map.get m (root_key t))) ≡ Gone → ⊥
    by_ticket true histories is = cc
    by_ticket false histories is = row_there (map.get m (root_key t)) (h.tickets t ∙ issued_if t c.newest histories) is

pub not_gone : (d : Deployment) (c : Core) (t : ℕ) (old new : TableState) (x : Result ReplyStatus OpenErr)
    → Reads (λ m y. y ≡ reply_status c.newest t m) old new x → IsSome old.rows → IfSome old.rows (Upkeep d c) → IfOk x (λ y. y ≡ Gone → ⊥)
not_gone d c t old new (Err w) s some h = tt
not_gone d c t old new (Ok y) s some h = tells_so {R = λ m n. (n ≡ m) × (y ≡ reply_status c.newest t m)} (λ o u. IsSome o → IfSome o (Upkeep d c) → y ≡ Gone → ⊥) (λ some. let clash : false ≡ true = some in cc)
    (λ m n z some u is. reply_there d c m u.invariant t (sym z.1 ∙ is)) old.rows new.rows s.rows some h
