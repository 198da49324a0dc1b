-- The decision: its row is added, at the step of Begin. No item expects more, and no owner changes.
use Rattle.beldi_histories.proofs.Names.{Answer, AnswersOne, Bool, Deployment, Effect, Instance, IntentId, Item, Kind, Histories, LockedOut, LocksetMatches, Matches, None, Option, Outcome, Place, Row, Rows, Some, TxId, Value, and_right, ap, arith, asks_lock, begins_at, commit_in, content_of, effect_after, effect_of, end_of, ended_at, ended_by, eqb-true, false, got_before, got_by, held_if, holds, id_cmp, if◌then◌else◌, is_aborted, is_at, is_decided, is_eq, is_item, is_mark, is_none, is_on, is_open, is_some, is_tx, key_cmp, last_step, length, lockset_ahead, log_key, none_by, not, note_by, op_of, or_from, or_left, or_parts, expected_lockset, expected_note, place_of, refl, row_added, set_row, shadow_by, shadow_of, subst, sym, touched, true, tx_end, tx_now, txs_after, txs_by, ℕ, ◌&&◌, ◌==◌, ◌||◌, ◌∙◌, ◌≡◌}
use Rattle.beldi_histories.proofs.FrameAt.{recorded_set, read_here, holds_one, note_same, got_one, lockset_one, item_alike, txs_alike, lockset_by, none_out}
use Rattle.beldi_histories.proofs.{Frame.step_next, Frame.no_note, Frame.no_shadow, Frame.or_false, Pending.row_by, Pending.shadow_kept, Pending.read_elsewhere, Pending.tx_end_stays, Acts.log_set, Cases.by_cases, Cases.if_is}
use Rattle.beldi_histories.proofs.Names.map

module _ (d : Deployment) (histories : Histories) (lock_ahead : IntentId → Bool) (id : IntentId) (q r : Instance) (a : Answer) (is : map.get histories id ≡ Some q) (one : AnswersOne d id q a r) (unlocked : lock_ahead id ≡ false)
    (c : Bool) (ends : effect_of d q ≡ Effect.End c) (b : ℕ) (begun : (txs_after d q q.answers).begun ≡ Some b)
    -- nobody else that can step is in it
    (alone : (j : IntentId) (z : Instance) (t : TxId) → map.get histories j ≡ Some z → is_eq (id_cmp j id) ≡ false → z.outcome ≡ None → tx_now d j z ≡ Some t → t.intent ≡ id → t.begin ≡ b → ⊥) where
  abbrev after : Histories
  after = map.insert histories id r

  out : LockedOut lock_ahead lock_ahead id
  out = none_out lock_ahead id unlocked

  added : row_added (length q.answers) (txs_after d q q.answers).begun (effect_of d q) a ≡ Some (b, Value.Bool c)
  added = ap (λ o. row_added (length q.answers) o (effect_of d q) a) begun ∙ ap (λ e. row_added (length q.answers) (Some b) e a) ends

  no_note_here : (x : Item) → note_by x q.func (tx_now d id q) (effect_of d q) a ≡ None
  no_note_here x = ap (λ e. note_by x q.func (tx_now d id q) e a) ends ∙ no_note x q.func (tx_now d id q) (Effect.End c) a refl refl

  asks_none : (f : ℕ) (x : Item) → asks_lock f x q.func (tx_now d id q) (effect_of d q) ≡ false
  asks_none f x = ap (λ e. begins_at f (tx_now d id q) && is_item x q.func (touched e)) ends ∙ and_right (begins_at f (tx_now d id q)) false refl

  -- no item expects more
  notes_same : (x : Item) (y : Place) → expected_note d x y.intent (lock_ahead y.intent) y.step (map.get after y.intent) ≡ expected_note d x y.intent (lock_ahead y.intent) y.step (map.get histories y.intent)
  notes_same x y = note_same d histories id q r a is one lock_ahead lock_ahead out x (no_note_here x) unlocked y

  -- nothing more is got
  got_same : (t : TxId) (x : Item) (j : IntentId) → got_by d t x j (lock_ahead j) (map.get after j) ≡ got_by d t x j (lock_ahead j) (map.get histories j)
  got_same t x = got_one d histories id q r a is one lock_ahead lock_ahead out t x (λ j u. u ≡ got_by d t x j (lock_ahead j) (map.get histories j))
      (or_false (got_before d t x id q) (is_on t x q.func (tx_now d id q) (effect_of d q) && not (is_aborted a)) (ap (λ u. u && not (is_aborted a)) no_on)
      ∙ sym (ap (got_by d t x id (lock_ahead id)) is ∙ or_false (got_before d t x id q) (lock_ahead id && is_on t x q.func (tx_now d id q) (effect_of d q)) (ap (λ u. u && is_on t x q.func (tx_now d id q) (effect_of d q)) unlocked)))
      (λ j other. refl)
    where
      no_on : is_on t x q.func (tx_now d id q) (effect_of d q) ≡ false
      no_on = ap (λ e. is_tx t (tx_now d id q) && is_item x q.func (touched e)) ends ∙ and_right (is_tx t (tx_now d id q)) false refl

  -- what is open afterwards was open
  pub still_open : (t : TxId) → tx_end d after t ≡ None → tx_end d histories t ≡ None
  still_open t h = none_by (tx_end d histories t) (λ z e. let k = sym h ∙ tx_end_stays d histories lock_ahead lock_ahead id q r a is one out t z e in cc)

  decided_stays : (t : Option TxId) → is_decided d after t ≡ false → is_decided d histories t ≡ false
  decided_stays None h = refl
  decided_stays (Some t) h = ap is_some (still_open t (none_by (tx_end d after t) (λ z e. let k = sym h ∙ ap is_some e in cc)))

  marks_stay : (y : Place) → is_mark d after y.step (map.get after y.intent) ≡ false → is_mark d histories y.step (map.get histories y.intent) ≡ false
  marks_stay y = recorded_set histories id r (λ j o. is_mark d after y.step o ≡ false → is_mark d histories y.step (map.get histories j) ≡ false)
      (λ h. let e = or_parts (is_some (ended_at d r y.step)) (is_decided d after r.enclosing && (y.step == last_step)) h in
      ap (is_mark d histories y.step) is ∙ or_from (is_some (ended_at d q y.step)) (is_decided d histories q.enclosing && (y.step == last_step)) (at_end y.step e.0) (and_stays r.enclosing q.enclosing one.enclosing (y.step == last_step) e.1))
      (λ j other. elsewhere (map.get histories j)) y.intent
    where
      and_stays : (t w : Option TxId) → t ≡ w → (v : Bool) → (is_decided d after t && v) ≡ false → (is_decided d histories w && v) ≡ false
      and_stays t w same v = fewer (is_decided d after t) (is_decided d histories w) v (λ e. ap (is_decided d histories) (sym same) ∙ decided_stays t e)
        where
          fewer : (b c v : Bool) → (b ≡ false → c ≡ false) → (b && v) ≡ false → (c && v) ≡ false
          fewer b c v f g = grind arith

      at_end : (k : ℕ) → is_some (ended_at d r k) ≡ false → is_some (ended_at d q k) ≡ false
      at_end k h = by_cases (k == length q.answers) (λ e. ap is_some (subst (λ n. ended_at d q n ≡ None) (sym (eqb-true k (length q.answers) e)) (step_next (λ ts u. commit_in (effect_after d q ts)) q.answers)))
          (λ e. sym (ap is_some (one.marks k) ∙ ap (λ u. is_some (if u then commit_in (effect_of d q) else ended_at d q k)) e) ∙ h)

      elsewhere : (o : Option Instance) → is_mark d after y.step o ≡ false → is_mark d histories y.step o ≡ false
      elsewhere None h = refl
      elsewhere (Some z) h = let e = or_parts (is_some (ended_at d z y.step)) (is_decided d after z.enclosing && (y.step == last_step)) h in
          or_from (is_some (ended_at d z y.step)) (is_decided d histories z.enclosing && (y.step == last_step)) e.0 (and_stays z.enclosing z.enclosing refl (y.step == last_step) e.1)

  -- all other transactions are as before
  tx_end_apart : (t : TxId) → (t.intent ≡ id → t.begin ≡ b → ⊥) → tx_end d after t ≡ tx_end d histories t
  tx_end_apart t apart = recorded_set histories id r (λ j o. t.intent ≡ j → ended_by d t.begin o ≡ ended_by d t.begin (map.get histories j))
      (λ own. one.ends t.begin ∙ ap (λ e. (txs_by (length q.answers) e (txs_after d q q.answers)).ends t.begin) ends
      ∙ ap (λ o. if is_at t.begin o then Some (length q.answers, c) else end_of d q t.begin) begun ∙ if_is (t.begin == b) (λ e. absurd (apart own (eqb-true t.begin b e))) (λ e. refl) ∙ ap (ended_by d t.begin) (sym is))
      (λ j other own. refl) t.intent refl

  -- a lockset row that is ahead is of another transaction
  expected_same : (f : ℕ) (x : Item) (j : IntentId) → expected_lockset d f x j (map.get after j) ≡ expected_lockset d f x j (map.get histories j)
  expected_same f x j = lockset_one d histories id q r a is one f x j ∙ ap (λ u. expected_lockset d f x j (map.get histories j) || (is_eq (id_cmp j id) && u)) (asks_none f x) ∙ or_false (expected_lockset d f x j (map.get histories j)) _ (and_right (is_eq (id_cmp j id)) false refl)

  ahead_apart : (f : ℕ) (x : Item) (j : IntentId) → is_eq (id_cmp j id) ≡ false → (o : Option Instance) → map.get histories j ≡ o → lockset_ahead d after f x j o ≡ lockset_ahead d histories f x j o
  ahead_apart f x j other None at = refl
  ahead_apart f x j other (Some z) at = by_outcome z.outcome refl
    where
      by_tx : z.outcome ≡ None → (t : Option TxId) → tx_now d j z ≡ t → is_open d after t ≡ is_open d histories t
      by_tx none None e = refl
      by_tx none (Some t) e = ap (λ u. not (is_some u)) (tx_end_apart t (alone j z t at other none e))

      by_outcome : (o : Option Outcome) → z.outcome ≡ o → (is_none o && (is_open d after (tx_now d j z) && (begins_at f (tx_now d j z) && is_item x z.func (touched (effect_of d z)))))
          ≡ (is_none o && (is_open d histories (tx_now d j z) && (begins_at f (tx_now d j z) && is_item x z.func (touched (effect_of d z)))))
      by_outcome None e = ap (λ u. u && (begins_at f (tx_now d j z) && is_item x z.func (touched (effect_of d z)))) (by_tx e (tx_now d j z) refl)
      by_outcome (Some w) e = refl

  locksets_same : (f : ℕ) (x : Item) (j : IntentId) (row : Option Row) → LocksetMatches row (expected_lockset d f x j (map.get histories j)) (lockset_ahead d histories f x j (map.get histories j))
      → LocksetMatches row (expected_lockset d f x j (map.get after j)) (lockset_ahead d after f x j (map.get after j))
  locksets_same f x j row = lockset_by d histories after lock_ahead lock_ahead x f j row (λ e g. expected_same f x j ∙ g) (λ e g. ap (λ u. u || lockset_ahead d after f x j (map.get after j)) (expected_same f x j)
      ∙ recorded_set histories id r (λ i o. (expected_lockset d f x i (map.get histories i) || lockset_ahead d histories f x i (map.get histories i)) ≡ true → (expected_lockset d f x i (map.get histories i) || lockset_ahead d after f x i o) ≡ true)
      (λ k. or_left (expected_lockset d f x id (map.get histories id)) (lockset_ahead d after f x id (Some r)) (sym (ap (λ o. expected_lockset d f x id (map.get histories id) || lockset_ahead d histories f x id o) is ∙ or_false (expected_lockset d f x id (map.get histories id)) (lockset_ahead d histories f x id (Some q)) not_ahead) ∙ k))
      (λ i other k. ap (λ u. expected_lockset d f x i (map.get histories i) || u) (ahead_apart f x i other (map.get histories i) refl) ∙ k) j g)
    where
      not_ahead : lockset_ahead d histories f x id (Some q) ≡ false
      not_ahead = ap (λ e. is_none q.outcome && (is_open d histories (tx_now d id q) && (begins_at f (tx_now d id q) && is_item x q.func (touched e)))) ends ∙ and_right (is_none q.outcome) _ (and_right (is_open d histories (tx_now d id q)) _ (and_right (begins_at f (tx_now d id q)) false refl))

  pub decided : (m : Rows) → Matches d m histories lock_ahead → Matches d (set_row m (log_key q.func (place_of id b)) (Some (Row.ReadLog (Value.Bool c)))) after lock_ahead
  decided m h = let k = log_key q.func (place_of id b) in
      log_set d after lock_ahead m k (Some (Row.ReadLog (Value.Bool c))) refl (subst (λ z. z ≡ Some (Value.Bool c)) (sym (read_here d histories id q r a is one b (Value.Bool c) added)) refl)
      (λ l other. row_by d histories lock_ahead lock_ahead id q r a is one out l.home l.kind (map.get m l) (λ y kind. read_elsewhere d histories lock_ahead lock_ahead id q r a is one out b (Value.Bool c) added l.home y (subst (λ (z : Kind). is_eq (key_cmp (record { home = l.home; kind = z }) k) ≡ false) kind other))
      (λ j f t z kind. locksets_same f (record { func = l.home; table = t; key = z }) j (map.get m l)) (h.keys l)) h.chains h.asides
      (λ x. item_alike d histories after lock_ahead lock_ahead x (holds_one d histories id q r a is one x (λ j u. u ≡ holds d x (map.get histories j)) (ap (λ e. held_if x q.func (op_of e) (holds d x (map.get histories id))) ends) (λ j other. refl)) marks_stay (notes_same x) (content_of m x) (h.items x))
      (λ t x. shadow_kept d histories lock_ahead lock_ahead id q r a is one out t x (shadow_of m t x) (ap (λ e. shadow_by t x q.func (tx_now d id q) e a) ends ∙ no_shadow t x q.func (tx_now d id q) (Effect.End c) a refl) (h.shadows t x))
      (λ x. txs_alike d histories after lock_ahead lock_ahead x (λ t. got_same t x) still_open (content_of m x).owner (h.txs x))
