-- At the front nothing of the next step is there, but a lock that is ahead.
use Rattle.beldi_histories.proofs.Names.{Bool, Deployment, Instance, IntentId, Item, Histories, LogMatches, Matches, None, Option, Place, Rows, Some, TxId, ahead_by, ap, arith, at_step, commit_in, content_of, decision_by, effect_after, effect_of, eq-eqb, false, fits, if◌then◌else◌, is_item, is_mark, last_step, length, log_key, note_at, note_by, note_or, expected_note, expected_shadow, expected_value, place_of, read_at, refl, row_at, shadow_by, shadow_of, slice_get, subst, take, touched, true, tx_after, tx_now, txs_after, value_for, value_or, ℕ, ◌<◌, ◌==◌, ◌∙◌, ◌≡◌, Note}
use Rattle.beldi_histories.proofs.{Frame.step_next, Frame.begins, Behind.no_log, FrameAt.no_mark_at, FrameAt.none_ahead}
use Rattle.beldi_histories.proofs.Names.map

module _ (d : Deployment) (m : Rows) (histories : Histories) (lock_ahead : IntentId → Bool) (h : Matches d m histories lock_ahead) (id : IntentId) (q : Instance) (is : map.get histories id ≡ Some q) where
  abbrev n : ℕ
  n = length q.answers

  abbrev p : Place
  p = place_of id n

  at_log : (k : ℕ) → row_at d q k ≡ None → map.get m (log_key q.func (place_of id k)) ≡ None
  at_log k none = no_log (map.get m (log_key q.func (place_of id k))) (subst (LogMatches (map.get m (log_key q.func (place_of id k)))) (ap (expected_value d q.func k) is ∙ ap (λ b. if b then row_at d q k else None) (eq-eqb q.func q.func refl) ∙ none) (h.keys (log_key q.func (place_of id k))))

  -- a read's row is not there
  pub no_row : map.get m (log_key q.func p) ≡ None
  no_row = at_log n (ap (λ o. value_or (decision_by o) (read_at d q n)) ((fits d q).fresh n (omega arith)) ∙ step_next (λ ts a. value_for (effect_after d q ts) a) q.answers)

  -- nor that of the decision, while its Begin is open
  pub no_decision : (b : ℕ) → (txs_after d q q.answers).begun ≡ Some b → map.get m (log_key q.func (place_of id b)) ≡ None
  no_decision b begun = at_log b (ap (λ o. value_or (decision_by o) (read_at d q b)) ((fits d q).not_ended b begun) ∙ by_answer (slice_get q.answers b))
    where
      by_answer : (o : Option _) → at_step (λ ts a. value_for (effect_after d q ts) a) (take b q.answers) o ≡ None
      by_answer None = refl
      by_answer (Some a) = ap (λ e. value_for e a) ((begins d q q.answers).begun b begun)

  -- nor a note in a shadow
  pub no_shadow_note : (t : TxId) (x : Item) → note_at (shadow_of m t x).notes p ≡ None
  no_shadow_note t x = h.shadows t x p ∙ ap (expected_shadow d t x id n) is ∙ step_next (λ ts a. shadow_by t x q.func (tx_after d id q ts) (effect_after d q ts) a) q.answers

  module _ (short : n < last_step) where
    no_mark : is_mark d histories n (map.get histories id) ≡ false
    no_mark = no_mark_at d histories id q n is short (step_next (λ ts a. commit_in (effect_after d q ts)) q.answers)

    -- of a plain item it has the note of the lock that is ahead, and no other
    pub note_is_ahead : (x : Item) → note_at (content_of m x).notes p ≡ ahead_by x q.func (tx_now d id q) (effect_of d q) (lock_ahead id)
    note_is_ahead x = (h.items x).notes p no_mark ∙ ap (expected_note d x id (lock_ahead id) n) is
        ∙ ap (λ z. note_or z (if n == n then ahead_by x q.func (tx_now d id q) (effect_of d q) (lock_ahead id) else None)) (step_next (λ ts a. note_by x q.func (tx_after d id q ts) (effect_after d q ts) a) q.answers)
        ∙ ap (λ b. note_or None (if b then ahead_by x q.func (tx_now d id q) (effect_of d q) (lock_ahead id) else None)) (eq-eqb n n refl)

    pub no_note : (x : Item) → lock_ahead id ≡ false → note_at (content_of m x).notes p ≡ None
    no_note x out = note_is_ahead x ∙ ap (ahead_by x q.func (tx_now d id q) (effect_of d q)) out ∙ none_ahead x q.func (tx_now d id q) (effect_of d q)

    -- a further run at the front finds the lock
    pub lock_is_there : (x : Item) (s : TxId) → tx_now d id q ≡ Some s → is_item x q.func (touched (effect_of d q)) ≡ true → lock_ahead id ≡ true → note_at (content_of m x).notes p ≡ Some Note.Got
    lock_is_there x s inside on was = note_is_ahead x ∙ ap (ahead_by x q.func (tx_now d id q) (effect_of d q)) was ∙ ap (λ t. ahead_by x q.func t (effect_of d q) true) inside ∙ ap (λ b. if b then Some Note.Got else None) on
