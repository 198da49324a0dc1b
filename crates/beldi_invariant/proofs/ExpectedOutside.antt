-- What the rows have of a step outside transactions: what its answer expects, or nothing where it has none.
use Rattle.std.specs.Prelude.{take}
use Rattle.beldi_invariant.proofs.Names.{Answer, Bool, ChangedAlone, Content, Deployment, DoneRows, Effect, Instance, IntentId, IsAside, IsFreeFor, IsLinkedItem, Item, ItemMatches, Histories, List, LogMatches, Matches, None, Note, Operation, Option, Place, PlainState, Rows, ShadowMatches, Some, TxsMatch, Value, [], ahead_by, answered_note, ap, append-nil, arith, at_step, begins, by_item, cell_of, chains_alone, commit_in, cond, content, content_of, decision_by, decision_key, does_so, effect_after, effect_before, effect_of, end_of, eq-eqb, eq_by_cmp_equiv, eqb-true, false, free_after, head_key, if◌then◌else◌, is_decided, is_eq, is_mark, is_some, item_total, keys_alone, last_step, length, listed, lists_same, log_key, no_tx, none_by, note_at, note_by, note_of, note_or, op_of, or_none, or_null, or_old, other_item, other_key, other_shadows, expected_note, expected_value, own_value, place_of, plain_set, read_at, refl, row_at, set_if, sets, slice_get, subst, sym, take_front, tied_itself, true, tx_after, tx_at, tx_now, unbarred, value_at, value_for, value_or, ℕ, ◌&&◌, ◌==◌, ◌||◌, ◌∙◌, ◌≡◌}
use Rattle.beldi_invariant.proofs.Outside.{is_of_tx}
use Rattle.beldi_invariant.proofs.Names.map

-- the note and the value of an answer, if there is one
abbrev pub note_if : Item → ℕ → Effect → Option Answer → Option Note
note_if x func e None = None
note_if x func e (Some a) = note_of x func (op_of e) a

abbrev pub value_if : Effect → Option Answer → Option Value
value_if e None = None
value_if e (Some a) = value_for e a

pub no_end : (e : Effect) → is_of_tx e ≡ false → commit_in e ≡ None
no_end e h = grind arith

module _ (d : Deployment) (m : Rows) (histories : Histories) (lock_ahead : IntentId → Bool) (h : Matches d m histories lock_ahead) (id : IntentId) (q : Instance) (is : map.get histories id ≡ Some q) (n : ℕ) where
  -- a read's row
  pub read_there : (t : ℕ) (k : List ℕ) → effect_before d q n ≡ Effect.Read t k → LogMatches (map.get m (log_key q.func (place_of id n))) (value_if (Effect.Read t k) (slice_get q.answers n))
  read_there t k wants = subst (LogMatches (map.get m (log_key q.func (place_of id n))))
      (ap (expected_value d q.func n) is ∙ ap (λ b. if b then row_at d q n else None) (eq-eqb q.func q.func refl) ∙ ap (λ o. value_or (decision_by o) (read_at d q n)) no_decision ∙ by_answer (slice_get q.answers n) ∙ ap (λ e. value_if e (slice_get q.answers n)) wants)
      (h.keys (log_key q.func (place_of id n)))
    where
      no_decision : end_of d q n ≡ None
      no_decision = none_by (end_of d q n) (λ z e. let clash = sym wants ∙ (begins d q q.answers).ended n z e in cc)

      by_answer : (o : Option Answer) → at_step (λ given a. value_for (effect_after d q given) a) (take n q.answers) o ≡ value_if (effect_before d q n) o
      by_answer o = grind arith

  -- an item's note
  pub note_there : q.enclosing ≡ None → tx_at d id q n ≡ None → commit_in (effect_before d q n) ≡ None → (x : Item) → note_at (content_of m x).notes (place_of id n) ≡ note_if x q.func (effect_before d q n) (slice_get q.answers n)
  note_there own outside apart x = (h.items x).notes (place_of id n) (ap (is_mark d histories n) is ∙ (λ i. is_some (no_mark (slice_get q.answers n) i) || (is_decided d histories (own i) && (n == last_step))))
      ∙ ap (expected_note d x id (lock_ahead id) n) is ∙ ap (note_or (answered_note d x id n q)) (by_end (n == length q.answers) refl) ∙ or_none (answered_note d x id n q) ∙ by_answer (slice_get q.answers n)
    where
      no_mark : (o : Option Answer) → at_step (λ given a. commit_in (effect_after d q given)) (take n q.answers) o ≡ None
      no_mark o = grind arith

      by_end : (b : Bool) → (n == length q.answers) ≡ b → (if b then ahead_by x q.func (tx_now d id q) (effect_of d q) (lock_ahead id) else None) ≡ None
      by_end false e = refl
      by_end true e = ap (λ t. ahead_by x q.func t (effect_of d q) (lock_ahead id)) (ap (tx_after d id q) (sym (ap (λ k. take k q.answers) (eqb-true n (length q.answers) e) ∙ ap (take (length q.answers)) (sym (append-nil q.answers)) ∙ take_front q.answers [])) ∙ outside)

      by_answer : (o : Option Answer) → at_step (λ given a. note_by x q.func (tx_after d id q given) (effect_after d q given) a) (take n q.answers) o ≡ note_if x q.func (effect_before d q n) o
      by_answer o = grind arith

-- ---- rows of an item that hold what was held
module _ (d : Deployment) (m n : Rows) (y : Item) (same : ChangedAlone (head_key y) m n) where
  pub contents_kept : content_of n y ≡ content_of m y → (x : Item) → content_of n x ≡ content_of m x
  contents_kept held x = by_item y x (λ x. content_of n x ≡ content_of m x) held (λ other. ap content (other_item m n y same x other))

  pub content_kept : (histories : Histories) (lock_ahead : IntentId → Bool) → IsLinkedItem n y → content_of n y ≡ content_of m y → Matches d m histories lock_ahead → Matches d n histories lock_ahead
  content_kept histories lock_ahead linked held h = record {
    keys = keys_alone d histories m n (head_key y) refl same h.keys;
    chains = chains_alone m n y same linked h.chains;
    asides = λ t x. subst IsAside (sym (other_shadows m n y same t x)) (h.asides t x);
    items = λ x. subst (ItemMatches d histories lock_ahead x) (sym (contents_kept held x)) (h.items x);
    shadows = λ t x. subst (ShadowMatches d histories t x) (ap content (sym (other_shadows m n y same t x))) (h.shadows t x);
    txs = λ x. subst (λ (c : Content). TxsMatch d histories lock_ahead x c.owner) (sym (contents_kept held x)) (h.txs x);
  }

-- ---- what is listed after an operation
-- the rows of one item changed: others are listed as before
pub others_list : (m n : Rows) (y : Item) → ChangedAlone (head_key y) m n → (x : Item) → content_of n x ≡ content_of m x → listed n x ≡ listed m x
others_list m n y same x content = lists_same m n x content (λ t. other_key m n y same (decision_key t) refl) (λ t. other_shadows m n y same t x)

pub done_lists : (m n : Rows) (p : PlainState) (y : Item) (o : Operation) (at : Place) → DoneRows m n y at (cell_of o) → ((x : Item) → listed m x ≡ value_at p x) → (x : Item) → listed n x ≡ or_null (map.get (set_if p.items y (sets o (value_at p y))) x)
done_lists m n p y o at did was x = by_item y x (λ x. listed n x ≡ or_null (map.get (set_if p.items y (sets o (value_at p y))) x))
    (own_value n y (no_tx at.intent (content_of n y).owner (subst (λ (c : Content). IsFreeFor at.intent c.owner) (sym did.here) (free_after (cell_of o) at.intent (content_of m y).owner did.free)))
    ∙ ap (λ (c : Content). c.value) did.here ∙ sym ((does_so o).value (content_of m y).value)
    ∙ ap (λ w. or_old (sets o w) w) (sym (own_value m y (no_tx at.intent (content_of m y).owner (unbarred (cell_of o) at.intent (content_of m y).owner did.free))) ∙ was y)
    ∙ sym (plain_set p.items y y (sets o (value_at p y)) ∙ ap (λ b. cond (is_eq b) (or_old (sets o (value_at p y)) (value_at p y)) (value_at p y)) (tied_itself item_total y)))
    (λ other. others_list m n y did.same x (ap content (other_item m n y did.same x other)) ∙ was x
    ∙ sym (plain_set p.items y x (sets o (value_at p y)) ∙ ap (λ b. cond b (or_old (sets o (value_at p y)) (value_at p y)) (value_at p x)) ((eq_by_cmp_equiv item_total).symm x y ∙ other)))
