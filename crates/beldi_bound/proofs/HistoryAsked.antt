-- The answers that are known of an instance are those that the rows hold: each is held, and at the next step none is.
use Rattle.beldi_invariant.proofs.Names.{Answer, Async, Body, Bool, Call, CallMatches, Core, Deployment, Effect, Instance, IntentId, IntentMatches, IntentRow, IsBodyOf, Item, Histories, List, Matches, None, OnItem, Option, Outcome, Place, Read, Invariant, Row, Rows, WellFormedHistories, Some, IsTrue, TxId, Value, [], ahead_by, answer_aside, local_answer, answer_given, answer_of, ap, append-nil, arith, body_of, call_in, call_of, called_by, child_of, decides, effect_after, effect_before, effect_of, false, few_answers, given, given_in, has_ended, has_no_hops, held_answer, held_inside, held_note, held_outside, if◌then◌else◌, invoke_key, is_some, is_waited, item_in, key_in, length, log_key, no_decision, no_row, no_shadow_note, note_is_ahead, note_of_lock, noted_answer, op_of, option_and_then, option_map, or_own, place_of, refl, result_in, row_of, same_some, slice_get, subst, sym, take, take_front, touched, true, tx_after, tx_by, tx_now, txs_after, wants_answer, ℕ, ◌++◌, ◌==◌, ◌∙◌, ◌∷◌, ◌≡◌}
use Rattle.beldi_invariant.proofs.Names.map
use Rattle.beldi_invariant.proofs.{Cases.by_option, Ended.ends_outside, Standing.held_here}
use Rattle.beldi_histories.{specs.Stands.answer_by_note, proofs.Answers.none_at_end, proofs.Behind.front, proofs.Behind.there, proofs.Callers.called_in}
use Rattle.beldi_bound.specs.{Cost.Asked, Cost.next_held, Ends.IntentsAreAsked}

-- ---- small facts
wants_op : (e : Effect) (o : OnItem) → op_of e ≡ Some o → IsTrue (wants_answer e)
wants_op e o h = grind arith

wants_touch : (e : Effect) (o : ℕ × List ℕ) → touched e ≡ Some o → IsTrue (wants_answer e)
wants_touch e o h = grind arith

same_wait : (a b : Bool) (f g : ℕ) (v u : Value) → call_of a f v ≡ call_of b g u → a ≡ b
same_wait a b f g v u h = grind arith

-- a lock that is ahead tells nothing while its operation has left nothing
ahead_told : (p : Place) (x : Item) (func : ℕ) (t : Option TxId) (e : Effect) (b : Bool) → answer_by_note p (ahead_by x func t e b) None ≡ None
ahead_told p x func t e b = grind arith

ahead_untouched : (x : Item) (func : ℕ) (t : Option TxId) (e : Effect) (b : Bool) → touched e ≡ None → ahead_by x func t e b ≡ None
ahead_untouched x func t e b h = grind arith

-- the row of a call that is not expected, or whose callee has no outcome
no_call : (r : Option Row) → CallMatches r None → call_in r ≡ None
no_call r h = grind arith

no_result : (r : Option Row) (o : Option (ℕ × Option Outcome)) → CallMatches r o → ((c : ℕ × Option Outcome) → o ≡ Some c → c.1 ≡ None) → result_in (call_in r) ≡ None
no_result None o h none = refl
no_result (Some (Row.Invoke i)) o h none = none (i.func, i.result) h
no_result (Some r) o h none = absurd h

expected_none : (g : ℕ) (b w : Bool) (o : Option Outcome) (c : ℕ × Option Outcome) → o ≡ None → (if b then Some (g, if w then o else None) else None) ≡ Some c → c.1 ≡ None
expected_none g b w o c none is = grind arith

not_given : (o : Option Outcome) → option_map answer_of o ≡ None → o ≡ None
not_given o h = grind arith

module _ (d : Deployment) (m : Rows) (histories : Histories) (lock_ahead : IntentId → Bool) (h : Matches d m histories lock_ahead) (well_formed : WellFormedHistories d histories) (id : IntentId) (q : Instance) (made : map.get histories id ≡ Some q) where
  abbrev n : ℕ
  n = length q.answers

  abbrev p : Place
  p = place_of id n

  abbrev e : Effect
  e = effect_of d q

  abbrev tx : Option TxId
  tx = tx_now d id q

  -- ---- each answer is held
  pub recorded_held : (given : List Answer) (a : Answer) (rest : List Answer) → given ++ a ∷ rest ≡ q.answers → next_held d m id (body_of q) given ≡ Some a
  recorded_held given a rest all = subst (λ ts. held_answer m id q.func (length given) (tx_after d id q ts) (effect_after d q ts) ≡ Some a) (front d id q given a rest all) (held_here d m histories lock_ahead h well_formed id q made (length given) a (there d id q given a rest all))

  -- ---- none is at the next step: a call waits for its callee
  not_called : (w : Bool) (f : ℕ) (v : Value) → e ≡ call_of w f v → held_outside m p q.func (call_of w f v) ≡ None
  not_called w f v call = by_callee (map.get histories (child_of id n)) refl
    where
      row : (o : Option Instance) → map.get histories (child_of id n) ≡ o → CallMatches (map.get m (invoke_key q.func p)) (called_by q.func (Some q) o)
      row o on = subst (λ z. CallMatches (map.get m (invoke_key q.func p)) (called_by q.func (Some q) z)) on (subst (λ z. CallMatches (map.get m (invoke_key q.func p)) (called_by q.func z (map.get histories (child_of id n)))) made (h.keys (invoke_key q.func p)))

      unopened : (b : Bool) → call_in (map.get m (invoke_key q.func p)) ≡ None → held_outside m p q.func (call_of b f v) ≡ None
      unopened b none = grind arith

      by_wait : (b : Bool) (j : Instance) → answer_given b j.outcome ≡ None → CallMatches (map.get m (invoke_key q.func p)) (called_by q.func (Some q) (Some j)) → held_outside m p q.func (call_of b f v) ≡ None
      by_wait true j none matches = ap (option_map answer_of) (no_result (map.get m (invoke_key q.func p)) (called_by q.func (Some q) (Some j)) matches (λ c. expected_none j.func (q.func == q.func) (is_waited j.parent) j.outcome c (not_given j.outcome none)))
      by_wait false j none matches = cc

      by_callee : (o : Option Instance) → map.get histories (child_of id n) ≡ o → held_outside m p q.func (call_of w f v) ≡ None
      by_callee None on = unopened w (no_call (map.get m (invoke_key q.func p)) (row None on))
      by_callee (Some j) on =
          let c = called_in d histories well_formed id n j on in
          let it : c.0 ≡ q = same_some (sym c.1 ∙ made) in
          let all : take n q.answers ≡ q.answers = ap (take n) (sym (append-nil q.answers)) ∙ take_front q.answers [] in
          let same = same_wait w c.2.waits f j.func v j.args (sym call ∙ ap (effect_after d q) (sym all) ∙ ap (λ z. effect_before d z n) (sym it) ∙ c.2.call) in
          subst (λ b. held_outside m p q.func (call_of b f v) ≡ None) (sym same)
          (by_wait c.2.waits j (sym c.2.answered ∙ ap (λ (z : Instance). slice_get z.answers n) it ∙ none_at_end q.answers) (row (Some j) on))

  -- an item has no note but the lock that is ahead
  note_so : IsTrue (wants_answer e) → (x : Item) → note_of_lock m p x ≡ ahead_by x q.func tx e (lock_ahead id)
  note_so wanted = let few = few_answers d q.func q.args (is_some q.enclosing) q.answers wanted in note_is_ahead d m histories lock_ahead h id q made (omega (arith, few))

  no_note : ((x : Item) → ahead_by x q.func tx e (lock_ahead id) ≡ None) → (o : Option OnItem) → op_of e ≡ o → held_note m p q.func o ≡ None
  no_note none None is = refl
  no_note none (Some o) is = ap (option_and_then noted_answer) (note_so (wants_op e o is) (item_in q.func o) ∙ none (item_in q.func o))

  no_value : given m (log_key q.func p) ≡ None
  no_value = ap (option_map given_in) (no_row d m histories lock_ahead h id q made)

  last_outside : ((x : Item) → ahead_by x q.func tx e (lock_ahead id) ≡ None) → (z : Effect) → e ≡ z → held_outside m p q.func z ≡ None
  last_outside none (Read t k) is = ap (option_map Answer.Value) no_value
  last_outside none (Call f v) is = not_called true f v is
  last_outside none (Async f v) is = not_called false f v is
  last_outside none z is = no_note none (op_of z) (ap op_of is)

  -- what takes no turn was answered
  turns : local_answer id n e ≡ None
  turns = by_option q.outcome (λ none. well_formed.closed id q made none) (λ o some. ap (local_answer id n) ((well_formed.each id q made).over o some))

  -- inside, an operation has at most its lock
  no_lock : (t : ℕ) (k : List ℕ) (a : Option Answer) → touched e ≡ Some (t, k) → a ≡ None → answer_by_note p (note_of_lock m p (record { func = q.func; table = t; key = k })) a ≡ None
  no_lock t k a touch none = let x : Item = record { func = q.func; table = t; key = k } in (λ i. answer_by_note p (note_so (wants_touch e (t, k) touch) x i) (none i)) ∙ ahead_told p x q.func tx e (lock_ahead id)

  no_decide : (x : TxId) → tx ≡ Some x → (c : Bool) → e ≡ Effect.End c → given m (log_key x.func (place_of x.intent x.begin)) ≡ None
  no_decide x inside c is = by_begun (txs_after d q q.answers).begun refl
    where
      in_tx : (o : Option ℕ) → (txs_after d q q.answers).begun ≡ o → tx_by id q.func n (Effect.End c) o ≡ Some x
      in_tx o begun = sym (λ j. or_own (ends_outside d q q.answers c is j) (tx_by id q.func n (is j) (begun j))) ∙ inside

      by_begun : (o : Option ℕ) → (txs_after d q q.answers).begun ≡ o → given m (log_key x.func (place_of x.intent x.begin)) ≡ None
      by_begun None begun = let clash = in_tx None begun in cc
      by_begun (Some b) begun = subst (λ (y : TxId). given m (log_key y.func (place_of y.intent y.begin)) ≡ None) (same_some (in_tx (Some b) begun)) (ap (option_map given_in) (no_decision d m histories lock_ahead h id q made b begun))

  last_inside : (x : TxId) → tx ≡ Some x → (z : Effect) → e ≡ z → held_inside m x p q.func z ≡ None
  last_inside x inside Effect.Begin is = let clash = sym turns ∙ ap (local_answer id n) is in cc
  last_inside x inside Effect.Abort is = let clash = sym turns ∙ ap (local_answer id n) is in cc
  last_inside x inside (Effect.End c) is = ap (option_and_then (decides c)) (no_decide x inside c is)
  last_inside x inside (Read t k) is = no_lock t k (option_map Answer.Value (given m (log_key q.func p))) (ap touched is) (ap (option_map Answer.Value) no_value)
  last_inside x inside (Effect.Write t k v) is = let i : Item = record { func = q.func; table = t; key = k } in no_lock t k (answer_aside m x p i) (ap touched is) (ap (option_and_then noted_answer) (no_shadow_note d m histories lock_ahead h id q made x i))
  last_inside x inside (Effect.CondWrite t k r u v) is = let i : Item = record { func = q.func; table = t; key = k } in no_lock t k (answer_aside m x p i) (ap touched is) (ap (option_and_then noted_answer) (no_shadow_note d m histories lock_ahead h id q made x i))
  last_inside x inside z is = last_outside (λ i. ahead_untouched i q.func tx e (lock_ahead id) (ap touched is)) z is

  last_by : (o : Option TxId) → tx ≡ o → held_answer m id q.func n o e ≡ None
  last_by None is = last_outside (λ x. ap (λ o. ahead_by x q.func o e (lock_ahead id)) is) e refl
  last_by (Some x) is = last_inside x is e refl

  pub recorded_asked : Asked d m id (body_of q) q.answers
  recorded_asked = record { each = recorded_held; last = last_by tx refl }

-- ---- so each intent that has a body is asked so
-- its body is that of an instance that has a history
pub row_body : (d : Deployment) (c : Core) (m : Rows) (h : Invariant d c m) (home : ℕ) (id : IntentId) (i : IntentRow) (b : Body) → map.get m (key_in home id) ≡ Some (Row.Intent i) → i.body ≡ Some b → IsBodyOf b (map.get h.histories id)
row_body d c m h home id i b is has =
    (row_of (has_ended d h.histories) (has_no_hops id.hops) home i (map.get h.histories id) (subst (λ r. IntentMatches (has_ended d h.histories) (has_no_hops id.hops) home r (map.get h.histories id)) is (h.rows.keys (key_in home id)))).body b has

answers_in : Option Instance → List Answer
answers_in None = []
answers_in (Some q) = q.answers

pub intents_asked : IntentsAreAsked
unfolding answers_in
intents_asked d c m u = let h = u.invariant in (
  λ id. answers_in (map.get h.histories id),
  λ home id i b is has.
      let of = row_body d c m h home id i b is has in
      subst (λ z. Asked d m id z (answers_in (map.get h.histories id))) (sym of.body) (subst (λ o. Asked d m id (body_of of.instance) (answers_in o)) (sym of.made) (recorded_asked d m h.histories h.lock_ahead h.rows h.well_formed id of.instance of.made)),
)
