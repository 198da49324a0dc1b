-- Who went on past a call that nobody waits for has registered it.
use Rattle.beldi_lang.proofs.Spends.{few_answers}
use Rattle.beldi_plain_laws.specs.WellFormedState.{IsAnswer}
use Rattle.beldi_plain_laws.proofs.Ends.{fits_at}
use Rattle.beldi_chain.specs.Chain.{chain}
use Rattle.beldi_histories.proofs.{Callers.called_in, Cases.by_option, NoTx.outside_parts}
use Rattle.beldi_histories.specs.{Histories.last_step, Expected.called_by, Expected.result_of, RowMatching.BodyMatches, RowMatching.CalleeBodyMatches, RowMatching.CalleeMatches, RowMatching.LogMatches, RowMatching.OutcomeMatches, RowMatching.RootMatches, Stands.body_of, Stands.decides, Stands.held_answer, Stands.held_inside, Stands.held_note, Stands.held_outside, Stands.note_of_lock, Stands.answer_by_note}
use Rattle.beldi_invariant.proofs.Names.{Abort, Answer, Async, Begin, Body, Bool, Call, CallMatches, Caller, CondWrite, Core, Deployment, Effect, End, Instance, IntentId, IntentMatches, InvokeRow, IsTrue, Item, None, Note, OnItem, Option, Outcome, Place, Read, Invariant, Row, RowKey, Rows, Some, TxId, Value, Write, local_answer, answer_of, ap, arith, at_row, call_in, call_of, child_of, content_of, effect_before, eq-eqb, false, func_called, if◌then◌else◌, given, given_in, has_ended, has_no_hops, head_key, inl, inr, invoke_key, is_some, is_waited, item_in, key_in, length, length-take-le, log_key, note_at, noted_answer, op_of, option_and_then, option_map, or_own, expected_call, place_of, refl, result_in, same_some, subst, sym, take, take-append-drop, drop, true, tx_at, tx_by, txs_after, wants_answer, ℕ, ◌<◌, ◌==◌, ◌||◌, ◌∙◌, ◌≡◌, ◌≤◌, nat_lt, ltb-true, ltb-false}
use Rattle.beldi_invariant.proofs.Names.map
use Rattle.beldi_invariant.proofs.{Members.call_there, Returns.HasCaller, Returns.has_caller, Standing.held_here, StageTurns.wants_it}
use Rattle.beldi_upkeep.specs.{Callees.Seats, Passed.AsyncsAreRegistered, Passed.RecordedAsyncsAreRegistered, Passed.IsEnrolled, Passed.IsLater, Passed.MayPass, Passed.PastCalls, Passed.WentOn, Passed.has_outcome, Passed.has_result, Passed.is_call, Passed.is_log, Passed.may_pass}
use Rattle.beldi_invariant.proofs.{Outside.RecordedOf, Outside.recorded_of, Standing.same_run}
use Rattle.beldi_invariant.proofs.Names.{PlainState, length-append, wants}
use Rattle.beldi_upkeep.proofs.{CallLaws.have_callees, PastGaps.answer_at, PastGaps.front_take, PastGaps.in_own, PastGaps.no_async, PastGaps.result_row, RowNotes.noted_row}

-- ---- what holds an answer
call_held : (o : Option Row) (a : Answer) → option_map answer_of (result_in (call_in o)) ≡ Some a → is_call o ≡ true
call_held o a h = grind arith

sent_held : (o : Option Row) (a : Answer) → option_map (λ i. Answer.Done) (call_in o) ≡ Some a → is_call o ≡ true
sent_held o a h = grind arith

note_held : (o : Option Note) (a : Answer) → option_and_then noted_answer o ≡ Some a → is_some o ≡ true
note_held o a h = grind arith

told_held : (p : Place) (o : Option Note) (v : Option Answer) (a : Answer) → answer_by_note p o v ≡ Some a → is_some o ≡ true
told_held p o v a h = grind arith

value_held : (o : Option Value) (a : Answer) → option_map Answer.Value o ≡ Some a → is_some o ≡ true
value_held o a h = grind arith

decision_held : (c : Bool) (o : Option Value) (a : Answer) → option_and_then (decides c) o ≡ Some a → is_some o ≡ true
decision_held c o a h = grind arith

log_given : (o : Option Row) (w : Option Value) → LogMatches o w → is_some (option_map given_in o) ≡ true → is_log o ≡ true
log_given None w f h = cc
log_given (Some (Row.ReadLog v)) w f h = refl
log_given (Some r) w f h = absurd f

end_in : (id : IntentId) (func n : ℕ) (commit : Bool) (o : Option ℕ) (x : TxId) → tx_by id func n (End commit) o ≡ Some x → (x.intent ≡ id) × (o ≡ Some x.begin)
end_in id func n commit None x h = cc
end_in id func n commit (Some b) x h = let same = same_some h in (ap (λ (t : TxId). t.intent) (sym same), ap (λ (t : TxId). Some t.begin) same)

-- a call that nobody waits for
sends : (w : Bool) (g : ℕ) (u : Value) (f : ℕ) (v : Value) → call_of w g u ≡ Async f v → w ≡ false
sends true g u f v e = cc
sends false g u f v e = refl

called_some : (f : ℕ) (q j : Instance) → q.func ≡ f → called_by f (Some q) (Some j) ≡ None → ⊥
called_some f q j same h = by_test (q.func == f) (eq-eqb q.func f same) h
  where
    by_test : (b : Bool) → b ≡ true → if◌then◌else◌ {A = Option (ℕ × Option Outcome)} b (Some (j.func, result_of j)) None ≡ None → ⊥
    by_test true e h = cc
    by_test false e h = cc

no_result : (f : ℕ) (q j : Instance) (x : InvokeRow) → is_waited j.parent ≡ false → called_by f (Some q) (Some j) ≡ Some (x.func, x.result) → x.result ≡ None
no_result f q j x idle h = by_test (q.func == f) h
  where
    by_test : (b : Bool) → if◌then◌else◌ {A = Option (ℕ × Option Outcome)} b (Some (j.func, result_of j)) None ≡ Some (x.func, x.result) → x.result ≡ None
    by_test true h = ap (λ z. z.1) (sym (same_some h)) ∙ ap (λ b. if b then j.outcome else None) idle
    by_test false h = cc

or_first : (a b : Bool) → (a || b) ≡ true → b ≡ false → a ≡ true
or_first true b h e = refl
or_first false b h e = let clash = sym e ∙ h in cc

module _ (d : Deployment) (c : Core) (m : Rows) (h : Invariant d c m) (past : PastCalls m) (id : IntentId) (q : Instance) (made : map.get h.histories id ≡ Some q) (n f : ℕ) (v : Value) (less : n < length q.answers) (is : effect_before d q n ≡ Async f v) where
  -- it was made outside transactions
  outside : tx_at d id q n ≡ None
  outside = by_option (tx_at d id q n) (λ e. e) (λ t e.
      let a = answer_at q.answers n less in
      let so = (h.well_formed.each id q made).past n a.0 a.1 in
      absurd (no_async (place_of id n) t f v a.0 (subst (λ e. IsAnswer (place_of id n) (Some t) e a.0) is (subst (λ o. IsAnswer (place_of id n) o (effect_before d q n) a.0) e so))))

  -- a step of it comes before the last
  few : (s : ℕ) → s ≤ length q.answers → IsTrue (wants_answer (effect_before d q s)) → s < last_step
  few s le wanted = let k = few_answers d q.func q.args (is_some q.enclosing) (take s q.answers) wanted in let l = length-take-le s q.answers le in omega (arith, k, l)

  module _ (s : ℕ) (after : n < s) (short : s < last_step) where
    later : IsLater (place_of id s) id n
    later = record { intent = refl; later = after; short = short }

    by_call_row : (home : ℕ) → is_call (map.get m (invoke_key home (place_of id s))) ≡ true → MayPass m id n
    by_call_row home there = past.each (invoke_key home (place_of id s)) id n (inl (later, there))

    by_log : (home : ℕ) → is_some (given m (log_key home (place_of id s))) ≡ true → MayPass m id n
    by_log home there = past.each (log_key home (place_of id s)) id n (later, log_given (map.get m (log_key home (place_of id s))) _ (h.rows.keys (log_key home (place_of id s))) there)

    by_note : (x : Item) → is_some (note_at (content_of m x).notes (place_of id s)) ≡ true → MayPass m id n
    by_note x there = let row = noted_row (chain m (head_key x)) (place_of id s) (h.rows.chains x) there in past.each (at_row (head_key x) row.0) id n (record { place = place_of id s; later = later; noted = row.1 })

    by_outside : (a : Answer) (e : Effect) → held_outside m (place_of id s) q.func e ≡ Some a → MayPass m id n
    by_outside a (Read t k) held = by_log q.func (value_held (given m (log_key q.func (place_of id s))) a held)
    by_outside a (Call g w) held = by_call_row q.func (call_held (map.get m (invoke_key q.func (place_of id s))) a held)
    by_outside a (Async g w) held = by_call_row q.func (sent_held (map.get m (invoke_key q.func (place_of id s))) a held)
    by_outside a e held = by_op (op_of e) held
      where
        by_op : (o : Option OnItem) → held_note m (place_of id s) q.func o ≡ Some a → MayPass m id n
        by_op None held = cc
        by_op (Some o) held = by_note (item_in q.func o) (note_held (note_at (content_of m (item_in q.func o)).notes (place_of id s)) a held)

    -- an end of a transaction that was begun later
    by_end : (x : TxId) (commit : Bool) (a : Answer) → s ≤ length q.answers → effect_before d q s ≡ End commit → tx_at d id q s ≡ Some x → option_and_then (decides commit) (given m (log_key x.func (place_of x.intent x.begin))) ≡ Some a → MayPass m id n
    by_end x commit a le end inside held = by_test (nat_lt n x.begin) refl
      where
        none : q.enclosing ≡ None
        none = (outside_parts d id q (take n q.answers) outside).0.0

        own : (x.intent ≡ id) × ((txs_after d q (take s q.answers)).begun ≡ Some x.begin)
        own = end_in id q.func (length (take s q.answers)) commit (txs_after d q (take s q.answers)).begun x (subst (λ e. tx_by id q.func (length (take s q.answers)) e (txs_after d q (take s q.answers)).begun ≡ Some x) end
            (sym (ap (λ w. or_own w (tx_by id q.func (length (take s q.answers)) (effect_before d q s) (txs_after d q (take s q.answers)).begun)) none) ∙ inside))

        long : length (take s q.answers) ≡ s
        long = length-take-le s q.answers le

        begun : x.begin < s
        begun = let b = (fits_at d q (take s q.answers)).before x.begin own.1 in let l = long in omega (arith, b, l)

        by_test : (t : Bool) → nat_lt n x.begin ≡ t → MayPass m id n
        by_test true e = past.each (log_key x.func (place_of x.intent x.begin)) id n (
          record { intent = own.0; later = ltb-true n x.begin e; short = let b = begun in omega (arith, b, short) },
          log_given (map.get m (log_key x.func (place_of x.intent x.begin))) _ (h.rows.keys (log_key x.func (place_of x.intent x.begin))) (decision_held commit (given m (log_key x.func (place_of x.intent x.begin))) a held),
        )
        by_test false e =
            let ge = ltb-false n x.begin e in
            let l = long in
            let t = in_own d id q (take s q.answers) (drop s q.answers) (take-append-drop s q.answers) x.begin own.1 n ge (omega (arith, after, l)) in
            let clash = sym outside ∙ t.1 in cc

    by_inside : (x : TxId) (a : Answer) (e : Effect) → s ≤ length q.answers → effect_before d q s ≡ e → tx_at d id q s ≡ Some x → local_answer id s e ≡ None → held_inside m x (place_of id s) q.func e ≡ Some a → MayPass m id n
    by_inside x a Begin le at inside turn held = cc
    by_inside x a Abort le at inside turn held = cc
    by_inside x a (End commit) le at inside turn held = by_end x commit a le at inside held
    by_inside x a (Read t k) le at inside turn held = let y : Item = record { func = q.func; table = t; key = k } in by_note y (told_held (place_of id s) (note_of_lock m (place_of id s) y) _ a held)
    by_inside x a (Write t k w) le at inside turn held = let y : Item = record { func = q.func; table = t; key = k } in by_note y (told_held (place_of id s) (note_of_lock m (place_of id s) y) _ a held)
    by_inside x a (CondWrite t k r o w) le at inside turn held = let y : Item = record { func = q.func; table = t; key = k } in by_note y (told_held (place_of id s) (note_of_lock m (place_of id s) y) _ a held)
    by_inside x a e le at inside turn held = by_outside a e held

  -- ---- a later answer
  by_answer : (s : ℕ) → n < s → s < length q.answers → local_answer id s (effect_before d q s) ≡ None → MayPass m id n
  by_answer s after within turn =
      let a = answer_at q.answers s within in
      let so = (h.well_formed.each id q made).past s a.0 a.1 in
      let le : s ≤ length q.answers = omega (arith, within) in
      let short = few s le (wants_it (place_of id s) (tx_at d id q s) (effect_before d q s) a.0 so) in
      by_tx s after short le a.0 turn (tx_at d id q s) refl (held_here d m h.histories h.lock_ahead h.rows h.well_formed id q made s a.0 a.1)
    where
      by_tx : (s : ℕ) (after : n < s) (short : s < last_step) → s ≤ length q.answers → (a : Answer) → local_answer id s (effect_before d q s) ≡ None → (o : Option TxId) → tx_at d id q s ≡ o → held_answer m id q.func s o (effect_before d q s) ≡ Some a → MayPass m id n
      by_tx s after short le a turn None e held = by_outside s after short a (effect_before d q s) held
      by_tx s after short le a turn (Some x) e held = by_inside s after short x a (effect_before d q s) le refl e turn held

  -- ---- a later call
  by_callee : (s : ℕ) → n < s → is_some (map.get h.histories (child_of id s)) ≡ true → MayPass m id n
  by_callee s after there = by_option (map.get h.histories (child_of id s)) (λ e. let clash = sym (ap is_some e) ∙ there in cc) (λ j e.
      let w = called_in d h.histories h.well_formed id s j e in
      let same : w.0 ≡ q = same_some (sym w.1 ∙ made) in
      let le : s ≤ length q.answers = subst (λ (y : Instance). s ≤ length y.answers) same w.2.here in
      let call : effect_before d q s ≡ call_of w.2.waits j.func j.args = subst (λ (y : Instance). effect_before d y s ≡ call_of w.2.waits j.func j.args) same w.2.call in
      let short = few s le (subst (λ e. IsTrue (wants_answer e)) (sym call) (call_wants w.2.waits j.func j.args)) in
      let row = call_there d m h.histories h.lock_ahead h.rows (id, q.func) (record { step = s; func = j.func }) (record { caller = q; made = made; func = refl; callee = j; there = e; its = refl }) in
      by_call_row s after short q.func (row_call (map.get m (invoke_key q.func (place_of id s))) (expected_call h.histories q.func (place_of id s)) (h.rows.keys (invoke_key q.func (place_of id s))) row))
    where
      call_wants : (w : Bool) (f : ℕ) (v : Value) → IsTrue (wants_answer (call_of w f v))
      call_wants true f v = refl
      call_wants false f v = refl

      row_call : {g : ℕ} (o : Option Row) (w : Option (ℕ × Option Outcome)) → CallMatches o w → option_map func_called o ≡ Some g → is_call o ≡ true
      row_call None w fits e = cc
      row_call (Some (Row.Invoke x)) w fits e = refl
      row_call (Some r) w fits e = absurd fits

  -- ---- an outcome
  root_outcome : (t : Bool) (o : Option Row) → is_some q.outcome ≡ true → RootMatches t o (Some q) → t ≡ true → has_outcome o ≡ true
  root_outcome true None over fits e = let clash = fits in cc
  root_outcome true (Some (Row.Intent r)) over fits e = by_body r.body fits.body
    where
      by_body : (b : Option Body) → BodyMatches b r.outcome (Some q) → is_some r.outcome ≡ true
      by_body None g = let clash = g in cc
      by_body (Some b) g = ap is_some (sym g.1 ∙ ap (λ (y : Instance). y.outcome) (same_some (sym g.0.made))) ∙ over
  root_outcome true (Some r) over fits e = absurd fits
  root_outcome false o over fits e = cc

  callee_outcome : (o : Option Row) → is_some q.outcome ≡ true → is_waited q.parent ≡ false → CalleeMatches (has_ended d h.histories) q.func o (Some q) → has_outcome o ≡ true
  callee_outcome None over idle fits = let clash = sym (ap is_some (fits.open_still q refl refl idle)) ∙ over in cc
  callee_outcome (Some (Row.Intent r)) over idle fits = by_body r.body fits.body
    where
      by_waits : (t : Bool) (o : Option Outcome) → t ≡ false → OutcomeMatches t o q.outcome → is_some o ≡ true
      by_waits true o e g = cc
      by_waits false o e g = ap is_some (sym g) ∙ over

      by_body : (b : Option Body) → CalleeBodyMatches q.func b r.outcome (Some q) → is_some r.outcome ≡ true
      by_body None g = absurd g
      by_body (Some b) g =
          let same : g.0.instance ≡ q = same_some (sym g.0.made) in
          by_waits (is_waited b.parent) r.outcome (ap (λ (z : Body). is_waited z.parent) (g.0.body ∙ ap body_of same) ∙ idle) (subst (λ (y : Instance). OutcomeMatches (is_waited b.parent) r.outcome y.outcome) same g.2)
  callee_outcome (Some r) over idle fits = absurd fits

  by_row : (home : ℕ) → has_outcome (map.get m (key_in home id)) ≡ true → MayPass m id n
  by_row home there = past.each (key_in home id) id n (refl, there)

  -- the result of a call that is waited for
  by_result : (z : Caller) → q.parent ≡ Some z → z.waits ≡ true → is_some q.outcome ≡ true → MayPass m id n
  by_result z from waits over = past.each (invoke_key z.func z.place) id n (inr (sym w.is_callee, result_there (map.get m (invoke_key z.func z.place)) owed))
    where
      w : HasCaller d h.histories id q z
      w = has_caller d h.histories id q z h.well_formed made from

      owed : CallMatches (map.get m (invoke_key z.func z.place)) (called_by z.func (Some w.caller) (Some q))
      owed = subst (CallMatches (map.get m (invoke_key z.func z.place))) ((λ i. called_by z.func (w.made i) (map.get h.histories (sym w.is_callee i))) ∙ ap (called_by z.func (Some w.caller)) made) (h.rows.keys (invoke_key z.func z.place))

      result_there : (o : Option Row) → CallMatches o (called_by z.func (Some w.caller) (Some q)) → has_result o ≡ true
      result_there None fits = absurd (called_some z.func w.caller q w.func fits)
      result_there (Some (Row.Invoke x)) fits = ap is_some (result_row z.func w.caller q x w.func (ap is_waited from ∙ waits) fits) ∙ over
      result_there (Some r) fits = absurd fits

  by_outcome : is_some q.outcome ≡ true → MayPass m id n
  by_outcome over = by_hops (has_no_hops id.hops) refl
    where
      by_from : (z : Option Caller) → q.parent ≡ z → is_waited z ≡ true → MayPass m id n
      by_from None e waits = cc
      by_from (Some z) e waits = by_result z e waits over

      by_waits : (t : Bool) → is_waited q.parent ≡ t → has_no_hops id.hops ≡ false → MayPass m id n
      by_waits true e below = by_from q.parent refl e
      by_waits false e below = by_row q.func (callee_outcome (map.get m (key_in q.func id)) over e (subst (CalleeMatches (has_ended d h.histories) q.func (map.get m (key_in q.func id))) made (subst (λ b. IntentMatches (has_ended d h.histories) b q.func (map.get m (key_in q.func id)) (map.get h.histories id)) below (h.rows.keys (key_in q.func id)))))

      by_hops : (b : Bool) → has_no_hops id.hops ≡ b → MayPass m id n
      by_hops true e = by_row 0 (root_outcome true (map.get m (key_in 0 id)) over (subst (RootMatches true (map.get m (key_in 0 id))) made (subst (λ b. IntentMatches (has_ended d h.histories) b 0 (map.get m (key_in 0 id)) (map.get h.histories id)) e (h.rows.keys (key_in 0 id)))) refl)
      by_hops false e = by_waits (is_waited q.parent) refl e

  went_on : WentOn d h.histories id q n → MayPass m id n
  went_on (inl s) = by_answer s.0 s.1 s.2 s.3
  went_on (inr (inl s)) = by_callee s.0 s.1 s.2
  went_on (inr (inr over)) = by_outcome over

  -- ---- its row
  module _ (seats : Seats m) (may : MayPass m id n) (j : Instance) (there : map.get h.histories (child_of id n) ≡ Some j) where
    abbrev key : RowKey
    key = invoke_key q.func (place_of id n)

    idle : is_waited j.parent ≡ false
    idle =
        let w = called_in d h.histories h.well_formed id n j there in
        let call = subst (λ (y : Instance). effect_before d y n ≡ call_of w.2.waits j.func j.args) (same_some (sym w.1 ∙ made)) w.2.call in
        ap is_waited w.2.parent ∙ sends w.2.waits j.func j.args f v (sym call ∙ is)

    by_call : (o : Option Row) → map.get m key ≡ o → CallMatches o (called_by q.func (Some q) (Some j)) → may_pass o ≡ true → IsEnrolled m q.func id n
    by_call None at fits may = absurd (called_some q.func q j refl fits)
    by_call (Some (Row.Invoke x)) at fits may =
        let registered = or_first x.registered (is_some x.result) may (ap is_some (no_result q.func q j x idle fits)) in
        record { call = x; there = at; registered = registered; callee = have_callees d c m h seats q.func id n x at registered }
    by_call (Some r) at fits may = absurd fits

    pub enrolled : IsEnrolled m q.func id n
    enrolled = by_call (map.get m key) refl (subst (CallMatches (map.get m key)) (λ i. called_by q.func (made i) (there i)) (h.rows.keys key)) (may q.func)

pub recorded_registered : RecordedAsyncsAreRegistered
recorded_registered d c m h seats past i q n f v made less is went =
    let there = h.well_formed.callees i q n false f v made less is in
    by_option (map.get h.histories (child_of i n)) (λ e. let clash = sym (ap is_some e) ∙ there in cc) (λ j e. enrolled d c m h past i q made n f v less is seats (went_on d c m h past i q made n f v less is went) j e)

-- ---- in the run of the book: an instance there is known, with its answers first
module _ (d : Deployment) (c : Core) (m : Rows) (h : Invariant d c m) (i : IntentId) (q : Instance) (made : map.get h.plain.made i ≡ Some q) where
  z : RecordedOf h.histories i q
  z = recorded_of d h.plain h.histories h.extends i q made

  same_effect : (s : ℕ) → s ≤ length q.answers → effect_before d z.instance s ≡ effect_before d q s
  same_effect s le = λ j. wants d (z.grown.func j) (z.grown.args j) (is_some (z.grown.enclosing j)) (front_take q.answers z.grown.later z.instance.answers s z.grown.more le j)

  longer : (s : ℕ) → s < length q.answers → s < length z.instance.answers
  longer s less = let l = ap length z.grown.more in let k = length-append q.answers z.grown.later in omega (arith, less, l, k)

  went_there : (n : ℕ) → WentOn d h.plain.made i q n → WentOn d h.histories i z.instance n
  went_there n (inl s) = let less = s.2 in inl (s.0, s.1, longer s.0 s.2, ap (local_answer i s.0) (same_effect s.0 (omega (arith, less))) ∙ s.3)
  went_there n (inr (inl s)) = inr (inl (s.0, s.1, by_option (map.get h.plain.made (child_of i s.0)) (λ e. let clash = sym (ap is_some e) ∙ s.2 in cc) (λ j e. ap is_some (recorded_of d h.plain h.histories h.extends (child_of i s.0) j e).is)))
  went_there n (inr (inr over)) = inr (inr (ap is_some z.outcome ∙ over))

  plain_registered : Seats m → PastCalls m → (n f : ℕ) (v : Value) → n < length q.answers → effect_before d q n ≡ Async f v → WentOn d h.plain.made i q n → IsEnrolled m q.func i n
  plain_registered seats past n f v less is went =
      subst (λ g. IsEnrolled m g i n) z.grown.func (recorded_registered d c m h seats past i z.instance n f v z.is (longer n less) (same_effect n (omega (arith, less)) ∙ is) (went_there n went))

pub asyncs_registered : AsyncsAreRegistered
asyncs_registered d c m p h seats past run i q n f v made less is went =
    let same = same_run d c m p h run in
    plain_registered d c m h i q (ap (λ (y : PlainState). map.get y.made i) same ∙ made) seats past n f v less is (subst (λ (y : PlainState). WentOn d y.made i q n) (sym same) went)
