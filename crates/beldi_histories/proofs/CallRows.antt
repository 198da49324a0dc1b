-- Instances that are made and that end, over what the histories have: a call is opened, and its callee gives its outcome back.
use Rattle.beldi_histories.proofs.Names.{Bool, CallMatches, CalleeMatches, Caller, Deployment, Instance, IntentId, IntentMatches, InvokeRow, Item, Kind, Histories, Matches, None, Option, Outcome, ExpectsSame, Place, Row, RowKey, Rows, Some, TxId, Value, ahead_note, and_right, answered_note, ap, local_steps, begins_at, called_by, callee_of, calls_at, child_of, child_same, effect_of, elsewhere, ended, eq-eqb, eqb-true, false, false_from_ne_true, has_ended, has_no_hops, here, if◌then◌else◌, invoke_key, is_decided, is_eq, is_item, is_none, is_open, is_some, is_waited, key_cmp, last_step, length, new_instance, no_root, note_or, expected_call, place_of, refl, result_of, same_some, set_row, subst, sym, touched, true, tx_now, ℕ, ◌&&◌, ◌==◌, ◌||◌, ◌∙◌, ◌≡◌, Effect}
use Rattle.beldi_histories.proofs.Instances.{callee_on, callee_new, calls_moved, no_callee, no_own_callee, not_home, return_keeps_row, same_caller, same_key}
use Rattle.beldi_histories.proofs.{Frame.local_steps_same, FrameAt.not_ahead, FrameAt.or_none, Sets.ExpectsStill, Sets.instance_set, Cases.if_same}
use Rattle.beldi_histories.proofs.Names.map

-- ---- what is made expects nothing
pub new_expects : (d : Deployment) (histories : Histories) (id : IntentId) (f : ℕ) (v : Value) (c : Option Caller) (t : Option TxId) → ExpectsStill d histories id None (record (new_instance f v c) { enclosing = t })
new_expects d histories id f v c t = record {
  values = λ u n. if_same (f == u) None;
  notes = λ x n. not_ahead d x id n (record (new_instance f v c) { enclosing = t });
  shadows = λ t x n. refl;
  locksets = λ b x. refl;
  got = λ t x. refl;
  held = λ x. refl;
  ends = λ b. refl;
  marks = λ n h. refl;
  behind = λ b x. refl;
}

-- nor does what takes no turn
pub still_then : (d : Deployment) (histories : Histories) (id : IntentId) (o : Option Instance) (q s : Instance) → ExpectsStill d histories id o q → ExpectsSame d id q s → ExpectsStill d histories id o s
still_then d histories id o q s g h = record {
  values = λ f n. (λ i. if h.func i == f then h.rows n i else None) ∙ g.values f n;
  notes = λ x n. without x n s ∙ h.notes x n ∙ sym (without x n q) ∙ g.notes x n;
  shadows = λ t x n. h.shadows t x n ∙ g.shadows t x n;
  locksets = λ b x. h.locksets b x ∙ g.locksets b x;
  got = λ t x. ap (λ z. z || false) (h.got t x) ∙ g.got t x;
  held = λ x. h.held x ∙ g.held x;
  ends = λ b. h.ends b ∙ g.ends b;
  marks = λ n none. g.marks n (sym (λ i. is_some (h.marks n i) || (is_decided d histories (h.enclosing i) && (n == last_step))) ∙ none);
  behind = g.behind;
}
  where
    without : (x : Item) (n : ℕ) (z : Instance) → note_or (answered_note d x id n z) (ahead_note d x id false n z) ≡ answered_note d x id n z
    without x n z = ap (note_or (answered_note d x id n z)) (not_ahead d x id n z) ∙ or_none (answered_note d x id n z)

pub made_expects : (d : Deployment) (histories : Histories) (id : IntentId) (f : ℕ) (v : Value) (c : Option Caller) (t : Option TxId) → ExpectsStill d histories id None (local_steps d id (record (new_instance f v c) { enclosing = t }))
made_expects d histories id f v c t =
    let q : Instance = record (new_instance f v c) { enclosing = t } in
    still_then d histories id None q (local_steps d id q) (new_expects d histories id f v c t) (local_steps_same d id q)

-- an instance that returns expects what it expected
pub ended_expects : (d : Deployment) (histories : Histories) (id : IntentId) (q : Instance) (o u : Outcome) → effect_of d q ≡ Effect.Return u → ExpectsStill d histories id (Some q) (ended q o)
ended_expects d histories id q o u returns = record {
  values = λ f n. refl;
  notes = λ x n. refl;
  shadows = λ t x n. refl;
  locksets = λ b x. refl;
  got = λ t x. refl;
  held = λ x. refl;
  ends = λ b. refl;
  marks = λ n h. h;
  behind = λ b x. ap (λ e. is_none q.outcome && (is_open d histories (tx_now d id q) && (begins_at b (tx_now d id q) && is_item x q.func (touched e)))) returns ∙ and_right (is_none q.outcome) _ (and_right (is_open d histories (tx_now d id q)) _ (and_right (begins_at b (tx_now d id q)) false refl));
}

-- ---- a call is opened: its callee is made, and its row is put
module _ (d : Deployment) (histories : Histories) (lock_ahead : IntentId → Bool) (id : IntentId) (i s : Instance) (waits : Bool) (is : map.get histories id ≡ Some i) (new : map.get histories (callee_of id i) ≡ None)
    (childless : (n : ℕ) → map.get histories (child_of (callee_of id i) n) ≡ None) (unlocked : lock_ahead (callee_of id i) ≡ false) (owes : ExpectsStill d histories (callee_of id i) None s) (from : s.parent ≡ Some (calls_at id i waits)) (none : s.outcome ≡ None) where
  abbrev callee : IntentId
  callee = callee_of id i

  abbrev after : Histories
  after = map.insert histories callee s

  abbrev key : RowKey
  key = invoke_key i.func (place_of id (length i.answers))

  caller_there : map.get after id ≡ Some i
  caller_there = elsewhere histories callee id s (λ same. let clash = sym new ∙ ap (map.get histories) same ∙ is in cc) ∙ is

  no_result : result_of s ≡ None
  no_result = ap (λ o. if is_waited s.parent then o else None) none ∙ if_same (is_waited s.parent) None

  expected_here : expected_call after i.func (place_of id (length i.answers)) ≡ Some (s.func, None)
  expected_here = ap (λ o. called_by i.func o (map.get after callee)) caller_there ∙ ap (called_by i.func (Some i)) (here histories callee s) ∙ ap (λ b. if b then Some (s.func, result_of s) else None) (eq-eqb i.func i.func refl) ∙ ap (λ o. Some (s.func, o)) no_result

  still_childless : (n : ℕ) → map.get after (child_of callee n) ≡ None
  still_childless n = elsewhere histories callee (child_of callee n) s (λ same. no_own_callee callee n (sym same)) ∙ childless n

  as_caller : (home : ℕ) (b : Place) → b.intent ≡ callee → called_by home (Some s) (map.get after (child_of b.intent b.step)) ≡ called_by home (map.get histories callee) (map.get after (child_of b.intent b.step))
  as_caller home b same =
      let gone : map.get after (child_of b.intent b.step) ≡ None = ap (λ z. map.get after (child_of z b.step)) same ∙ still_childless b.step in
      ap (called_by home (Some s)) gone ∙ sym (ap (called_by home (map.get histories callee)) gone ∙ no_callee home (map.get histories callee))

  as_callee : (home : ℕ) (b : Place) → is_eq (key_cmp (invoke_key home b) key) ≡ false → child_of b.intent b.step ≡ callee → called_by home (map.get histories b.intent) (Some s) ≡ called_by home (map.get histories b.intent) (map.get histories callee)
  as_callee home b other same =
      let place = child_same b.intent id b.step (length i.answers) same in
      let away : (i.func == home) ≡ false = false_from_ne_true (i.func == home) (λ e. same_key home i.func b (place_of id (length i.answers)) (sym (eqb-true i.func home e)) (λ k. record { intent = place.0 k; step = place.1 k }) other) in
      ap (λ z. called_by home (map.get histories z) (Some s)) place.0 ∙ ap (λ o. called_by home o (Some s)) is ∙ not_home home i (Some s) away ∙ sym (ap (called_by home (map.get histories b.intent)) new ∙ no_callee home (map.get histories b.intent))

  own_row : (home : ℕ) (r : Option Row) → IntentMatches (has_ended d histories) (has_no_hops callee.hops) home r (map.get histories callee) → IntentMatches (has_ended d histories) (has_no_hops callee.hops) home r (Some s)
  own_row home r g =
      let hops = no_root id (length i.answers) in
      subst (λ b. IntentMatches (has_ended d histories) b home r (Some s)) (sym hops) (callee_new (has_ended d histories) home r s none (subst (CalleeMatches (has_ended d histories) home r) new (subst (λ b. IntentMatches (has_ended d histories) b home r (map.get histories callee)) hops g)))

  pub call_opened : (m : Rows) (r : InvokeRow) → r.func ≡ s.func → r.result ≡ None → Matches d m histories lock_ahead → Matches d (set_row m key (Some (Row.Invoke r))) after lock_ahead
  call_opened m r func empty h = instance_set d histories lock_ahead callee s unlocked (subst (λ o. ExpectsStill d histories callee o s) (sym new) owes) m key (Some (Row.Invoke r)) refl
      (expected_here ∙ sym (λ k. Some (func k, empty k)))
      (λ l other e g. own_row l.home (map.get m l) g)
      (λ l b other e. calls_moved histories callee s l.home b (as_caller l.home b) (as_callee l.home b (subst (λ (z : Kind). is_eq (key_cmp (record { home = l.home; kind = z }) key) ≡ false) e other))) h

-- ---- a callee that its caller waits for gives its outcome back, to the row of the call
module _ (d : Deployment) (histories : Histories) (lock_ahead : IntentId → Bool) (id : IntentId) (i j : Instance) (n : ℕ) (o u : Outcome) (is : map.get histories id ≡ Some i) (made : map.get histories (child_of id n) ≡ Some j)
    (open_still : j.outcome ≡ None) (waited : is_waited j.parent ≡ true) (returns : effect_of d j ≡ Effect.Return u) (out : lock_ahead (child_of id n) ≡ false) where
  abbrev child : IntentId
  child = child_of id n

  abbrev given : Histories
  given = map.insert histories child (ended j o)

  abbrev row_key : RowKey
  row_key = invoke_key i.func (place_of id n)

  still_caller : map.get given id ≡ Some i
  still_caller = elsewhere histories child id (ended j o) (no_own_callee id n) ∙ is

  expected_now : expected_call given i.func (place_of id n) ≡ Some (j.func, Some o)
  expected_now = ap (λ c. called_by i.func c (map.get given child)) still_caller ∙ ap (called_by i.func (Some i)) (here histories child (ended j o)) ∙ ap (λ b. if b then Some (j.func, result_of (ended j o)) else None) (eq-eqb i.func i.func refl)
      ∙ ap (λ b. Some (j.func, if b then Some o else None)) waited

  callers_row : (home : ℕ) (b : Place) → b.intent ≡ child → called_by home (Some (ended j o)) (map.get given (child_of b.intent b.step)) ≡ called_by home (map.get histories child) (map.get given (child_of b.intent b.step))
  callers_row home b same = same_caller home j (ended j o) (map.get given (child_of b.intent b.step)) refl ∙ ap (λ c. called_by home c (map.get given (child_of b.intent b.step))) (sym made)

  other_callers : (home : ℕ) (b : Place) → is_eq (key_cmp (invoke_key home b) row_key) ≡ false → child_of b.intent b.step ≡ child → called_by home (map.get histories b.intent) (Some (ended j o)) ≡ called_by home (map.get histories b.intent) (map.get histories child)
  other_callers home b other same =
      let place = child_same b.intent id b.step n same in
      let caller : map.get histories b.intent ≡ Some i = ap (map.get histories) place.0 ∙ is in
      let away : (i.func == home) ≡ false = false_from_ne_true (i.func == home) (λ e. same_key home i.func b (place_of id n) (sym (eqb-true i.func home e)) (λ k. record { intent = place.0 k; step = place.1 k }) other) in
      ap (λ c. called_by home c (Some (ended j o))) caller ∙ not_home home i (Some (ended j o)) away ∙ sym (ap (λ c. called_by home c (map.get histories child)) caller ∙ not_home home i (map.get histories child) away)

  callee_row : (home : ℕ) (r : Option Row) → IntentMatches (has_ended d histories) (has_no_hops child.hops) home r (map.get histories child) → IntentMatches (has_ended d histories) (has_no_hops child.hops) home r (Some (ended j o))
  callee_row home r g =
      let hops = no_root id n in
      subst (λ b. IntentMatches (has_ended d histories) b home r (Some (ended j o))) (sym hops)
      (callee_on (has_ended d histories) home r j (ended j o) (return_keeps_row j o waited open_still) (subst (CalleeMatches (has_ended d histories) home r) made (subst (λ b. IntentMatches (has_ended d histories) b home r (map.get histories child)) hops g)))

  -- its caller is answered then, which expects of the rows nothing more (`call_answered`)
  pub given_back : (m : Rows) (r : InvokeRow) → map.get m row_key ≡ Some (Row.Invoke r) → Matches d m histories lock_ahead → Matches d (set_row m row_key (Some (Row.Invoke (record r { result = Some o })))) given lock_ahead
  given_back m r at h = instance_set d histories lock_ahead child (ended j o) out (subst (λ z. ExpectsStill d histories child z (ended j o)) (sym made) (ended_expects d histories child j o u returns)) m row_key (Some (Row.Invoke (record r { result = Some o }))) refl
      (expected_now ∙ ap (λ c. Some (c, Some o)) (sym func))
      (λ l other e g. callee_row l.home (map.get m l) g)
      (λ l b other e. calls_moved histories child (ended j o) l.home b (callers_row l.home b) (other_callers l.home b (subst (λ (z : Kind). is_eq (key_cmp (record { home = l.home; kind = z }) row_key) ≡ false) e other))) h
    where
      expected_before : expected_call histories i.func (place_of id n) ≡ Some (j.func, result_of j)
      expected_before = ap (λ c. called_by i.func c (map.get histories child)) is ∙ ap (called_by i.func (Some i)) made ∙ ap (λ b. if b then Some (j.func, result_of j) else None) (eq-eqb i.func i.func refl)

      there : expected_call histories i.func (place_of id n) ≡ Some (r.func, r.result)
      there = subst (λ z. CallMatches z (expected_call histories i.func (place_of id n))) at (h.keys row_key)

      func : r.func ≡ j.func
      func = let both = same_some (sym there ∙ expected_before) in ap (λ z. z.0) both
