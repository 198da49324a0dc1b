-- What is called at a step, and what a run knows of it.
use Rattle.beldi_value.proofs.Callees.{no_root}
use Rattle.beldi_plain.specs.declared.kind.Kind.{Kind}
use Rattle.beldi_histories.specs.Extends.{begins}
use Rattle.beldi_invariant.proofs.Names.{Answer, Begun, Body, Bool, ByTx, Call, CalledBy, Core, Deployment, Effect, End, Entry, Frame, IsConsistent, Grows, Inside, Instance, IntentId, InvokeRow, IsBelow, IsBodyOf, IsOutside, IsTrue, Item, Histories, Knows, KnowsAt, List, LocksAreAheadAtEnds, Matches, MaySet, None, Option, Outcome, PlainState, Registers, Invariant, Row, RowKey, Rows, Run, RunTx, SameShadows, WellFormedHistories, Some, Step, TxId, Value, [], ahead_set, answer_given, answered, ap, append_assoc, arith, local_steps, local_steps_same, call_of, call_opened, called_by, called_in, callee_apart, callee_body, callee_by, callee_of, calls_at, child_of, child_same, content_of, effect_before, effect_of, elsewhere, enabled_step, ended_by, false, goes_one, got_next, grows_new, has_callees, here, if◌then◌else◌, inl, inr, invoke_key, is_begin, is_none, is_some, item_touched, kind_of, last_hop, length, length-append, made_expects, made_set, advanced, new_instance, no_own_callee, none_by, none_out, now_open, opened, option_map, origin_stays, expected_call, place_of, refl, result_of, run_tx, same_some, set_after_callee, set_next, set_row, slice_get, step_by, subst, suc, sym, touched_by, true, tx_after, tx_at, tx_begun, tx_end, tx_now, unlocked_absent, waits_at, wants_answer, with_callee, with_instance, enclosing_by, zero, ℕ, ◌&&◌, ◌++◌, ◌<◌, ◌∙◌, ◌∷◌, ◌≡◌, ◌⊎◌}
use Rattle.beldi_invariant.proofs.{Keeping.goes_made, Keeping.set_shadows, Moves.Entered, Moves.change_entered, Frames.NobodyJoins, Frames.nobody_made, Settling.settled_grown, Settling.settled_new, KeptWellFormed.called_with, Registered.log_frame, Registered.stays_new, Short.child_short, Shown.Settled, Shown.legal_well_formed, Shown.settled, StageTurns.answer_here, StageTurns.step_here, StageTurns.effect_next, StageTurns.not_over, StageTurns.plain_there, Outside.plain_none}
use Rattle.beldi_invariant.proofs.Names.map

-- a call tells whether it waits, its function and its argument
pub same_call : (a b : Bool) (f g : ℕ) (v u : Value) → call_of a f v ≡ call_of b g u → (a ≡ b) × (f ≡ g) × (v ≡ u)
same_call a b f g v u h = grind arith

-- who is not known called nobody
pub childless : (d : Deployment) (histories : Histories) → WellFormedHistories d histories → (id : IntentId) → map.get histories id ≡ None → (n : ℕ) → map.get histories (child_of id n) ≡ None
childless d histories well_formed id new n = none_by (map.get histories (child_of id n)) (λ j e. subst (λ o. CalledBy d id o n j) new (well_formed.called id n j e))

-- a callee that was made has the body of its call, in the transaction of the call where its caller waits
pub made_with : (d : Deployment) (histories : Histories) → WellFormedHistories d histories → (id : IntentId) (func step : ℕ) (w : Bool) (f : ℕ) (v : Value) (q j : Instance) (t : Option TxId) → map.get histories id ≡ Some q → q.func ≡ func → tx_at d id q step ≡ t → effect_before d q step ≡ call_of w f v → map.get histories (child_of id step) ≡ Some j
    → IsBodyOf (callee_body id func step f v (enclosing_by w t) w) (map.get histories (child_of id step))
made_with d histories well_formed id func step w f v q j t made func_is inner here at =
    let c = called_in d histories well_formed id step j at in
    let same : c.0 ≡ q = same_some (sym c.1 ∙ made) in
    let call : call_of w f v ≡ call_of c.2.waits j.func j.args = sym here ∙ ap (λ z. effect_before d z step) (sym same) ∙ c.2.call in
    let parts = same_call w c.2.waits f j.func v j.args call in
    let within : j.enclosing ≡ enclosing_by w t = c.2.enclosing ∙ (λ i. enclosing_by (sym parts.0 i) (tx_at d id (same i) step)) ∙ ap (enclosing_by w) inner in
    let from : Some (record { place = place_of id step; func = func; waits = w }) ≡ j.parent = (λ i. Some (record { place = place_of id step; func = (sym func_is ∙ ap (λ z. z.func) (sym same)) i; waits = parts.0 i })) ∙ sym c.2.parent in
    record { instance = j; made = at; body = λ i. record { func = parts.1 i; args = parts.2 i; tx = sym within i; parent = from i } }

-- a run of one that is waited for registers it
module _ (d : Deployment) (m : Rows) (p : PlainState) (book : List Entry) (histories : Histories) (well_formed : WellFormedHistories d histories) (r : Run) (o : Option RunTx) (step : ℕ) (e : Effect) (f : ℕ) (v : Value) (q : Instance) (is : e ≡ Call f v) (made : map.get histories r.id ≡ Some q) (func : q.func ≡ r.func) (inner : tx_at d r.id q step ≡ run_tx r.id r.func o)
    (here : effect_before d q step ≡ Call f v) (there : is_some (map.get histories (child_of r.id step)) ≡ true) (k : Run) (started : callee_by r o step e ≡ Some k) where
  abbrev body : Body
  body = callee_body r.id r.func step f v (run_tx r.id r.func o) true

  by_hops : (b : Bool) → (if b then Some (record { id = child_of r.id step; func = f; deadline = r.deadline; at = Registers body }) else None) ≡ Some k → KnowsAt d m p book histories (record { id = child_of r.id step; func = f; deadline = r.deadline; at = Registers body }) (Registers body) → KnowsAt d m p book histories k k.at
  by_hops true same knows = subst (λ z. KnowsAt d m p book histories z z.at) (same_some same) knows
  by_hops false same knows = cc

  by_callee : (u : Option Instance) → map.get histories (child_of r.id step) ≡ u → is_some u ≡ true → KnowsAt d m p book histories k k.at
  by_callee None at there = cc
  by_callee (Some j) at there = by_hops (has_callees r.id) (sym (ap (callee_by r o step) is) ∙ started) (record { body = made_with d histories well_formed r.id r.func step true f v q j (run_tx r.id r.func o) made func inner here at; func = refl; callee = no_root r.id step })

  pub callee_knows : KnowsAt d m p book histories k k.at
  callee_knows = by_callee (map.get histories (child_of r.id step)) refl there

-- ---- a call that a run stands at, whether it waits for it or not
module _ (d : Deployment) (c : Core) (m : Rows) (r : Run) (g : Begun) (h : Invariant d c m) (k : Knows d h.histories r g) (w : Bool) (f : ℕ) (v : Value) (call_here : effect_before d k.instance g.machine.steps ≡ call_of w f v) where
  abbrev callee : IntentId
  callee = child_of r.id g.machine.steps

  -- the log of calls has the callee that was made
  expected_is : expected_call h.histories r.func (place_of r.id g.machine.steps) ≡ option_map {U = ℕ × Option Outcome} (λ j. (j.func, result_of j)) (map.get h.histories callee)
  expected_is = ap (λ o. called_by r.func o (map.get h.histories callee)) k.made ∙ grind arith

  pub not_made : expected_call h.histories r.func (place_of r.id g.machine.steps) ≡ None → map.get h.histories callee ≡ None
  not_made none = none_by (map.get h.histories callee) (λ j at. let clash = sym (sym expected_is ∙ none) ∙ ap (option_map {U = ℕ × Option Outcome} (λ j. (j.func, result_of j))) at in cc)

  pub was_made : (z : ℕ × Option Outcome) → expected_call h.histories r.func (place_of r.id g.machine.steps) ≡ Some z → (j : Instance) × (map.get h.histories callee ≡ Some j) × (result_of j ≡ z.1)
  was_made z there = grind arith

  pub made_by : (x : InvokeRow) → expected_call h.histories r.func (place_of r.id g.machine.steps) ≡ Some (x.func, x.result) → is_some (map.get h.histories callee) ≡ true
  made_by x there = let j = was_made (x.func, x.result) there in ap is_some j.1

  -- what its step was answered, where the callee was made, is the first answer that the run has still to be given
  pub first_given : (j : Instance) → map.get h.histories callee ≡ Some j → (later : List Answer) → k.later ≡ later → slice_get later 0 ≡ answer_given w j.outcome
  first_given j at later left =
      let called = called_in d h.histories h.well_formed r.id g.machine.steps j at in
      let same : called.0 ≡ k.instance = same_some (sym called.1 ∙ k.made) in
      let parts = same_call w called.2.waits f j.func v j.args (sym call_here ∙ ap (λ z. effect_before d z g.machine.steps) (sym same) ∙ called.2.call) in
      sym (answer_here k later left) ∙ ap (λ z. slice_get z.answers g.machine.steps) (sym same) ∙ called.2.answered ∙ ap (λ t. answer_given t j.outcome) (sym parts.0)

  -- where it was not made, the call is the instance's next step
  pub next_here : map.get h.histories callee ≡ None → (later : List Answer) → k.later ≡ later → k.later ≡ []
  next_here new [] left = left
  next_here new (a ∷ rest) left =
      let there = h.well_formed.callees r.id k.instance g.machine.steps w f v k.made (answered_before k.instance.answers g.machine.steps a (answer_here k (a ∷ rest) left)) call_here in
      let clash = sym (ap is_some new) ∙ there in cc
    where
      answered_before : (xs : List Answer) (n : ℕ) (a : Answer) → slice_get xs n ≡ Some a → n < length xs
      answered_before [] n a is = cc
      answered_before (x ∷ xs) zero a is = omega arith
      answered_before (x ∷ xs) (suc n) a is = let l = answered_before xs n a is in omega (arith, l)

-- an answer that is given first
pub given_first : (a : Answer) (later : List Answer) → slice_get later 0 ≡ Some a → (rest : List Answer) × (later ≡ a ∷ rest)
given_first a [] first = cc
given_first a (b ∷ rest) first = (rest, ap (λ z. z ∷ rest) (same_some first))

-- ---- who is below a transaction was called by who is, or by its owner at a later step
below_parent : (t : TxId) (i : IntentId) (n : ℕ) → IsBelow t (child_of i n) → ((i ≡ t.intent) × (t.begin < n)) ⊎ IsBelow t i
below_parent t i n b = elim (last_hop b.hops) [
  | inl e ↦
      let same : child_of i n ≡ child_of t.intent b.step = b.is ∙ ap (λ hs. record { ticket = t.intent.ticket; hops = t.intent.hops ++ b.step ∷ hs }) e in
      let parts = child_same i t.intent n b.step same in
      inl (parts.0, subst (λ k. t.begin < k) (sym parts.1) b.later)
  | inr r ↦
      let up : IntentId = record { ticket = t.intent.ticket; hops = t.intent.hops ++ b.step ∷ r.0 } in
      let same : child_of i n ≡ child_of up r.1 = b.is ∙ ap (λ hs. record { ticket = t.intent.ticket; hops = hs }) (ap (λ hs. t.intent.hops ++ b.step ∷ hs) r.2 ∙ sym (append_assoc t.intent.hops (b.step ∷ r.0) (r.1 ∷ []))) in
      inr (record { step = b.step; later = b.later; hops = r.0; is = (child_same i up n r.1 same).0 })
]

-- ---- a call is opened: its row is put, and its callee is known
pub call_row : (d : Deployment) (histories : Histories) (lock_ahead : IntentId → Bool) → LocksAreAheadAtEnds d histories lock_ahead → WellFormedHistories d histories → (id : IntentId) (i : Instance) (t : Option TxId) (f : ℕ) (v : Value) (waits : Bool) → map.get histories id ≡ Some i → map.get histories (callee_of id i) ≡ None → (m : Rows) (step func : ℕ) → step ≡ length i.answers → i.func ≡ func → Matches d m histories lock_ahead
    → Matches d (set_row m (invoke_key func (place_of id step)) (Some (Row.Invoke (opened f)))) (map.insert histories (callee_of id i) (local_steps d (callee_of id i) (called_with t f v (calls_at id i waits)))) lock_ahead
call_row d histories lock_ahead ends well_formed id i t f v waits is new m step func steps func_is h =
    let s = called_with t f v (calls_at id i waits) in
    let z = local_steps d (callee_of id i) s in
    let same = local_steps_same d (callee_of id i) s in
    subst (λ n. Matches d (set_row m (invoke_key func (place_of id n)) (Some (Row.Invoke (opened f)))) (map.insert histories (callee_of id i) z) lock_ahead) (sym steps)
    (subst (λ g. Matches d (set_row m (invoke_key g (place_of id (length i.answers))) (Some (Row.Invoke (opened f)))) (map.insert histories (callee_of id i) z) lock_ahead) func_is
    (call_opened d histories lock_ahead id i z waits is new (childless d histories well_formed (callee_of id i) new) (unlocked_absent d histories lock_ahead ends (callee_of id i) new) (made_expects d histories (callee_of id i) f v (Some (calls_at id i waits)) t) (sym (ap (λ (b : Body). b.parent) same.body)) same.outcome m (opened f) (sym same.func) refl h))

-- .. now: it is the instance's next step
module _ (d : Deployment) (c : Core) (m : Rows) (r : Run) (g : Begun) (h : Invariant d c m) (k : Knows d h.histories r g) (w : Bool) (f : ℕ) (v : Value) (is : g.machine.effect ≡ call_of w f v) (new : map.get h.histories (child_of r.id g.machine.steps) ≡ None) (left : k.later ≡ []) where
  pub call_now : effect_of d k.instance ≡ call_of w f v
  call_now = effect_next k left ∙ is

  pub absent_here : map.get h.histories (callee_of r.id k.instance) ≡ None
  absent_here = ap (λ n. map.get h.histories (child_of r.id n)) (sym (step_here k left)) ∙ new

  pub no_outcome : k.instance.outcome ≡ None
  no_outcome = not_over h k left (subst (λ e. IsTrue (wants_answer e)) (sym is) (grind arith))

-- .. its callee is in this transaction, if any
module _ (d : Deployment) (c : Core) (m : Rows) (r : Run) (g : Begun) (h : Invariant d c m) (k : Knows d h.histories r g) (finds : Inside m h.plain c.book k g.stage)
    (w : Bool) (f : ℕ) (v : Value) (is : g.machine.effect ≡ call_of w f v) (hops : has_callees r.id ≡ true) (new : map.get h.histories (child_of r.id g.machine.steps) ≡ None) (left : k.later ≡ []) (t : Option TxId) (inner : t ≡ enclosing_by w (tx_now d r.id k.instance)) where
  abbrev made_id : IntentId
  made_id = callee_of r.id k.instance

  abbrev made_new : Instance
  made_new = called_with t f v (calls_at r.id k.instance w)

  abbrev made_on : Instance
  made_on = local_steps d made_id made_new

  -- what is known with the callee
  abbrev given : Histories
  given = map.insert h.histories made_id made_on

  abbrev key : RowKey
  key = invoke_key r.func (place_of r.id g.machine.steps)

  abbrev row : Option Row
  row = Some (Row.Invoke (opened f))

  abbrev opened_rows : Rows
  opened_rows = set_row m key row

  steps : g.machine.steps ≡ length k.instance.answers
  steps = step_here k left

  absent : map.get h.histories made_id ≡ None
  absent = absent_here d c m r g h k w f v is new left

  pub callee_there : is_some (map.get given (child_of r.id g.machine.steps)) ≡ true
  callee_there = ap (λ n. is_some (map.get given (child_of r.id n))) steps ∙ ap is_some (here h.histories made_id made_on)

  pub caller_there : map.get given r.id ≡ Some k.instance
  caller_there = elsewhere h.histories made_id r.id made_on (no_own_callee r.id (length k.instance.answers)) ∙ k.made

  pub callee_grows : Grows h.histories given
  callee_grows = grows_new h.histories made_id made_on absent

  -- its row is put
  pub callee_row : Matches d opened_rows given h.lock_ahead
  callee_row = call_row d h.histories h.lock_ahead h.ahead_at_ends h.well_formed r.id k.instance t f v w k.made absent m g.machine.steps r.func steps k.func h.rows

  -- nobody has a lock ahead that had none
  pub callee_ahead : LocksAreAheadAtEnds d given h.lock_ahead
  callee_ahead = ahead_set d h.histories h.lock_ahead h.ahead_at_ends h.lock_ahead made_id made_on (none_out h.lock_ahead made_id (unlocked_absent d h.histories h.lock_ahead h.ahead_at_ends made_id absent))

  -- its transaction has not ended, so nobody joins one that has
  open_still : (u : TxId) → t ≡ Some u → tx_end d h.histories u ≡ None
  open_still u is_tx = now_open d h.histories h.well_formed r.id k.instance u k.made (no_outcome d c m r g h k w f v is new left) (grind (arith, sym inner ∙ is_tx))

  ends_same : (u : TxId) → tx_end d given u ≡ tx_end d h.histories u
  ends_same u = made_set h.histories made_id made_on (λ j o. ended_by d u.begin o ≡ ended_by d u.begin (map.get h.histories j)) ((local_steps_same d made_id made_new).ends u.begin ∙ ap (ended_by d u.begin) (sym absent)) (λ j. refl) u.intent

  callee_joins : NobodyJoins d h.histories given
  callee_joins = nobody_made d h.histories made_id made_on (λ u within. ends_same u ∙ open_still u (sym (origin_stays d made_id made_new).1 ∙ within))

  -- nor is it below one that owns an item still
  above_owners : (u : TxId) (z : ℕ × Bool) (x : Item) → tx_end d h.histories u ≡ Some z → (content_of m x).owner ≡ Some (ByTx u) → IsBelow (record { intent = u.intent; begin = z.0; func = u.func }) made_id → ⊥
  above_owners u z x ended own below = elim (below_parent (record { intent = u.intent; begin = z.0; func = u.func }) r.id (length k.instance.answers) below) [
    | inl e ↦ finds.released u z (sym e.0) ended (subst (λ n. z.0 < n) (sym steps) e.1) x own
    | inr b ↦ let clash = sym (h.latest u z x r.id ended own b) ∙ k.made in cc
  ]

  pub callee_settled : (p : PlainState) → Grows h.plain.made p.made → Settled d m p given
  callee_settled p grows = settled_new d m p h.histories made_id made_new refl refl (child_short r.id (length k.instance.answers) hops) absent open_still above_owners (settled_grown d m h.plain p h.histories grows (settled h))

  pub callee_frame : map.get m key ≡ None → (p : PlainState) → p.items ≡ h.plain.items → Frame d m opened_rows h.plain p h.histories given
  callee_frame none p same = log_frame d m key row refl (stays_new (map.get m key) row none) h.plain p h.histories given same callee_joins

-- ---- outside a transaction its step is entered
module _ (d : Deployment) (c : Core) (m : Rows) (i : ℕ) (r : Run) (g : Begun) (h : Invariant d c m) (live : map.get c.runs i ≡ Some r) (k : Knows d h.histories r g) (finds : Inside m h.plain c.book k g.stage)
    (w : Bool) (f : ℕ) (v : Value) (is : g.machine.effect ≡ call_of w f v) (hops : has_callees r.id ≡ true) (new : map.get h.histories (child_of r.id g.machine.steps) ≡ None) (left : k.later ≡ []) (out : tx_after d r.id k.instance k.answers ≡ None) where
  now : effect_of d k.instance ≡ call_of w f v
  now = call_now d c m r g h k w f v is new left

  none_there : map.get h.histories (callee_of r.id k.instance) ≡ None
  none_there = absent_here d c m r g h k w f v is new left

  there : map.get h.plain.made r.id ≡ Some k.instance
  there = plain_there d c m i r g h live k finds out (call_of w f v) is left

  no_begin : begins d k.instance ≡ false
  no_begin = ap (λ e. is_none k.instance.outcome && is_begin e) now ∙ grind arith

  pub call_entered : (next : Histories) → Entered d c h.plain h.histories (Step r.id) (step_by h.plain r.id k.instance (call_of w f v)) next
  call_entered next = change_entered d c m h (Step r.id) (step_by h.plain r.id k.instance (call_of w f v)) next refl
      (enabled_step d h.plain r.id k.instance there (no_outcome d c m r g h k w f v is new left) (ap (waits_at h.plain.made r.id k.instance) now ∙ waits_not w) (ap (kind_of r.id) now ∙ is_change w) ∙ ap (λ z. Some (step_by h.plain r.id k.instance z)) now)
      (λ x touched. let none = sym (ap (touched_by d) there ∙ ap (item_touched k.instance) now ∙ touches w) ∙ touched in cc)
    where
      waits_not : (b : Bool) → waits_at h.plain.made r.id k.instance (call_of b f v) ≡ false
      waits_not true = ap is_some (plain_none d h.plain h.histories h.extends (callee_of r.id k.instance) none_there)
      waits_not false = ap is_some (plain_none d h.plain h.histories h.extends (callee_of r.id k.instance) none_there)

      is_change : (b : Bool) → kind_of r.id (call_of b f v) ≡ Kind.Change
      is_change b = grind arith

      touches : (b : Bool) → item_touched k.instance (call_of b f v) ≡ None
      touches b = grind arith

  -- the callee is made in both
  abbrev rows_now : Rows
  rows_now = set_row m (invoke_key r.func (place_of r.id g.machine.steps)) (Some (Row.Invoke (opened f)))

  pub callee_goes : IsConsistent d rows_now (with_callee h.plain r.id k.instance f v w) (map.insert h.histories (callee_of r.id k.instance) (local_steps d (callee_of r.id k.instance) (new_instance f v (Some (calls_at r.id k.instance w))))) h.lock_ahead
  callee_goes = goes_made h rows_now (set_shadows m (invoke_key r.func (place_of r.id g.machine.steps)) (Some (Row.Invoke (opened f))) refl) (callee_of r.id k.instance) (new_instance f v (Some (calls_at r.id k.instance w))) none_there refl (refl, refl)
      (callee_apart d h.plain (legal_well_formed h) r.id k.instance (length k.instance.answers) there no_begin)

-- ---- a callee was set, and then its caller is answered, that stays outside or begins: no shadow was made in between
pub goes_answered_then : {d : Deployment} {c : Core} {m : Rows} (h : Invariant d c m) (n : Rows) → SameShadows m n → (id : IntentId) (k : Instance) (a : Answer) → map.get h.histories id ≡ Some k → h.lock_ahead id ≡ false → (effect_of d k ≡ End true → ⊥) → IsOutside d (answered k a) (answered k a).answers
    → (callee : IntentId) → callee ≡ callee_of id k → (z y : Instance) → let p : PlainState = with_instance h.plain callee z in let histories : Histories = map.insert h.histories callee y in map.get histories id ≡ Some k → IsConsistent d n p histories h.lock_ahead
    → IsConsistent d n (with_instance p id (answered k a)) (map.insert histories id (advanced d id k a)) h.lock_ahead
goes_answered_then {d} {c} {m} h n same id k a was unlocked no_end out callee is_callee z y is goes =
    let more = length-append k.answers (a ∷ []) in
    let both = set_after_callee d m n h.plain h.histories id (answered k a) (set_next d m h.plain h.histories h.lock_ahead h.shadows h.extends h.well_formed h.rows (legal_well_formed h) id k was a out no_end) (same (tx_begun id (answered k a))) (length k.answers) z y (omega (arith, more)) in
    let p = with_instance h.plain callee z in
    let histories = map.insert h.histories callee y in
    goes_one d n p histories h.lock_ahead goes.shadows goes.extends id (answered k a) (subst (λ i. MaySet d n (with_instance h.plain i z) (map.insert h.histories i y) id (answered k a)) (sym is_callee) both) n (λ t x. refl)
    (got_next d n histories h.lock_ahead goes.shadows.got n (λ t x. refl) id k is unlocked a)
