-- Where all live runs wait, each intent that has not ended has one, and no function has a lock statement, there is a cause: each run leads to
-- one in a younger transaction, or to its callee's, or to a cause; and there are finitely many.
use Rattle.std.specs.FinMap as map
use Rattle.std.proofs.Common.{Bool, List, None, Option, Some, [], ap, arith, false, inl, inr, is_some, length, refl, subst, sym, true, ℕ, suc, zero, ◌<◌, ◌==◌, ◌∙◌, ◌∷◌, ◌≡◌, ◌⊎◌, slice_get}
use Rattle.std.proofs.lemmas.{Bool.eq-eqb, Bool.eqb-true, List.append-nil, List.length-append, List.take_all, Option.slice_get_cases, Option.slice_get_within}
use Rattle.beldi_value.proofs.Ages.{further, not_itself}
use Rattle.beldi_value.specs.{Id.child_of, Id.has_no_hops, Id.is_older, Id.root_of, declared.id.IntentId.IntentId, declared.outcome.Outcome.Outcome, declared.place.Owner.Owner, declared.place.TxId.TxId, declared.value.Value.Value}
use Rattle.beldi_tree.specs.declared.deployment.Deployment.{Deployment}
use Rattle.beldi_lang.specs.declared.effect.{Answer.Answer, Effect.Effect}
use Rattle.beldi_plain.specs.{Item.Item, Plain.Instance, Plain.effect_before, Plain.effect_of, Plain.outcome_of}
use Rattle.beldi_plain_laws.proofs.{Ends.fits_at, Maps.same_some}
use Rattle.beldi_plain_laws.specs.{WellFormedState.answer_given, WellFormedState.call_of, WellFormedState.enclosing_by, Txs.effect_after, Txs.tx_at as tx_step, Txs.txs_after}
use Rattle.beldi_row.specs.{Table.Rows}
use Rattle.beldi_step.specs.{declared.event.EventReply.EventReply, declared.run.OpenTx.OpenTx, declared.run.Run.Run, declared.run.RunAt.RunAt, declared.run.RunTx.RunTx, declared.run.Wait.Wait, HostStep.Core, HostStep.has_run, Run.own_tx, Run.tx_at}
use Rattle.beldi_histories.specs.{Contents.content_of, Histories.tx_end, Matches.has_ended, RowMatching.IntentMatches, Stands.key_in}
use Rattle.beldi_histories.proofs.{Callers.WasCalled, Callers.root_or_called, Cases.by_cases, Cases.by_option}
use Rattle.beldi_invariant.specs.Invariant.{Invariant, open_of}
use Rattle.beldi_invariant.proofs.{OpenOf.open_begun, OpenOf.open_in, OpenOf.own_begin, StageTurns.all_here, StageTurns.effect_here, StageTurns.effect_next, StageTurns.no_return, StageTurns.step_here}
use Rattle.beldi_upkeep.specs.{Passed.IsEnrolled, Passed.MayPass, Upkeep.Upkeep}
use Rattle.beldi_upkeep.proofs.{FromInvariant.called_here, FromInvariant.row_at, PastLaws.enrolled, PastLaws.recorded_registered, PastOwn.WasOwner, PastOwn.ended_there, PastOwn.ends_there, PastOwn.got_owner, PastOwn.tx_ended}
use Rattle.beldi_bound.specs.Ends.{HasCause, HasNoLock}
use Rattle.beldi_bound.proofs.{Chain.Higher, Chain.LiveRun, Chain.chain, Chain.live_run, Chain.numbers, Chain.some_run, Facts.AllWait, Facts.EachHasRun, Facts.WaitsHaveCause, Fronts.Best, Fronts.Waits, Fronts.at_front, Fronts.best, Fronts.is_number, Fronts.row_open, Fronts.row_run, Fronts.tx_is, Fronts.waits, NoLocks.no_intent_owns, Waits.Called, Waits.Owned, Waits.Why}

-- ---- how high a run stands: by the age of the transaction that it is in, if any, and by its hops
abbrev Above : Option TxId → ℕ → Option TxId → ℕ → Type 0
Above None n None k = n < k
Above None n (Some t) k = Unit {0}
Above (Some s) n None k = ⊥
Above (Some s) n (Some t) k = (is_older s.intent t.intent ≡ true) ⊎ ((s.intent ≡ t.intent) × (n < k))

above_on : (a b c : Option TxId) (i j k : ℕ) → Above a i b j → Above b j c k → Above a i c k
above_on None None None i j k f g = omega (arith, f, g)
above_on None None (Some u) i j k f g = tt
above_on None (Some t) None i j k f g = absurd g
above_on None (Some t) (Some u) i j k f g = tt
above_on (Some s) None c i j k f g = absurd f
above_on (Some s) (Some t) None i j k f g = absurd g
above_on (Some s) (Some t) (Some u) i j k (inl f) (inl g) = inl (further s.intent t.intent u.intent f g)
above_on (Some s) (Some t) (Some u) i j k (inl f) (inr g) = inl (subst (λ z. is_older s.intent z ≡ true) g.0 f)
above_on (Some s) (Some t) (Some u) i j k (inr f) (inl g) = inl (subst (λ z. is_older z u.intent ≡ true) (sym f.0) g)
above_on (Some s) (Some t) (Some u) i j k (inr f) (inr g) = let less = f.1 in let more = g.1 in inr (f.0 ∙ g.0, omega (arith, less, more))

not_above : (a : Option TxId) (i : ℕ) → Above a i a i → ⊥
not_above None i f = absurd (omega (arith, f))
not_above (Some s) i (inl f) = let clash : false ≡ true = sym (not_itself s.intent) ∙ f in cc
not_above (Some s) i (inr f) = let less = f.1 in absurd (omega (arith, less))

abbrev tx_in : Run → RunAt → Option TxId
tx_in r (RunAt.Begins g) = tx_at r.id r.func g.tx
tx_in r at = None

abbrev Up : Option Run → Option Run → Type 0
Up (Some r) (Some z) = Above (tx_in r r.at) (length r.id.hops) (tx_in z z.at) (length z.id.hops)
Up (Some r) None = ⊥
Up None z = ⊥

up_on : (a b c : Option Run) → Up a b → Up b c → Up a c
up_on None b c f g = absurd f
up_on (Some r) None c f g = absurd f
up_on (Some r) (Some z) None f g = absurd g
up_on (Some r) (Some z) (Some y) f g = above_on (tx_in r r.at) (tx_in z z.at) (tx_in y y.at) (length r.id.hops) (length z.id.hops) (length y.id.hops) f g

not_up : (a : Option Run) → Up a a → ⊥
not_up None f = f
not_up (Some r) f = not_above (tx_in r r.at) (length r.id.hops) f

-- a run in the transaction of its caller
callee_above : (o : Option TxId) (n k : ℕ) (z : Option TxId) → ((t : TxId) → o ≡ Some t → z ≡ Some t) → n < k → Above o n z k
callee_above None n k None same less = less
callee_above None n k (Some t) same less = tt
callee_above (Some s) n k z same less = subst (λ w. Above (Some s) n w k) (sym (same s refl)) (inr (refl, less))

-- a run that waits for another transaction
owner_above : (o : Option TxId) (n k : ℕ) (t : TxId) → ((u : TxId) → o ≡ Some u → is_older u.intent t.intent ≡ true) → Above o n (Some t) k
owner_above None n k t older = tt
owner_above (Some s) n k t older = inl (older s refl)

own_of : (o : Option RunTx) (b : ℕ) → own_begin o ≡ Some b → (y : OpenTx) × (o ≡ Some (RunTx.Own y))
own_of None b e = cc
own_of (Some (RunTx.Own y)) b e = (y, refl)
own_of (Some (RunTx.Inherited t)) b e = cc

hops_more : (i : IntentId) (n : ℕ) (j : IntentId) → j ≡ child_of i n → length i.hops < length j.hops
hops_more i n j is = let l = length-append i.hops (n ∷ []) in let e = ap (λ (z : IntentId). length z.hops) is in omega (arith, l, e)

module _ (d : Deployment) (c : Core) (m : Rows) (waiting : List (ℕ × EventReply)) (s : Upkeep d c m) (no : HasNoLock d) (all : AllWait d c m waiting) (each : EachHasRun c m) where
  abbrev h : Invariant d c m
  h = s.invariant

  abbrev Cause : Type 0
  Cause = HasCause c m waiting

  abbrev Top : IntentId → Type 0
  Top id = Best d c m waiting s all id

  -- the run that was answered most is one of its instance
  same_instance : (id : IntentId) (q : Instance) → map.get h.histories id ≡ Some q → (b : Top id) → b.its.histories.instance ≡ q
  same_instance id q made b = same_some (sym b.its.histories.made ∙ ap (map.get h.histories) b.same ∙ made)

  -- ---- the owner of a transaction that owns an item
  module _ (t : TxId) (x : Item) (owned : (content_of m x).owner ≡ Some (Owner.Tx t)) where
    owns : WasOwner d h.histories t
    owns = got_owner d h.histories h.well_formed t h.lock_ahead x ((h.rows.txs x).owned_is_got t owned)

    abbrev q : Instance
    q = owns.owner

    less : t.begin < length q.answers
    less =
        let l = ap length owns.all in
        let n = length-append owns.given owns.later in
        let b = (fits_at d q owns.given).before t.begin owns.begun in
        omega (arith, l, n, b)

    record Ended : Type 0 where
      end : ℕ × Bool
      is : tx_end d h.histories t ≡ Some end
      before : end.0 < length q.answers

    closed : ((txs_after d q q.answers).begun ≡ Some t.begin → ⊥) → Ended
    closed never =
        let a = append-nil q.answers in
        record { end = (ends_there d h.histories t owns q.answers [] a less never).0; is = tx_ended d h.histories t owns q.answers [] a less never; before = (ended_there d h.histories t owns q.answers [] a less never).before }

    -- it is open, or has ended
    ending : ((txs_after d q q.answers).begun ≡ Some t.begin) ⊎ Ended
    ending = by_begun (txs_after d q q.answers).begun refl
      where
        not_same : (b : ℕ) → (txs_after d q q.answers).begun ≡ Some b → (b == t.begin) ≡ false → (txs_after d q q.answers).begun ≡ Some t.begin → ⊥
        not_same b e off is = let same : b ≡ t.begin = same_some (sym e ∙ is) in let clash : false ≡ true = sym off ∙ eq-eqb b t.begin same in cc

        by_begun : (o : Option ℕ) → (txs_after d q q.answers).begun ≡ o → ((txs_after d q q.answers).begun ≡ Some t.begin) ⊎ Ended
        by_begun None e = inr (closed (λ is. (let clash : None ≡ Some t.begin = sym e ∙ is in cc)))
        by_begun (Some b) e = by_cases (b == t.begin) (λ same. inl (e ∙ ap Some (eqb-true b t.begin same))) (λ off. inr (closed (not_same b e off)))

    -- its owner has not ended
    open_still : q.outcome ≡ None
    open_still = by_option q.outcome (λ e. e) (λ u e. absurd (over u e))
      where
        over : (u : Outcome) → q.outcome ≡ Some u → ⊥
        over u e = elim ending [
          | inl begun ↦ no_return d q q.answers u (ap is_some begun) ((h.well_formed.each t.intent q owns.made).over u e)
          | inr z ↦ (let clash : None ≡ Some u = sym (h.unended t z.end x z.is owned).1 ∙ ap outcome_of owns.made ∙ e in cc)
        ]

    -- so its run at the front stands inside it
    stands : (b : Top t.intent) → b.its.histories.later ≡ [] → (y : OpenTx) × (b.its.begun.tx ≡ Some (RunTx.Own y))
    stands b left = elim ending [
      | inl begun ↦ (let z = own_of (open_of d q q.answers) t.begin (sym (open_begun d q q.answers) ∙ begun) in (z.0, b.its.histories.run_open ∙ opens ∙ z.1))
      | inr z ↦ absurd (b.its.inside.released t z.end (sym b.same) z.is (subst (λ n. z.end.0 < n) (sym (step_here b.its.histories left ∙ ap (λ (y : Instance). length y.answers) one)) z.before) x owned)
    ]
      where
        one : b.its.histories.instance ≡ q
        one = same_instance t.intent q owns.made b

        opens : open_of d b.its.histories.instance b.its.histories.answers ≡ open_of d q q.answers
        opens = ap (open_of d b.its.histories.instance) (all_here b.its.histories left) ∙ ap (λ (y : Instance). open_of d y y.answers) one

  -- ---- an instance that has not ended has a live run: one that has no row was called by one that is about to call it
  module _ (n : ℕ) (go : (i : IntentId) (z : Instance) → length i.hops < n → map.get h.histories i ≡ Some z → z.outcome ≡ None → Cause ⊎ (has_run c.runs i ≡ true))
      (id : IntentId) (q : Instance) (short : length id.hops < suc n) (made : map.get h.histories id ≡ Some q) (none : q.outcome ≡ None) (w : WasCalled d h.histories id q) where
    shorter : length w.caller.hops < n
    shorter = let l = hops_more w.caller w.step id w.is in omega (arith, l, short)

    there : map.get h.histories (child_of w.caller w.step) ≡ Some q
    there = ap (map.get h.histories) (sym w.is) ∙ made

    -- by a run of the caller at the front
    by_front : (P : Type 0) → w.waiter.outcome ≡ None → ((b : Top w.caller) → b.its.histories.later ≡ [] → P) → Cause ⊎ P
    by_front P open_caller f = elim (go w.caller w.waiter shorter w.made open_caller) [
      | inl cause ↦ inl cause
      | inr has ↦ elim (best d c m waiting s all w.caller has) [
        | inl cause ↦ inl cause
        | inr b ↦ elim (at_front d c m waiting s all w.caller w.waiter w.made open_caller b) [ inl cause ↦ inl cause | inr left ↦ inr (f b left) ]
      ]
    ]

    -- a caller that waits
    module _ (f : ℕ) (v : Value) (call : effect_before d w.waiter w.step ≡ Effect.Call f v) (unanswered : slice_get w.waiter.answers w.step ≡ None) where
      last : w.step ≡ length w.waiter.answers
      last = let here = w.called.here in elim (slice_get_cases w.waiter.answers w.step).1 [ inl z ↦ absurd (there_none z.0 z.2) | inr z ↦ (let le = z.0 in omega (arith, le, here)) ]
        where
          there_none : (a : Answer) → slice_get w.waiter.answers w.step ≡ Some a → ⊥
          there_none a e = let clash : None ≡ Some a = sym unanswered ∙ e in cc

      call_now : effect_of d w.waiter ≡ Effect.Call f v
      call_now = let e = last in ap (effect_after d w.waiter) (sym (take_all w.step w.waiter.answers (omega (arith, e)))) ∙ call

      open_caller : w.waiter.outcome ≡ None
      open_caller = by_option w.waiter.outcome (λ e. e) (λ u e. absurd (returns u ((h.well_formed.each w.caller w.waiter w.made).over u e)))
        where
          returns : (u : Outcome) → effect_of d w.waiter ≡ Effect.Return u → ⊥
          returns u e = let clash : Effect.Call f v ≡ Effect.Return u = sym call_now ∙ e in cc

      has_callee : (b : Top w.caller) → b.its.histories.later ≡ [] → has_run c.runs id ≡ true
      has_callee b left = by_wait b.its.wait refl
        where
          one : b.its.histories.instance ≡ w.waiter
          one = same_instance w.caller w.waiter w.made b

          effect : b.its.begun.machine.effect ≡ Effect.Call f v
          effect = sym (effect_next b.its.histories left) ∙ ap (effect_of d) one ∙ call_now

          at_step : b.its.begun.machine.steps ≡ w.step
          at_step = step_here b.its.histories left ∙ ap (λ (y : Instance). length y.answers) one ∙ sym last

          why : (y : Wait) → b.its.wait ≡ y → Why m b.run.id b.its.begun.machine.steps (tx_at b.run.id b.run.func b.its.begun.tx) b.its.begun.machine.effect y
          why y e = subst (Why m b.run.id b.its.begun.machine.steps (tx_at b.run.id b.run.func b.its.begun.tx) b.its.begun.machine.effect) e b.its.stopped_so.why

          by_wait : (y : Wait) → b.its.wait ≡ y → has_run c.runs id ≡ true
          by_wait (Wait.Held o) e = absurd ((why (Wait.Held o) e).apart f v effect)
          by_wait Wait.Worn e = absurd (why Wait.Worn e)
          by_wait (Wait.Result j) e = subst (λ z. has_run c.runs z ≡ true) ((why (Wait.Result j) e).callee ∙ (λ i. child_of (b.same i) (at_step i)) ∙ sym w.is) (b.its.runs j e)

      waited_run : Cause ⊎ (has_run c.runs id ≡ true)
      waited_run = by_front (has_run c.runs id ≡ true) open_caller has_callee

    -- one that does not
    module _ (f : ℕ) (v : Value) (call : effect_before d w.waiter w.step ≡ Effect.Async f v) (answered : slice_get w.waiter.answers w.step ≡ Some Answer.Done) where
      less_step : w.step < length w.waiter.answers
      less_step = slice_get_within w.waiter.answers w.step Answer.Done answered

      enrolled_run : IsEnrolled m w.waiter.func w.caller w.step → has_run c.runs id ≡ true
      enrolled_run e = subst (λ z. has_run c.runs z ≡ true) (sym w.is) (row_run d c m h (child_of w.caller w.step) q there none each e.call.func (ap is_some e.callee.has.there))

      passes : (b : Top w.caller) → b.its.histories.later ≡ [] → IsEnrolled m w.waiter.func w.caller w.step
      passes b left = enrolled d c m h s.past w.caller w.waiter w.made w.step f v less_step call s.seats may q there
        where
          past : w.step < b.its.begun.machine.steps
          past = subst (λ n. w.step < n) (sym (step_here b.its.histories left ∙ ap (λ (y : Instance). length y.answers) (same_instance w.caller w.waiter w.made b))) less_step

          may : MayPass m w.caller w.step
          may = subst (λ i. MayPass m i w.step) b.same (s.passes.each b.number b.run b.its.begun b.its.live b.its.at w.step past)

      sent_run : Cause ⊎ (has_run c.runs id ≡ true)
      sent_run = by_option w.waiter.outcome (λ e. by_front (has_run c.runs id ≡ true) e (λ b left. enrolled_run (passes b left)))
          (λ u e. inr (enrolled_run (recorded_registered d c m h s.seats s.past w.caller w.waiter w.step f v w.made less_step call (inr (inr (ap is_some e))))))

    called_run : Cause ⊎ (has_run c.runs id ≡ true)
    called_run = by_waits w.called.waits w.called.call w.called.answered
      where
        by_waits : (b : Bool) → effect_before d w.waiter w.step ≡ call_of b q.func q.args → slice_get w.waiter.answers w.step ≡ answer_given b q.outcome → Cause ⊎ (has_run c.runs id ≡ true)
        by_waits true call answered = waited_run q.func q.args call (answered ∙ ap (answer_given true) none)
        by_waits false call answered = sent_run q.func q.args call answered

  -- a root has its row
  root_run : (id : IntentId) (q : Instance) → map.get h.histories id ≡ Some q → q.outcome ≡ None → id ≡ root_of id.ticket → has_run c.runs id ≡ true
  root_run id q made none root = elim (row_open d c m h id q made none 0) [ inl e ↦ absurd (absent e) | inr z ↦ each 0 id z.row z.body z.there z.has z.unended ]
    where
      absent : map.get m (key_in 0 id) ≡ None → ⊥
      absent e =
          let unknown : map.get h.histories id ≡ None = subst (λ b. IntentMatches (has_ended d h.histories) b 0 None (map.get h.histories id)) (ap (λ (z : IntentId). has_no_hops z.hops) root) (row_at d c m h 0 id None e) in
          let clash : None ≡ Some q = sym unknown ∙ made in cc

  runs_by : (n : ℕ) (id : IntentId) (q : Instance) → length id.hops < n → map.get h.histories id ≡ Some q → q.outcome ≡ None → Cause ⊎ (has_run c.runs id ≡ true)
  runs_by zero id q short made none = absurd (omega (arith, short))
  runs_by (suc n) id q short made none = elim (root_or_called d h.histories h.well_formed id q made) [ inl root ↦ inr (root_run id q made none root) | inr w ↦ called_run n (runs_by n) id q short made none w ]

  -- ---- each live run leads to a higher one, or there is a cause
  abbrev Lives : ℕ → Type 0
  Lives i = is_some (map.get c.runs i) ≡ true

  abbrev Rises : ℕ → ℕ → Type 0
  Rises i j = Up (map.get c.runs i) (map.get c.runs j)

  abbrev Next : ℕ → Type 0
  Next i = Cause ⊎ Higher Lives Rises (numbers c.last_run) i

  module _ (i : ℕ) (r : Run) (w : Waits d c m waiting s all i r) where
    abbrev mine : Option TxId
    mine = tx_at r.id r.func w.begun.tx

    rises : (j : ℕ) (z : Run) (y : Waits d c m waiting s all j z) → Above mine (length r.id.hops) (tx_at z.id z.func y.begun.tx) (length z.id.hops) → Next i
    rises j z y above = inr (record {
      to = j;
      among = is_number d c m waiting s all j z y.live;
      is = ap is_some y.live;
      higher = subst (λ o. Up o (map.get c.runs j)) (sym w.live) (subst (Up (Some r)) (sym y.live)
          (subst (λ a. Above (tx_in r a) (length r.id.hops) (tx_in z z.at) (length z.id.hops)) (sym w.at) (subst (λ a. Above mine (length r.id.hops) (tx_in z a) (length z.id.hops)) (sym y.at) above)));
    })

    -- it waits for what it called, which is in its transaction
    module _ (j : IntentId) (z : Called r.id w.begun.machine.steps w.begun.machine.effect j) (l : LiveRun c.runs j) (y : Waits d c m waiting s all l.number l.run) where
      abbrev step : ℕ
      step = w.begun.machine.steps

      is_callee : l.run.id ≡ child_of r.id step
      is_callee = l.same ∙ z.callee

      call_waits : (b : Bool) (f : ℕ) (v : Value) → Effect.Call z.func z.args ≡ call_of b f v → b ≡ true
      call_waits true f v e = refl
      call_waits false f v e = cc

      inner : y.histories.instance.enclosing ≡ mine
      inner =
          let k = called_here d c m h r.id step y.histories.instance (ap (map.get h.histories) (sym is_callee) ∙ y.histories.made) in
          let same : k.0 ≡ w.histories.instance = same_some (sym k.1.0 ∙ w.histories.made) in
          let call = k.1.1 in
          let waits_so = call_waits call.waits y.histories.instance.func y.histories.instance.args (sym z.call ∙ sym (effect_here w.histories) ∙ sym (ap (λ (u : Instance). effect_before d u step) same) ∙ call.call) in
          call.enclosing ∙ ap (λ b. enclosing_by b (tx_step d r.id k.0 step)) waits_so ∙ ap (λ (u : Instance). tx_step d r.id u step) same ∙ tx_is d c m waiting s all i r w

      stays_in : (t : TxId) → mine ≡ Some t → tx_at l.run.id l.run.func y.begun.tx ≡ Some t
      stays_in t e = ap (tx_at l.run.id l.run.func) (y.histories.run_open ∙ open_in d y.histories.instance t y.histories.answers (inner ∙ e))

      to_callee : Next i
      to_callee = rises l.number l.run y (callee_above mine (length r.id.hops) (length l.run.id.hops) (tx_at l.run.id l.run.func y.begun.tx) stays_in (hops_more r.id step l.run.id is_callee))

    -- it waits for a transaction that owns its item
    module _ (t : TxId) (o : Owned m mine w.begun.machine.effect (Owner.Tx t)) where
      to_top : (b : Top t.intent) → b.its.histories.later ≡ [] → Next i
      to_top b left =
          let y = stands t o.item o.owns b left in
          rises b.number b.run b.its (subst (λ a. Above mine (length r.id.hops) (tx_at b.run.id b.run.func a) (length b.run.id.hops)) (sym y.1)
          (owner_above mine (length r.id.hops) (length b.run.id.hops) (own_tx b.run.id b.run.func y.0) (λ u e. subst (λ a. is_older u.intent a ≡ true) (sym b.same) (o.older u e))))

      to_owner : Next i
      to_owner = elim (runs_by (suc (length t.intent.hops)) t.intent (q t o.item o.owns) (omega arith) (owns t o.item o.owns).made (open_still t o.item o.owns)) [
        | inl cause ↦ inl cause
        | inr has ↦ elim (best d c m waiting s all t.intent has) [
          | inl cause ↦ inl cause
          | inr b ↦ elim (at_front d c m waiting s all t.intent (q t o.item o.owns) (owns t o.item o.owns).made (open_still t o.item o.owns) b) [ inl cause ↦ inl cause | inr left ↦ to_top b left ]
        ]
      ]

    by_owner : (o : Owner) → Owned m mine w.begun.machine.effect o → Next i
    by_owner (Owner.Intent j) o = absurd (no_intent_owns d no c m h o.item j o.owns)
    by_owner (Owner.Tx t) o = to_owner t o

    by_wait : (z : Wait) → w.wait ≡ z → Why m r.id w.begun.machine.steps mine w.begun.machine.effect z → Next i
    by_wait (Wait.Held o) e why = by_owner o why
    by_wait Wait.Worn e why = absurd why
    by_wait (Wait.Result j) e why = let l = live_run c.runs j (w.runs j e) in elim (waits d c m waiting s all l.number l.run l.live) [ inl cause ↦ inl cause | inr y ↦ to_callee j why l y ]

    goes_on : Next i
    goes_on = by_wait w.wait refl w.stopped_so.why

  next : (i : ℕ) → Lives i → Next i
  next i lives = by_option (map.get c.runs i) (λ e. absurd (dead e)) (λ r live. elim (waits d c m waiting s all i r live) [ inl cause ↦ inl cause | inr w ↦ goes_on i r w ])
    where
      dead : map.get c.runs i ≡ None → ⊥
      dead e = let clash : false ≡ true = sym (ap is_some e) ∙ lives in cc

  pub cause : (i : ℕ) → Lives i → Cause
  cause i lives = chain Lives Rises Cause (λ x y z. up_on (map.get c.runs x) (map.get c.runs y) (map.get c.runs z)) (λ x. not_up (map.get c.runs x)) (numbers c.last_run) (λ y at is. next y is) i (next i lives)

pub waits_have_cause : WaitsHaveCause
waits_have_cause d c m waiting s none all each some = let r = some_run c.runs some in cause d c m waiting s.upkeep none all each r.0 r.1
