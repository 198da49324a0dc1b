-- The turn of a run that has begun: what it shows in the rows, it is past.
use Rattle.beldi_plain_laws.proofs.Ends.{fits_at}
use Rattle.beldi_invariant.proofs.Names.{Answer, Begins, Begun, Bool, Caller, Core, Deployment, Inside, Instance, IntentId, InvokeRow, IsCalled, Kind, Knows, List, None, OpenTx, Option, Outcome, Own, Place, Query, Return, Invariant, Row, RowAct, RowKey, Rows, Run, Some, Value, [], ap, arith, call_of, child_of, effect_before, false, invoke_key, IsTrue, func_called, option_map, wants_answer, is_some, length, length-append, ltb-false, ltb-true, nat_lt, place_of, refl, rows_after, same_some, stage_asks, subst, sym, true, ℕ, ◌<◌, ◌∙◌, ◌∷◌, ◌≡◌}
use Rattle.beldi_invariant.proofs.Names.map
use Rattle.beldi_histories.proofs.Cases.{by_option}
use Rattle.beldi_invariant.proofs.{Cases.by_list, Members.call_there, OpenOf.open_begun, OpenOf.own_begin, Returns.at_end, Returns.has_caller, StageTurns.at_steps, StageTurns.effect_here, StageTurns.not_over, StageTurns.step_here}
use Rattle.beldi_upkeep.specs.Passed.{MayPass, PastCalls, RunsPast, ShowsPast, may_pass}
use Rattle.beldi_upkeep.proofs.{FromInvariant.call_is, FromInvariant.called_here, PastAsks.Suits, PastAsks.stage_suits, PastFront.none_past, PastRows.OpensNow, PastRows.past_on}

no_return : (w : Bool) (f : ℕ) (v : Value) (u : Outcome) → call_of w f v ≡ Return u → ⊥
no_return true f v u e = cc
no_return false f v u e = cc

abbrev place_in : Place → Kind → Place
place_in p (Kind.Invoke q) = q
place_in p z = p

-- ---- the row of a call of an instance: it was called there, in the home of its function
module _ (d : Deployment) (c : Core) (m : Rows) (h : Invariant d c m) (id : IntentId) (q : Instance) (made : map.get h.histories id ≡ Some q) (f n : ℕ) (x : InvokeRow) (at : map.get m (invoke_key f (place_of id n)) ≡ Some (Row.Invoke x)) where
  pub record CalledAt : Type 0 where
    pub callee : Instance
    pub there : map.get h.histories (child_of id n) ≡ Some callee
    pub called : IsCalled d id q n callee
    pub func : q.func ≡ f

  pub called_at : CalledAt
  called_at =
      let i = call_is d c m h f id n x at in
      let w = called_here d c m h id n i.callee i.there in
      record {
        callee = i.callee;
        there = i.there;
        called = subst (λ (y : Instance). IsCalled d id y n i.callee) (same_some (sym w.1.0 ∙ made)) w.1.1;
        func = ap (λ (y : Instance). y.func) (same_some (sym made ∙ i.made)) ∙ i.func;
      }

-- a row that is a call may be passed, if it is one
pub by_call : (o : Option Row) → ((x : InvokeRow) → o ≡ Some (Row.Invoke x) → may_pass o ≡ true) → may_pass o ≡ true
by_call None h = refl
by_call (Some (Row.Invoke x)) h = h x refl
by_call (Some w) h = refl

module _ (d : Deployment) (c : Core) (m : Rows) (h : Invariant d c m) (r : Run) (g : Begun) (k : Knows d h.histories r g) where
  -- a step at which no call is has none
  pub no_call : ((w : Bool) (f : ℕ) (v : Value) → g.machine.effect ≡ call_of w f v → ⊥) → MayPass m r.id g.machine.steps
  no_call none f = by_call (map.get m (invoke_key f (place_of r.id g.machine.steps))) (λ x is.
      let w = called_at d c m h r.id k.instance k.made f g.machine.steps x is in
      absurd (none w.called.waits w.callee.func w.callee.args (sym (effect_here k) ∙ w.called.call)))

  -- where a call is opened now, the run is at the front
  pub fresh : (w : Bool) (f : ℕ) (v : Value) → g.machine.effect ≡ call_of w f v → map.get m (invoke_key r.func (place_of r.id g.machine.steps)) ≡ None → (k.later ≡ []) × (k.instance.outcome ≡ None)
  fresh w f v is absent = (left, not_over h k left (subst (λ e. IsTrue (wants_answer e)) (sym is) (call_wants w f v)))
    where
      call_wants : (w : Bool) (f : ℕ) (v : Value) → IsTrue (wants_answer (call_of w f v))
      call_wants true f v = refl
      call_wants false f v = refl

      not_made : (j : Instance) → map.get h.histories (child_of r.id g.machine.steps) ≡ Some j → ⊥
      not_made j there =
          let row = call_there d m h.histories h.lock_ahead h.rows (r.id, r.func) (record { step = g.machine.steps; func = j.func }) (record { caller = k.instance; made = k.made; func = k.func; callee = j; there = there; its = refl }) in
          let clash = sym (ap (option_map func_called) absent) ∙ row in cc

      later_none : (a : Answer) (rest : List Answer) → k.later ≡ a ∷ rest → ⊥
      later_none a rest more =
          let all = ap length k.run_answers in
          let cut = length-append k.answers k.later in
          let len = ap length more in
          let at = at_steps k in
          let there = h.well_formed.callees r.id k.instance g.machine.steps w f v k.made (omega (arith, all, cut, len, at)) (effect_here k ∙ is) in
          by_option (map.get h.histories (child_of r.id g.machine.steps)) (λ e. let clash = sym (ap is_some e) ∙ there in cc) (λ j e. not_made j e)

      left : k.later ≡ []
      left = by_list k.later (λ e. e) (λ a rest more. absurd (later_none a rest more))

  -- so nothing shows that its intent is past it, and no run is
  pub front_only : (l : RowKey) → k.later ≡ [] → k.instance.outcome ≡ None → ShowsPast l.kind (map.get m l) r.id g.machine.steps → ⊥
  front_only l left none shows = none_past d c m h r.id k.instance k.made none l (subst (ShowsPast l.kind (map.get m l) r.id) (step_here k left) shows)

  pub none_before : (s : Run) (z : Begun) → Knows d h.histories s z → s.id ≡ r.id → k.later ≡ [] → g.machine.steps < z.machine.steps → ⊥
  none_before s z y same left less =
      let one : y.instance ≡ k.instance = same_some (sym y.made ∙ ap (map.get h.histories) same ∙ k.made) in
      let all = ap length y.run_answers in
      let cut = length-append y.answers y.later in
      let l = ap (λ (q : Instance). length q.answers) one in
      let at = at_steps y in
      let here = step_here k left in omega (arith, all, cut, l, at, here, less)

module _ (d : Deployment) (c : Core) (m : Rows) (h : Invariant d c m) (past : PastCalls m) (runs : RunsPast c m) (i : ℕ) (r : Run) (live : map.get c.runs i ≡ Some r) (g : Begun) (at_is : r.at ≡ Begins g) (k : Knows d h.histories r g) (finds : Inside m h.plain c.book k g.stage) where
  pub passes : (n : ℕ) → n < g.machine.steps → MayPass m r.id n
  passes = runs.each i r g live at_is

  begun : (x : OpenTx) → g.tx ≡ Some (Own x) → x.begin < g.machine.steps
  begun x tx =
      let b = (fits_at d k.instance k.answers).before x.begin (open_begun d k.instance k.answers ∙ ap own_begin (sym k.run_open ∙ tx)) in
      let s = at_steps k in omega (arith, b, s)

  -- one that returns is past all of its calls
  returns : (u : Outcome) → g.machine.effect ≡ Return u → (n : ℕ) → MayPass m r.id n
  returns u is n = by_test (nat_lt n g.machine.steps) refl
    where
      by_test : (b : Bool) → nat_lt n g.machine.steps ≡ b → MayPass m r.id n
      by_test true e = passes n (ltb-true n g.machine.steps e)
      by_test false e = λ f. by_call (map.get m (invoke_key f (place_of r.id n))) (λ x there.
          let w = called_at d c m h r.id k.instance k.made f n x there in
          let le = w.called.here in
          let s = step_here k (at_end d c m i r g h live k finds u is) in
          let ge = ltb-false n g.machine.steps e in
          let same : n ≡ g.machine.steps = omega (arith, le, s, ge) in
          absurd (no_return w.called.waits w.callee.func w.callee.args u (sym w.called.call ∙ ap (effect_before d k.instance) same ∙ effect_here k ∙ is)))

  backs : (z : Caller) → g.caller ≡ Some z → child_of z.place.intent z.place.step ≡ r.id
  backs z from = sym (has_caller d h.histories r.id k.instance z h.well_formed k.made (sym k.caller ∙ from)).is_callee

  -- ---- what it asks
  abbrev pub Fits : Query → Type 0
  Fits q = Suits m r.id r.func g.caller g.tx g.machine.steps g.machine.effect q

  pub asked : Fits (stage_asks r.id r.func g.caller g.tx g.machine.steps g.machine.effect g.stage)
  asked = stage_suits m r.id r.func g.caller g.tx g.machine.steps g.machine.effect passes begun returns backs g.stage

  -- a call that it opens is the one of its step, at the front
  pub record OpensOwn (s : IntentId) (n : ℕ) : Type 0 where
    pub intent : s ≡ r.id
    pub step : n ≡ g.machine.steps
    pub left : k.later ≡ []
    pub none : k.instance.outcome ≡ None

  pub opens_own : (q : RowKey) (a : RowAct) → Fits (Query.Act q a) → (s : IntentId) (n : ℕ) → OpensNow m c.now q a s n → OpensOwn s n
  opens_own q a suits s n o =
      let here = suits.1 o.opens in
      let same : place_of s n ≡ place_of r.id g.machine.steps = ap (λ (z : RowKey). place_in (place_of s n) z.kind) (o.key ∙ here.0) in
      let f = fresh d c m h r g k here.1.waits here.1.callee here.1.args here.1.is (ap (map.get m) (sym here.0) ∙ o.absent) in
      record { intent = ap (λ (p : Place). p.intent) same; step = ap (λ (p : Place). p.step) same; left = f.0; none = f.1 }

  kept : (q : Query) → Fits q → PastCalls (rows_after q c.now m)
  kept (Query.After q) suits = past
  kept (Query.Act q a) suits = past_on m c.now q a suits.0 (λ s n o l shows.
      let own = opens_own q a suits s n o in
      front_only d c m h r g k l own.left own.none (subst (λ z. ShowsPast l.kind (map.get m l) r.id z) own.step (subst (λ z. ShowsPast l.kind (map.get m l) z n) own.intent shows))) past

  pub turn_kept : PastCalls (rows_after (stage_asks r.id r.func g.caller g.tx g.machine.steps g.machine.effect g.stage) c.now m)
  turn_kept = kept (stage_asks r.id r.func g.caller g.tx g.machine.steps g.machine.effect g.stage) asked
