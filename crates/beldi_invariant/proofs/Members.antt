-- Who took part in a transaction that has ended is who its end visits: the rows of calls lead from its owner to each of them, and to
-- nobody else.
use Rattle.beldi_value.proofs.Callees.{no_root}
use Rattle.beldi_txn.specs.CallPath.{callee_of}
use Rattle.beldi_histories.proofs.OwnTx.{Own}
use Rattle.beldi_invariant.proofs.Names.{AllShort, AtEnd, Bool, CallMatches, Called, CalledBy, CallerOf, Deployment, Done, Instance, IntentId, IsAnswer, IsCall, IsCalled, IsMember, IsCallPath, IsWithin, Histories, List, Matches, Member, None, Option, Outcome, Row, Rows, WellFormedHistories, Some, TookPart, TxId, [], all_called, answer_given, ap, arith, begun_before, call_key, call_of, called_at, called_by, caller_in, child_of, effect_before, ended_by, eq-eqb, false, first_end, func_called, has_callees, has_no_hops, if◌then◌else◌, intent_key, is_some, key_in, length, length-append, lt-ltb, member_at, member_more, option_map, or_own, place_of, refl, result_of, same_some, subst, sym, take, true, tx_at, tx_by, tx_end, txs_after, visited_by, path_more, enclosing_by, ℕ, ◌++◌, ◌<◌, ◌==◌, ◌∙◌, ◌∷◌, ◌≡◌, ◌≤◌, Kind}
use Rattle.beldi_invariant.proofs.Ended.{before_end, tx_between}
use Rattle.beldi_invariant.proofs.Names.map

-- ---- ids
pub callee_is : (p : Member) (c : Called) → has_callees p.0 ≡ true → callee_of p c ≡ (child_of p.0 c.step, c.func)
callee_is p c has = ap (λ b. (if b then child_of p.0 c.step else p.0, c.func)) has

-- an id that has a callee whose id is short enough
caller_short : (i : IntentId) (n : ℕ) → length (child_of i n).hops ≤ 63 → has_callees i ≡ true
caller_short i n few = let more = length-append i.hops (n ∷ []) in lt-ltb (length i.hops) 63 (omega (arith, few, more))

-- ---- rows of calls
-- who calls and who is called there are known
pub record IsRecordedCall (histories : Histories) (p : Member) (c : Called) : Type 0 where
  pub caller : Instance
  pub made : map.get histories p.0 ≡ Some caller
  pub func : caller.func ≡ p.1
  pub callee : Instance
  pub there : map.get histories (child_of p.0 c.step) ≡ Some callee
  pub its : callee.func ≡ c.func

-- a member of the transaction that was called in it, with its function
pub record TakesPart (histories : Histories) (t : TxId) (p : Member) : Type 0 where
  pub instance : Instance
  pub made : map.get histories p.0 ≡ Some instance
  pub enclosing : instance.enclosing ≡ Some t
  pub func : instance.func ≡ p.1

abbrev pub took_part : {histories : Histories} {t : TxId} {p : Member} → TakesPart histories t p → TookPart histories t p.0
took_part k = record { instance = k.instance; made = k.made; enclosing = k.enclosing }

module _ (d : Deployment) (m : Rows) (histories : Histories) (lock_ahead : IntentId → Bool) (h : Matches d m histories lock_ahead) where
  module _ (p : Member) (c : Called) where
    -- a row that is there is expected
    pub call_recorded : called_at m p c.step ≡ Some c.func → IsRecordedCall histories p c
    call_recorded is = by_row (map.get m (call_key p.1 p.0 c.step)) (h.keys (call_key p.1 p.0 c.step)) is
      where
        by_test : (i j : Instance) → map.get histories p.0 ≡ Some i → map.get histories (child_of p.0 c.step) ≡ Some j → (z : ℕ × Option Outcome) → z.0 ≡ c.func → (b : Bool) → (i.func == p.1) ≡ b → (if b then Some (j.func, result_of j) else None) ≡ Some z → IsRecordedCall histories p c
        by_test i j made there z same b e expected = grind arith

        by_recorded : (o u : Option Instance) → map.get histories p.0 ≡ o → map.get histories (child_of p.0 c.step) ≡ u → (z : ℕ × Option Outcome) → z.0 ≡ c.func → called_by p.1 o u ≡ Some z → IsRecordedCall histories p c
        by_recorded o u made there z same expected = grind arith

        by_row : (r : Option Row) → CallMatches r (called_by p.1 (map.get histories p.0) (map.get histories (child_of p.0 c.step))) → option_map func_called r ≡ Some c.func → IsRecordedCall histories p c
        by_row r expected e = grind arith

    -- and one that is expected is there
    pub call_there : IsRecordedCall histories p c → called_at m p c.step ≡ Some c.func
    call_there k = by_row (map.get m (call_key p.1 p.0 c.step)) (subst (λ o. CallMatches (map.get m (call_key p.1 p.0 c.step)) o) expected (h.keys (call_key p.1 p.0 c.step))) ∙ ap Some k.its
      where
        expected : called_by p.1 (map.get histories p.0) (map.get histories (child_of p.0 c.step)) ≡ Some (k.callee.func, result_of k.callee)
        expected = (λ i. called_by p.1 (k.made i) (k.there i)) ∙ ap (λ b. if b then Some (k.callee.func, result_of k.callee) else None) (eq-eqb k.caller.func p.1 k.func)

        by_row : (r : Option Row) → CallMatches r (Some (k.callee.func, result_of k.callee)) → option_map func_called r ≡ Some k.callee.func
        by_row r e = grind arith

  -- ---- a transaction that has ended
  module _ (well_formed : WellFormedHistories d histories) (t : TxId) where
    -- who is called in it takes part in it
    joins : (i : IntentId) (q j : Instance) (n : ℕ) → map.get histories i ≡ Some q → tx_at d i q n ≡ Some t → map.get histories (child_of i n) ≡ Some j → j.enclosing ≡ Some t
    joins i q j n is now there = by_waits c.waits refl
      where
        c : IsCalled d i q n j
        c = subst (λ o. CalledBy d i o n j) is (well_formed.called i n j there)

        by_waits : (w : Bool) → c.waits ≡ w → j.enclosing ≡ Some t
        by_waits true e = c.enclosing ∙ ap (λ w. enclosing_by w (tx_at d i q n)) e ∙ now
        by_waits false e =
            let so = (well_formed.each i q is).past n Done (c.answered ∙ ap (λ w. answer_given w j.outcome) e) in
            absurd (subst (λ f. IsAnswer (place_of i n) (Some t) f Done) (c.call ∙ ap (λ w. call_of w j.func j.args) e) (subst (λ o. IsAnswer (place_of i n) o (effect_before d q n) Done) now so))

    next_joins : (p : Member) (c : Called) → IsCall m p c → (k : IsRecordedCall histories p c) → tx_at d p.0 k.caller c.step ≡ Some t → TakesPart histories t (callee_of p c)
    next_joins p c call k now = subst (TakesPart histories t) (sym (callee_is p c call.0)) (record { instance = k.callee; made = k.there; enclosing = joins p.0 k.caller k.callee c.step k.made now k.there; func = k.its })

    -- who took part, and who is called by them
    pub callee_joins : (p : Member) (c : Called) → TakesPart histories t p → IsCall m p c → TakesPart histories t (callee_of p c)
    callee_joins p c part call =
        let k = call_recorded p c call.1 in
        let ts = take c.step k.caller.answers in
        let inner : k.caller.enclosing ≡ Some t = ap (λ (q : Instance). q.enclosing) (same_some (sym k.made ∙ part.made)) ∙ part.enclosing in
        next_joins p c call k (ap (λ w. or_own w (tx_by p.0 k.caller.func (length ts) (effect_before d k.caller c.step) (txs_after d k.caller ts).begun)) inner)

    way_joins : (p : Member) (cs : List Called) → TakesPart histories t p → IsCallPath m p cs → TakesPart histories t (member_at p cs)
    way_joins p [] part w = part
    way_joins p (c ∷ cs) part w = way_joins (callee_of p c) cs (callee_joins p c part w.0) w.1

    module _ (z : ℕ × Bool) (ended : tx_end d histories t ≡ Some z) where
      owner_calls : (c : Called) → (t.begin < c.step) × (c.step < z.0) → IsCall m (t.intent, t.func) c → TakesPart histories t (callee_of (t.intent, t.func) c)
      owner_calls c in_it call =
          let k = call_recorded (t.intent, t.func) c call.1 in
          let ends = sym (ap (ended_by d t.begin) k.made) ∙ ended in
          next_joins (t.intent, t.func) c call k (tx_between d k.caller t.begin z ends t.intent c.step in_it.0 in_it.1 ∙ ap (λ f. Some (record { intent = t.intent; begin = t.begin; func = f })) k.func)

      -- who the calls lead to took part
      pub members_joined : (c : Called) (cs : List Called) → IsMember (first_end t z.0 z.1) m (c ∷ cs) → TakesPart histories t (visited_by t (c ∷ cs))
      members_joined c cs member = way_joins (callee_of (t.intent, t.func) c) cs (owner_calls c member.0 member.1.0) member.1.1

      -- .. and so did who they call
      pub calls_joined : (cs : List Called) → IsMember (first_end t z.0 z.1) m cs → (c : Called) → AtEnd (IsWithin (first_end t z.0 z.1)) cs c.step → IsCall m (visited_by t cs) c → TakesPart histories t (callee_of (visited_by t cs) c)
      calls_joined [] member c at call = owner_calls c at call
      calls_joined (e ∷ es) member c at call = callee_joins (visited_by t (e ∷ es)) c (members_joined e es member) call

      -- ---- calls lead to each of them
      pub record IsReached (p : Member) : Type 0 where
        pub first : Called
        pub rest : List Called
        pub member : IsMember (first_end t z.0 z.1) m (first ∷ rest)
        pub leads : visited_by t (first ∷ rest) ≡ p

      module _ (short : AllShort histories) where
        -- the call that its caller made
        call_of_it : (j : IntentId) (y : Instance) (c : CallerOf d histories t j y) → IsCall m (c.caller, c.waiter.func) (record { step = c.step; func = y.func })
        call_of_it j y c = (
          caller_short c.caller c.step (subst (λ (i : IntentId). length i.hops ≤ 63) c.is (short j (ap is_some c.there))),
          call_there (c.caller, c.waiter.func) (record { step = c.step; func = y.func }) (record { caller = c.waiter; made = c.made; func = refl; callee = y; there = ap (map.get histories) (sym c.is) ∙ c.there; its = refl }),
        )

        -- its caller is the owner ..
        by_owner : (j : IntentId) (y : Instance) (c : CallerOf d histories t j y) → Own c.caller c.waiter.func (txs_after d c.waiter (take c.step c.waiter.answers)).begun t → IsReached (j, y.func)
        by_owner j y c own =
            let called : Called = record { step = c.step; func = y.func } in
            let same : ◌≡◌ {A = Member} (t.intent, t.func) (c.caller, c.waiter.func) = λ i. (own.intent i, own.func_is i) in
            let call = call_of_it j y c in
            let ends = sym (ap (λ i. ended_by d t.begin (map.get histories i)) own.intent ∙ ap (ended_by d t.begin) c.made) ∙ ended in
            let begins : t.begin < c.step = begun_before d histories t j y c own in
            record {
              first = called;
              rest = [];
              member = ((begins, before_end d c.waiter t.begin z ends c.step c.here own.begun begins (λ b g. let clash = sym g ∙ c.call in cc)), (subst (λ (p : Member). IsCall m p called) (sym same) call, tt));
              leads = ap (λ (p : Member). callee_of p called) same ∙ callee_is (c.caller, c.waiter.func) called call.0 ∙ ap (λ i. (i, y.func)) (sym c.is);
            }

        -- .. or one of them
        by_part : (j : IntentId) (y : Instance) (c : CallerOf d histories t j y) → IsReached (c.caller, c.waiter.func) → IsReached (j, y.func)
        by_part j y c r =
            let called : Called = record { step = c.step; func = y.func } in
            let call = call_of_it j y c in
            record {
              first = r.first;
              rest = r.rest ++ called ∷ [];
              member = (r.member.0, path_more m (t.intent, t.func) (r.first ∷ r.rest) called r.member.1 (subst (λ (p : Member). IsCall m p called) (sym r.leads) call));
              leads = member_more (t.intent, t.func) (r.first ∷ r.rest) called ∙ ap (λ (p : Member). callee_of p called) r.leads ∙ callee_is (c.caller, c.waiter.func) called call.0 ∙ ap (λ i. (i, y.func)) (sym c.is);
            }

        pub reached : (j : IntentId) (y : Instance) → map.get histories j ≡ Some y → y.enclosing ≡ Some t → IsReached (j, y.func)
        reached = all_called d histories well_formed t (λ j y. IsReached (j, y.func)) (λ j y inner c outside own. by_owner j y c own) (λ j y inner c up r. by_part j y c r)

-- ---- who took part has hops, and so the row in the home of its function
module _ (d : Deployment) (histories : Histories) (well_formed : WellFormedHistories d histories) where
  pub part_below : (t : TxId) (i : IntentId) → TookPart histories t i → has_no_hops i.hops ≡ false
  part_below t i part = let c = caller_in d histories well_formed t i part.instance part.made part.enclosing in ap (λ (y : IntentId). has_no_hops y.hops) c.is ∙ no_root c.caller c.step

  pub part_key : (t : TxId) (i : IntentId) (func : ℕ) → TookPart histories t i → intent_key i func ≡ key_in func i
  part_key t i func part = ap (λ b. record { home = if b then 0 else func; kind = Kind.Intent i }) (part_below t i part)
