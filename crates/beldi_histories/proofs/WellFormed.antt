-- All that the histories have stays well formed: move by move.
use Rattle.beldi_histories.proofs.Names.{Answer, Bool, CalledBy, Caller, Cause, Closed, Deployment, Effect, Instance, IntentId, IsAlone, IsAnswer, IsCalled, IsDeath, Histories, List, None, Option, Outcome, Place, Rel, WellFormedHistories, WellFormedHistory, Some, TxId, Value, [], local_answer, answer_given, answer_of, answered, ap, arith, local_steps, both_set, call_of, callee_answered, callee_ended, callee_new, callee_of, callee_over, callee_sent, caller_answered, caller_ended, calls_at, child_of, child_same, effect_before, effect_now, effect_of, effect_past, ended, false, has_no_hops, inl, inr, is_some, is_waited, length, longer_cases, made_set, advanced, new_instance, next_step, no_root, none_by, not_root, local_step, option_map, pairs_set, place_of, refl, root_of, same_some, slice_get, still_made, subst, sym, touched, true, tx_at, tx_here_now, tx_now, ℕ, ◌<◌, ◌∙◌, ◌≡◌}
use Rattle.beldi_histories.proofs.{LocalSteps.origin_stays, LocalSteps.closed_local_steps, Frame.local_steps_is, Frame.local_steps_by, RunsStay.well_formed_once, RunsStay.well_formed_moved}
use Rattle.beldi_histories.proofs.Names.map

-- ---- one instance
abbrev Good : Deployment → IntentId → Instance → Type 0
Good d id q = WellFormedHistory d id q × Closed d id q

-- one without answers and outcome, and what takes no turn
good_new : (d : Deployment) (id : IntentId) (q : Instance) → q.answers ≡ [] → q.outcome ≡ None → Good d id (local_steps d id q)
good_new d id q empty none =
    let fresh : WellFormedHistory d id q = record { past = λ n a g. let k = ap (λ xs. slice_get xs n) (sym empty) ∙ g in cc; over = λ o g. let k = sym none ∙ g in cc } in
    (well_formed_once d id (local_step d id q) (well_formed_once d id q fresh), closed_local_steps d id q)

good_moved : (d : Deployment) (id : IntentId) (q : Instance) (a : Answer) → q.outcome ≡ None → IsAnswer (place_of id (length q.answers)) (tx_now d id q) (effect_of d q) a → WellFormedHistory d id q → Good d id (advanced d id q a)
good_moved d id q a none is h = (well_formed_moved d id q a none is h, closed_local_steps d id (answered q a))

good_ended : (d : Deployment) (id : IntentId) (q : Instance) (o : Outcome) → effect_of d q ≡ Effect.Return o → WellFormedHistory d id q → Good d id (ended q o)
good_ended d id q o is h = (record { past = h.past; over = λ u g. is ∙ ap Effect.Return (same_some g) }, λ none. cc)

-- a return has no answer
no_return : (p : Place) (t : Option TxId) (o : Outcome) (a : Answer) → IsAnswer p t (Effect.Return o) a → ⊥
no_return p None o a h = h
no_return p (Some t) o a h = h

-- a call is answered by an outcome
call_answers : (p : Place) (t : Option TxId) (f : ℕ) (v : Value) (o : Outcome) → IsAnswer p t (Effect.Call f v) (answer_of o)
call_answers p t f v (Outcome.Value w) = tt
call_answers p t f v o = tt

-- so who has one has no outcome
pub open_still : (d : Deployment) (id : IntentId) (q : Instance) (a : Answer) → WellFormedHistory d id q → IsAnswer (place_of id (length q.answers)) (tx_now d id q) (effect_of d q) a → q.outcome ≡ None
open_still d id q a h fits = none_by q.outcome (λ o is. no_return (place_of id (length q.answers)) (tx_now d id q) o a (subst (λ e. IsAnswer (place_of id (length q.answers)) (tx_now d id q) e a) (h.over o is) fits))

pub not_waited : (o : Option Caller) → is_waited o ≡ false → IsAlone o
not_waited None h = λ c is. cc
not_waited (Some z) h = λ c is. ap (λ (y : Caller). y.waits) (sym (same_some is)) ∙ h

-- ---- an instance and what it called at a step
-- what is there was called there, and a call that was answered has its callee
abbrev Pair : Deployment → IntentId → Option Instance → ℕ → Option Instance → Type 0
Pair d i o n (Some j) = CalledBy d i o n j
Pair d i None n None = Unit {0}
Pair d i (Some q) n None = n < length q.answers → (w : Bool) (f : ℕ) (v : Value) → effect_before d q n ≡ call_of w f v → ⊥

abbrev Pairs : Deployment → Histories → Type 0
Pairs d f = (i : IntentId) (n : ℕ) → Pair d i (map.get f i) n (map.get f (child_of i n))

-- the effect takes a turn, so it is no call
no_call : (id : IntentId) (n : ℕ) (e : Effect) (a : Answer) (w : Bool) (f : ℕ) (v : Value) → local_answer id n e ≡ Some a → e ≡ call_of w f v → ⊥
no_call id n e a true f v h is = elim (local_steps_is id n e a h) [ inl g ↦ let k = sym g ∙ is in cc | inr g ↦ let k = sym g.0 ∙ is in cc ]
no_call id n e a false f v h is = elim (local_steps_is id n e a h) [ inl g ↦ let k = sym g ∙ is in cc | inr g ↦ let k = sym g.0 ∙ is in cc ]

module _ (d : Deployment) (i : IntentId) where
  pub tx_here : (q : Instance) → tx_at d i q (length q.answers) ≡ tx_now d i q
  tx_here q = tx_here_now d q i

  -- the caller is answered, but not at this step unless it stands at no call there
  pair_answered : (q : Instance) (a : Answer) (n : ℕ) (o : Option Instance) → (n ≡ length q.answers → (w : Bool) (f : ℕ) (v : Value) → effect_of d q ≡ call_of w f v → ⊥) → Pair d i (Some q) n o → Pair d i (Some (answered q a)) n o
  pair_answered q a n None other h = λ lt w f v is. elim (longer_cases q.answers a n lt) [
    | inl e ↦ other e w f v (sym (effect_now d q) ∙ ap (effect_before d q) (sym e) ∙ sym (effect_past d q a n (omega (arith, e))) ∙ is)
    | inr l ↦ h l w f v (sym (effect_past d q a n (omega (arith, l))) ∙ is)
  ]
  pair_answered q a n (Some j) other h = caller_answered d i q a n (Some j) other h

  pair_local_steps : (q : Instance) (n : ℕ) (o : Option Instance) → Pair d i (Some q) n o → Pair d i (Some (local_steps d i q)) n o
  pair_local_steps q n o h = local_steps_by d i (λ r. Pair d i (Some r) n o) (λ r a none is g. pair_answered r a n o (λ e w f v call. no_call i (length r.answers) (effect_of d r) a w f v is call) g) q h

  pair_moved : (q : Instance) (a : Answer) (n : ℕ) (o : Option Instance) → (n ≡ length q.answers → (w : Bool) (f : ℕ) (v : Value) → effect_of d q ≡ call_of w f v → ⊥) → Pair d i (Some q) n o → Pair d i (Some (advanced d i q a)) n o
  pair_moved q a n o other h = pair_local_steps (answered q a) n o (pair_answered q a n o other h)

  -- the caller is made, or ends
  pair_new : (q : Instance) (n : ℕ) (o : Option Instance) → q.answers ≡ [] → Pair d i None n o → Pair d i (Some (local_steps d i q)) n o
  pair_new q n None empty h = pair_local_steps q n None (λ lt w g a is. let k = ap length empty in omega (arith, lt, k))
  pair_new q n (Some j) empty h = absurd h

  pair_ended : (q : Instance) (u : Outcome) (n : ℕ) (o : Option Instance) → Pair d i (Some q) n o → Pair d i (Some (ended q u)) n o
  pair_ended q u n None h = h
  pair_ended q u n (Some j) h = caller_ended d i q u n (Some j) h

  -- the callee is answered
  callee_on : (o : Option Instance) (n : ℕ) (j : Instance) (a : Answer) → Pair d i o n (Some j) → Pair d i o n (Some (answered j a))
  callee_on None n j a h = h
  callee_on (Some q) n j a h = callee_answered d i (Some q) n j a h

  callee_local_steps : (k : IntentId) (o : Option Instance) (n : ℕ) (j : Instance) → Pair d i o n (Some j) → Pair d i o n (Some (local_steps d k j))
  callee_local_steps k o n j h = local_steps_by d k (λ r. Pair d i o n (Some r)) (λ r a none is g. callee_on o n r a g) j h

  callee_moved : (k : IntentId) (o : Option Instance) (n : ℕ) (j : Instance) (a : Answer) → Pair d i o n (Some j) → Pair d i o n (Some (advanced d k j a))
  callee_moved k o n j a h = callee_local_steps k o n (answered j a) (callee_on o n j a h)

  -- it ends, and nobody waited for it
  callee_alone : (o : Option Instance) (n : ℕ) (j : Instance) (u : Outcome) → IsAlone j.parent → Pair d i o n (Some j) → Pair d i o n (Some (ended j u))
  callee_alone None n j u alone h = h
  callee_alone (Some q) n j u alone h = callee_over d i (Some q) n j u alone h

-- ---- all that the histories have
abbrev AllGood : Deployment → Histories → Type 0
AllGood d f = (id : IntentId) (q : Instance) → map.get f id ≡ Some q → Good d id q

abbrev Roots : Histories → Type 0
Roots f = (t : ℕ) (q : Instance) → map.get f (root_of t) ≡ Some q → (q.parent ≡ None) × (q.enclosing ≡ None)

good_set : (d : Deployment) (f : Histories) (k : IntentId) (s : Instance) → Good d k s → AllGood d f → AllGood d (map.insert f k s)
good_set d f k s new h j q is = made_set f k s (λ j o. (q : Instance) → o ≡ Some q → Good d j q) (λ q e. subst (Good d k) (same_some e) new) h j q is

roots_set : (f : Histories) (k : IntentId) (s : Instance) → ((t : ℕ) → k ≡ root_of t → (s.parent ≡ None) × (s.enclosing ≡ None)) → Roots f → Roots (map.insert f k s)
roots_set f k s new h t q is = made_set f k s (λ j o. j ≡ root_of t → (q : Instance) → o ≡ Some q → (q.parent ≡ None) × (q.enclosing ≡ None))
    (λ same q e. subst (λ (z : Instance). (z.parent ≡ None) × (z.enclosing ≡ None)) (same_some e) (new t same)) (λ j same q e. h t q (ap (map.get f) (sym same) ∙ e)) (root_of t) refl q is

-- who was called as before is a root as before
same_root : (f : Histories) (k : IntentId) (q s : Instance) → map.get f k ≡ Some q → (s.parent ≡ q.parent) × (s.enclosing ≡ q.enclosing) → Roots f → (t : ℕ) → k ≡ root_of t → (s.parent ≡ None) × (s.enclosing ≡ None)
same_root f k q s is same h t e = let g = h t q (ap (map.get f) (sym e) ∙ is) in (same.0 ∙ g.0, same.1 ∙ g.1)

well_formed_by : (d : Deployment) (f : Histories) → AllGood d f → Pairs d f → Roots f → WellFormedHistories d f
well_formed_by d f good pairs roots = record {
  each = λ id q is. let g = good id q is in g.0;
  closed = λ id q is. let g = good id q is in g.1;
  called = λ i n j is. subst (Pair d i (map.get f i) n) is (pairs i n);
  callees = λ i q n w g a is lt call. has_callee i q n w g a lt call (map.get f (child_of i n)) (subst (λ o. Pair d i o n (map.get f (child_of i n))) is (pairs i n));
  roots = roots;
}
  where
    has_callee : (i : IntentId) (q : Instance) (n : ℕ) (w : Bool) (f : ℕ) (a : Value) → n < length q.answers → effect_before d q n ≡ call_of w f a → (o : Option Instance) → Pair d i (Some q) n o → is_some o ≡ true
    has_callee i q n w f a lt call None l = absurd (l lt w f a call)
    has_callee i q n w f a lt call (Some j) l = refl

module _ (d : Deployment) (histories : Histories) (h : WellFormedHistories d histories) where
  all_good : AllGood d histories
  all_good id q is = (h.each id q is, h.closed id q is)

  pairs : Pairs d histories
  pairs i n = by_both (map.get histories i) (map.get histories (child_of i n)) refl refl
    where
      by_both : (o u : Option Instance) → map.get histories i ≡ o → map.get histories (child_of i n) ≡ u → Pair d i o n u
      by_both o (Some j) is on = subst (λ o. CalledBy d i o n j) is (h.called i n j on)
      by_both None None is on = tt
      by_both (Some q) None is on = λ lt w f a call. let c = sym (h.callees i q n w f a is lt call) ∙ ap is_some on in cc

  -- who is not there has called nobody
  pub no_callees : (i : IntentId) (n : ℕ) → map.get histories i ≡ None → map.get histories (child_of i n) ≡ None
  no_callees i n is = none_by (map.get histories (child_of i n)) (λ j on. subst (λ o. CalledBy d i o n j) is (h.called i n j on))

  -- ---- one that was not there before, without answers and outcome
  module _ (k : IntentId) (s : Instance) (empty : s.answers ≡ []) (none : s.outcome ≡ None) (gone : map.get histories k ≡ None) where
    abbrev made : Histories
    made = map.insert histories k (local_steps d k s)

    pub well_formed_made : ((t : ℕ) → k ≡ root_of t → (s.parent ≡ None) × (s.enclosing ≡ None)) → ((i : IntentId) (n : ℕ) → child_of i n ≡ k → Pair d i (map.get made i) n (Some s)) → WellFormedHistories d made
    well_formed_made root called = well_formed_by d made (good_set d histories k (local_steps d k s) (good_new d k s empty none) all_good)
        (pairs_set (Pair d) histories k (local_steps d k s) pairs (λ n o l. pair_new d k s n o empty (subst (λ z. Pair d k z n o) gone l)) (λ i n same l. callee_local_steps d i k (map.get made i) n s (called i n same)))
        (roots_set histories k (local_steps d k s) (λ t same. let g = root t same in let z = origin_stays d k s in (z.0 ∙ g.0, z.1 ∙ g.1)) h.roots)

  -- ---- one that is there
  module _ (id : IntentId) (q : Instance) (is : map.get histories id ≡ Some q) where
    moved_root : (a : Answer) (t : ℕ) → id ≡ root_of t → ((advanced d id q a).parent ≡ None) × ((advanced d id q a).enclosing ≡ None)
    moved_root a = same_root histories id q (advanced d id q a) is (origin_stays d id (answered q a)) h.roots

    -- it is answered, at another effect than a call
    pub well_formed_answered : (a : Answer) → IsAnswer (place_of id (length q.answers)) (tx_now d id q) (effect_of d q) a → ((w : Bool) (f : ℕ) (v : Value) → effect_of d q ≡ call_of w f v → ⊥) → WellFormedHistories d (map.insert histories id (advanced d id q a))
    well_formed_answered a fits other =
        let s = advanced d id q a in
        let none = open_still d id q a (h.each id q is) fits in
        well_formed_by d (map.insert histories id s) (good_set d histories id s (good_moved d id q a none fits (h.each id q is)) all_good)
        (pairs_set (Pair d) histories id s pairs (λ n o l. pair_moved d id q a n o (λ e. other) (subst (λ z. Pair d id z n o) is l))
        (λ i n same l. callee_moved d i id (map.get (map.insert histories id s) i) n q a (subst (Pair d i (map.get (map.insert histories id s) i) n) is l)))
        (roots_set histories id s (moved_root a) h.roots)

    -- it ends, and nobody waits for it
    pub well_formed_ended : (o : Outcome) → effect_of d q ≡ Effect.Return o → IsAlone q.parent → WellFormedHistories d (map.insert histories id (ended q o))
    well_formed_ended o returns alone =
        let s = ended q o in
        well_formed_by d (map.insert histories id s) (good_set d histories id s (good_ended d id q o returns (h.each id q is)) all_good)
        (pairs_set (Pair d) histories id s pairs (λ n u l. pair_ended d id q o n u (subst (λ z. Pair d id z n u) is l))
        (λ i n same l. callee_alone d i (map.get (map.insert histories id s) i) n q o alone (subst (Pair d i (map.get (map.insert histories id s) i) n) is l)))
        (roots_set histories id s (same_root histories id q s is (refl, refl) h.roots) h.roots)

    -- it is answered at its call, once what it calls was set
    well_formed_both : (s : Instance) (a : Answer) → Good d (callee_of id q) s → IsAnswer (place_of id (length q.answers)) (tx_now d id q) (effect_of d q) a → ((t : ℕ) → callee_of id q ≡ root_of t → (s.parent ≡ None) × (s.enclosing ≡ None))
        → ((n : ℕ) (u : Option Instance) → Pair d (callee_of id q) (map.get histories (callee_of id q)) n u → Pair d (callee_of id q) (Some s) n u) → Pair d id (Some (answered q a)) (length q.answers) (Some s)
        → WellFormedHistories d (map.insert (map.insert histories (callee_of id q) s) id (advanced d id q a))
    well_formed_both s a good fits root kept two =
        let k = callee_of id q in
        let none = open_still d id q a (h.each id q is) fits in
        let over = map.insert histories k s in
        let r = advanced d id q a in
        well_formed_by d (map.insert over id r) (good_set d over id r (good_moved d id q a none fits (h.each id q is)) (good_set d histories k s good all_good))
        (both_set (Pair d) histories pairs k id (length q.answers) refl s r kept
        (λ n u apart l. pair_moved d id q a n u (λ e w f v call. apart e) (subst (λ z. Pair d id z n u) is l))
        (λ j n o l. callee_moved d j id o n q a (subst (Pair d j o n) is l)) (pair_local_steps d id (answered q a) (length q.answers) (Some s) two))
        (roots_set over id r (moved_root a) (roots_set histories k s root h.roots))

    -- what it calls is made, in the transaction that the call is in
    module _ (f : ℕ) (v : Value) (gone : map.get histories (callee_of id q) ≡ None) where
      abbrev callee : Bool → Option TxId → Instance
      callee waits t = record (new_instance f v (Some (calls_at id q waits))) { enclosing = t }

      pub well_formed_called : (t : Option TxId) → t ≡ tx_now d id q → effect_of d q ≡ Effect.Call f v → WellFormedHistories d (map.insert histories (callee_of id q) (local_steps d (callee_of id q) (callee true t)))
      well_formed_called t same call =
          let k = callee_of id q in
          let at = length q.answers in
          let s = callee true t in
          let there : map.get (map.insert histories k (local_steps d k s)) id ≡ Some q = still_made histories k id (local_steps d k s) q gone is in
          let two : Pair d id (Some q) at (Some s) = callee_new d id q t f v call same in
          well_formed_made k s refl refl gone (λ u root. absurd (not_root id at u root)) (λ i n own.
          let r = child_same i id n at own in
          let over = map.insert histories k (local_steps d k s) in
          subst (λ z. Pair d z (map.get over z) n (Some s)) (sym r.0) (subst (λ m. Pair d id (map.get over id) m (Some s)) (sym r.1) (subst (λ o. Pair d id o at (Some s)) (sym there) two)))

      -- .. and nobody waits for it
      pub well_formed_sent : tx_now d id q ≡ None → effect_of d q ≡ Effect.Async f v → WellFormedHistories d (map.insert (map.insert histories (callee_of id q) (local_steps d (callee_of id q) (callee false None))) id (advanced d id q Answer.Done))
      well_formed_sent out call =
          let k = callee_of id q in
          let s = callee false None in
          let p = place_of id (length q.answers) in
          let fits = subst (λ t. IsAnswer p t (effect_of d q) Answer.Done) (sym out) (subst (λ e. IsAnswer p None e Answer.Done) (sym call) tt) in
          well_formed_both (local_steps d k s) Answer.Done (good_new d k s refl refl) fits (λ u root. absurd (not_root id (length q.answers) u root))
          (λ n u l. pair_new d k s n u refl (subst (λ z. Pair d k z n u) gone l)) (callee_local_steps d id k (Some (answered q Answer.Done)) (length q.answers) s (callee_sent d id q f v call))

  -- ---- a root is made
  pub well_formed_bound : (id : IntentId) (f : ℕ) (v : Value) → map.get histories id ≡ None → has_no_hops id.hops ≡ true → WellFormedHistories d (map.insert histories id (local_steps d id (new_instance f v None)))
  well_formed_bound id f v gone root = well_formed_made id (new_instance f v None) refl refl gone (λ t same. (refl, refl))
      (λ i n same. let clash = sym (no_root i n) ∙ ap (λ (z : IntentId). has_no_hops z.hops) same ∙ root in cc)

  -- ---- a callee gives back: its caller stands at the call
  module _ (id : IntentId) (q j : Instance) (n : ℕ) (is : map.get histories id ≡ Some q) (on : map.get histories (child_of id n) ≡ Some j) (none : j.outcome ≡ None) (waited : is_waited j.parent ≡ true) where
    call : IsCalled d id q n j
    call = subst (λ z. CalledBy d id z n j) is (h.called id n j on)

    waits : call.waits ≡ true
    waits = sym (ap is_waited call.parent) ∙ waited

    pub last : n ≡ length q.answers
    last = next_step q.answers n call.here (call.answered ∙ ap (λ b. answer_given b j.outcome) waits ∙ ap (option_map answer_of) none)

    pub stands : effect_of d q ≡ Effect.Call j.func j.args
    stands = sym (effect_now d q) ∙ ap (effect_before d q) (sym last) ∙ call.call ∙ ap (λ b. call_of b j.func j.args) waits

    from : j.parent ≡ Some (calls_at id q true)
    from = call.parent ∙ ap (λ m. Some (record { place = place_of id m; func = q.func; waits = call.waits })) last ∙ ap (λ b. Some (calls_at id q b)) waits

    pub well_formed_returned : (o : Outcome) → effect_of d j ≡ Effect.Return o → WellFormedHistories d (map.insert (map.insert histories (child_of id n) (ended j o)) id (advanced d id q (answer_of o)))
    well_formed_returned o returns =
        let k = callee_of id q in
        let at = length q.answers in
        let a = answer_of o in
        let p = place_of id at in
        let there : map.get histories k ≡ Some j = ap (λ m. map.get histories (child_of id m)) (sym last) ∙ on in
        let fits : IsAnswer p (tx_now d id q) (effect_of d q) a = subst (λ e. IsAnswer p (tx_now d id q) e a) (sym stands) (call_answers p (tx_now d id q) j.func j.args o) in
        let two : Pair d id (Some (answered q a)) at (Some (ended j o)) = callee_ended d id q j o (subst (λ m. IsCalled d id q m j) last call) from in
        subst (λ m. WellFormedHistories d (map.insert (map.insert histories (child_of id m) (ended j o)) id (advanced d id q a))) (sym last)
        (well_formed_both id q is (ended j o) a (good_ended d k j o returns (h.each k j there)) fits (λ t root. absurd (not_root id at t root))
        (λ m u l. pair_ended d k j o m u (subst (λ z. Pair d k z m u) there l)) two)

-- ---- answers to operations
-- inside, by a death
pub death_answer : (p : Place) (t : TxId) (e : Effect) (x : ℕ × List ℕ) (c : Cause) → touched e ≡ Some x → IsDeath p t c → IsAnswer p (Some t) e (Answer.Aborted c)
death_answer p t (Effect.Read b k) x c h dies = dies
death_answer p t (Effect.Write b k v) x c h dies = dies
death_answer p t (Effect.CondWrite b k r o v) x c h dies = dies
death_answer p t e x c h dies = cc

-- it is no call
touched_is_no_call : (x : ℕ × List ℕ) (w : Bool) (f : ℕ) (v : Value) → touched (call_of w f v) ≡ Some x → ⊥
touched_is_no_call x true f v h = cc
touched_is_no_call x false f v h = cc

module _ (d : Deployment) (histories : Histories) (h : WellFormedHistories d histories) (id : IntentId) (q : Instance) (is : map.get histories id ≡ Some q) where
  pub well_formed_died : (t : TxId) (x : ℕ × List ℕ) (c : Cause) → tx_now d id q ≡ Some t → touched (effect_of d q) ≡ Some x → IsDeath (place_of id (length q.answers)) t c → WellFormedHistories d (map.insert histories id (advanced d id q (Answer.Aborted c)))
  well_formed_died t x c inner touch dies = let p = place_of id (length q.answers) in
      well_formed_answered d histories h id q is (Answer.Aborted c) (subst (λ t. IsAnswer p t (effect_of d q) (Answer.Aborted c)) (sym inner) (death_answer p t (effect_of d q) x c touch dies))
      (λ b f v call. touched_is_no_call x b f v (ap touched (sym call) ∙ touch))

  -- by an effect that is answered alike inside and outside
  well_formed_at : (e : Effect) (a : Answer) → ((t : Option TxId) → IsAnswer (place_of id (length q.answers)) t e a) → ((f : ℕ) (v : Value) → e ≡ Effect.Call f v → ⊥) → ((f : ℕ) (v : Value) → e ≡ Effect.Async f v → ⊥) → effect_of d q ≡ e → WellFormedHistories d (map.insert histories id (advanced d id q a))
  well_formed_at e a fits no_call no_send same = well_formed_answered d histories h id q is a (subst (λ z. IsAnswer (place_of id (length q.answers)) (tx_now d id q) z a) (sym same) (fits (tx_now d id q))) (λ w f v call. by_wait w f v (sym same ∙ call))
    where
      by_wait : (w : Bool) (f : ℕ) (v : Value) → e ≡ call_of w f v → ⊥
      by_wait true f v g = no_call f v g
      by_wait false f v g = no_send f v g

  pub well_formed_read : (t : ℕ) (k : List ℕ) (v : Value) → effect_of d q ≡ Effect.Read t k → WellFormedHistories d (map.insert histories id (advanced d id q (Answer.Value v)))
  well_formed_read t k v = well_formed_at (Effect.Read t k) (Answer.Value v) (λ s. tt) (λ f w g. cc) (λ f w g. cc)

  pub well_formed_wrote : (t : ℕ) (k : List ℕ) (v : Value) → effect_of d q ≡ Effect.Write t k v → WellFormedHistories d (map.insert histories id (advanced d id q Answer.Done))
  well_formed_wrote t k v = well_formed_at (Effect.Write t k v) Answer.Done (λ s. tt) (λ f w g. cc) (λ f w g. cc)

  pub well_formed_tested : (t : ℕ) (k : List ℕ) (r : Rel) (o v : Value) (b : Bool) → effect_of d q ≡ Effect.CondWrite t k r o v → WellFormedHistories d (map.insert histories id (advanced d id q (Answer.Value (Value.Bool b))))
  well_formed_tested t k r o v b = well_formed_at (Effect.CondWrite t k r o v) (Answer.Value (Value.Bool b)) (λ s. tt) (λ f w g. cc) (λ f w g. cc)

  pub well_formed_decided : (c : Bool) → effect_of d q ≡ Effect.End c → WellFormedHistories d (map.insert histories id (advanced d id q Answer.Done))
  well_formed_decided c = well_formed_at (Effect.End c) Answer.Done (λ s. tt) (λ f w g. cc) (λ f w g. cc)
