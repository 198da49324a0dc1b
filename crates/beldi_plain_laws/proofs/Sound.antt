-- Every state of a run is well formed: entry by entry.
use Rattle.beldi_plain_laws.proofs.Names.{Aborts, AllPlain, Answer, AtEnd, Bool, Caller, Commits, Deployment, Effect, Entry, FallsSo, Going, InsideIsOver, Instance, IntentId, IsAnswer, Kind, Leads, LegalIsWellFormed, List, Move, None, OnItem, Option, Outcome, Place, PlainState, Read, WellFormed, WellFormedAt, Some, Start, Step, AbortedTx, CommittedTx, TxId, Value, [], after, answer_after, answer_caller, answer_of, answered, ap, call_of, callee_of, calls_at, child_of, effect_of, ended, false, fell, get-empty, give, id_cmp, if◌then◌else◌, inl, inr, is_holder, is_older, is_some, item_in, item_of, length, linear, new_instance, nothing, op_of, opened, operated, or_own, refl, root_of, run_from, step_by, subst, sym, true, tx_begun, tx_by, tx_now, txs_after, value_at, waits_at, with_callee, with_instance, ℕ, ◌&&◌, ◌++◌, ◌∙◌, ◌∷◌, ◌≡◌}
use Rattle.beldi_plain_laws.proofs.Called.{Linked, called_of, has_callee, linked, IsAlone, not_own, not_root, caller_new, callee_sent}
use Rattle.beldi_plain_laws.proofs.WellFormed.{is_edge, tx_is, WellFormedInAt, WellFormedWith, Waited, well_formed_in, waited_in, open_in, outside_of, answered_in, made_with, called_with, both_with, alone_with, returned_with}
use Rattle.beldi_plain_laws.proofs.{EntryLaws.did, EntryLaws.Did, EntryLaws.Stepped, EntryLaws.absent, EntryLaws.run_keeps, EntryLaws.abort_leads, GoingOn.IsSound, GoingOn.AllSound, GoingOn.GoingWellFormed, GoingOn.going_led, CallStack.last_of, Maps.same_some, Maps.elsewhere, WholeTransaction.going_begun, WholeTransaction.committed_with, WholeTransaction.aborted_with}
use Rattle.beldi_plain_laws.proofs.Names.map

-- ---- in the words of the law
module _ (d : Deployment) (p : PlainState) where
  pub well_formed_with : WellFormed d p → WellFormedWith d None p.made
  well_formed_with h = record {
    each = λ i. by_each i (map.get p.made i) (h.each i);
    links = λ i n. linked d i n (map.get p.made i) (map.get p.made (child_of i n)) (h.called i n) (λ q w f a is. h.callees i q n w f a is);
    roots = h.roots;
    committed = λ i q u is within. inr (h.committed i q u is within);
  }
    where
      by_each : (i : IntentId) (o : Option Instance) → WellFormedAt d i o → WellFormedInAt d None i o
      by_each i None s = tt
      by_each i (Some q) s = record { past = s.past; over = s.over; begun = s.ended }

  pub well_formed_by : WellFormedWith d None p.made → WellFormed d p
  well_formed_by h = record {
    each = λ i. by_each i (map.get p.made i) (h.each i);
    called = λ i n j is. called_of d i n j (map.get p.made i) (subst (Linked d i (map.get p.made i) n) is (h.links i n));
    callees = λ i q n w f a is lt call kept. has_callee d i n q w f a lt call kept (map.get p.made (child_of i n)) (subst (λ o. Linked d i o n (map.get p.made (child_of i n))) is (h.links i n));
    roots = h.roots;
    committed = λ i q u is within. elim (h.committed i q u is within) [ inl e ↦ cc | inr c ↦ c ];
  }
    where
      by_each : (i : IntentId) (o : Option Instance) → WellFormedInAt d None i o → WellFormedAt d i o
      by_each i None s = tt
      by_each i (Some q) s = record { past = s.past; over = s.over; ended = s.begun }

-- ---- outside of transactions
-- an operation is answered so
pub operation_answers : (a : Place) (e : Effect) (o : OnItem) (w : Value) → op_of e ≡ Some o → IsAnswer a None e (answer_after o.does w)
operation_answers a (Effect.Write t k v) o w h = subst (λ (z : OnItem). IsAnswer a None (Effect.Write t k v) (answer_after z.does w)) (same_some h) tt
operation_answers a (Effect.CondWrite t k r u v) o w h = subst (λ (z : OnItem). IsAnswer a None (Effect.CondWrite t k r u v) (answer_after z.does w)) (same_some h) tt
operation_answers a (Effect.Lock t k) o w h = subst (λ (z : OnItem). IsAnswer a None (Effect.Lock t k) (answer_after z.does w)) (same_some h) tt
operation_answers a (Effect.Unlock t k) o w h = subst (λ (z : OnItem). IsAnswer a None (Effect.Unlock t k) (answer_after z.does w)) (same_some h) tt
operation_answers a e o w h = cc

operation_no_edge : (e : Effect) (o : OnItem) → op_of e ≡ Some o → is_edge e ≡ false
operation_no_edge Effect.Begin o h = cc
operation_no_edge (Effect.End c) o h = cc
operation_no_edge e o h = refl

pub read_is_no_call : (t : ℕ) (k : List ℕ) (w : Bool) (f : ℕ) (v : Value) → Effect.Read t k ≡ call_of w f v → ⊥
read_is_no_call t k true f v h = cc
read_is_no_call t k false f v h = cc

pub operation_is_no_call : (o : OnItem) (w : Bool) (f : ℕ) (v : Value) → op_of (call_of w f v) ≡ Some o → ⊥
operation_is_no_call o true f v h = cc
operation_is_no_call o false f v h = cc

-- where nobody waits a return answers nobody
pub answers_nobody : (p : PlainState) (c : Option Caller) (o : Outcome) → IsAlone c → answer_caller p c o ≡ p
answers_nobody p None o alone = refl
answers_nobody p (Some c) o alone = ap (λ b. if b then give p c.place.intent (answer_of o) (map.get p.made c.place.intent) else p) (alone c refl)

-- what the return of an instance leaves of who waits for it
module _ (d : Deployment) (p : PlainState) (id : IntentId) (q : Instance) (w : Waited d p.made id q) where
  pub not_itself : id ≡ w.caller → ⊥
  not_itself e = not_own w.caller (length w.waiter.answers) (sym e ∙ w.is_callee)

  pub still_there : (s : Instance) → map.get (map.insert p.made id s) w.caller ≡ Some w.waiter
  still_there s = elsewhere p.made id w.caller s not_itself ∙ w.made

  pub answers_waiter : (s : Instance) (o : Outcome) → answer_caller (with_instance p id s) q.parent o ≡ with_instance (with_instance p id s) w.caller (answered w.waiter (answer_of o))
  answers_waiter s o = ap (λ c. answer_caller (with_instance p id s) c o) w.parent ∙ ap (give (with_instance p id s) w.caller (answer_of o)) (still_there s)

module _ (d : Deployment) (p : PlainState) (h : WellFormedWith d None p.made) where
  module _ (id : IntentId) (q : Instance) (is : map.get p.made id ≡ Some q) (none : q.outcome ≡ None) where
    tx_none : is_edge (effect_of d q) ≡ false → tx_now d id q ≡ None
    tx_none edge =
        ap (λ t. or_own t (tx_by id q.func (length q.answers) (effect_of d q) (txs_after d q q.answers).begun)) (outside_of d None p.made h refl id q is none)
        ∙ ap (tx_by id q.func (length q.answers) (effect_of d q)) (well_formed_in d None p.made h id q is).begun ∙ tx_is id q.func (length q.answers) (effect_of d q) None edge

    plain_answer : (a : Answer) (e : Effect) → effect_of d q ≡ e → is_edge e ≡ false → IsAnswer (record { intent = id; step = length q.answers }) None e a → IsAnswer (record { intent = id; step = length q.answers }) (tx_now d id q) (effect_of d q) a
    plain_answer a e so edge fits =
        subst (λ t. IsAnswer (record { intent = id; step = length q.answers }) t (effect_of d q) a) (sym (tx_none (ap is_edge so ∙ edge)))
        (subst (λ z. IsAnswer (record { intent = id; step = length q.answers }) None z a) (sym so) fits)

    well_formed_operated : (o : Option OnItem) → op_of (effect_of d q) ≡ o → WellFormedWith d None (operated p id q o).made
    well_formed_operated None so = h
    well_formed_operated (Some o) so =
        let w = value_at p (item_in q.func o) in
        let edge = operation_no_edge (effect_of d q) o so in
        answered_in d None p.made h id q is none (answer_after o.does w)
        (plain_answer (answer_after o.does w) (effect_of d q) refl edge (operation_answers (record { intent = id; step = length q.answers }) (effect_of d q) o w so)) edge (λ b f v call. operation_is_no_call o b f v (ap op_of (sym call) ∙ so))

    well_formed_sent : (f : ℕ) (v : Value) → effect_of d q ≡ Effect.Async f v → map.get p.made (callee_of id q) ≡ None → WellFormedWith d None (with_instance (with_callee p id q f v false) id (answered q Answer.Done)).made
    well_formed_sent f v call gone =
        let c = Some (calls_at id q false) in
        both_with d None p.made h id q is none (new_instance f v c) Answer.Done (record { past = λ n a e. cc; over = λ u e. cc; begun = refl }) (plain_answer Answer.Done (Effect.Async f v) call refl tt) (ap is_edge call)
        (λ t same. absurd (not_root id (length q.answers) t same)) (λ z e. let x = sym gone ∙ e in cc) (λ u e. cc)
        (λ n u l. caller_new d (callee_of id q) n None f v c u (subst (λ z. Linked d (callee_of id q) z n u) gone l)) (callee_sent d id q f v call)

    well_formed_over : (o : Outcome) → effect_of d q ≡ Effect.Return o → WellFormedWith d None (answer_caller (with_instance p id (ended q o)) q.parent o).made
    well_formed_over o returns = elim (waited_in d None p.made h id q is none) [
      | inl alone ↦ subst (λ (z : PlainState). WellFormedWith d None z.made) (sym (answers_nobody (with_instance p id (ended q o)) q.parent o alone.alone)) (alone_with d None p.made h id q is none o returns alone.alone)
      | inr w ↦ subst (λ (z : PlainState). WellFormedWith d None z.made) (sym (answers_waiter d p id q w (ended q o) o)) (returned_with d None p.made h id q is none o returns w)
    ]

    by_effect : (e : Effect) → effect_of d q ≡ e → waits_at p.made id q e ≡ false → WellFormedWith d None (step_by p id q e).made
    by_effect (Effect.Read t k) so idle =
        let a = Answer.Value (value_at p (item_of q t k)) in
        answered_in d None p.made h id q is none a (plain_answer a (Effect.Read t k) so refl tt) (ap is_edge so) (λ w f v call. read_is_no_call t k w f v (sym so ∙ call))
    by_effect (Effect.Call f v) so idle = called_with d None p.made h id q None f v is (absent (map.get p.made (callee_of id q)) idle) so (sym (tx_none (ap is_edge so))) refl (λ u e. cc)
    by_effect (Effect.Async f v) so idle = well_formed_sent f v so (absent (map.get p.made (callee_of id q)) idle)
    by_effect (Effect.Return o) so idle = well_formed_over o so
    by_effect e so idle = well_formed_operated (op_of e) (ap op_of so)

-- ---- transactions
pub plain_sound : (t : TxId) (ms : List Move) → AllPlain ms → AllSound t ms
plain_sound t [] h = tt
plain_sound t (m ∷ ms) h = (subst (IsSound t) (sym h.0) tt, plain_sound t ms h.1)

both_sound : (t : TxId) (xs ys : List Move) → AllSound t xs → AllSound t ys → AllSound t (xs ++ ys)
both_sound t [] ys a b = b
both_sound t (x ∷ xs) ys a b = (a.0, both_sound t xs ys a.1 b)

pub holder_sound : (p : PlainState) (t : TxId) (h : Option IntentId) → is_holder p t.intent h ≡ true → IsSound t (fell h)
holder_sound p t None is = tt
holder_sound p t (Some u) is = by_made (is_some (map.get p.made u)) is
  where
    by_made : (b : Bool) → (b && is_older u t.intent) ≡ true → is_older u t.intent ≡ true
    by_made true g = g
    by_made false g = cc

falls_sound : (p : PlainState) (t : TxId) (h : Option IntentId) (ms : List Move) → is_holder p t.intent h ≡ true → FallsSo h ms → AllSound t ms
falls_sound p t h [] is falls = tt
falls_sound p t h (m ∷ ms) is falls = (subst (IsSound t) (sym falls.0) (holder_sound p t h is), plain_sound t ms falls.1)

module _ (d : Deployment) (p : PlainState) (h : WellFormedWith d None p.made) (id : IntentId) where
  -- who stands at the End of a transaction
  owner_there : (l : Going) (c : Bool) (at : AtEnd d id l c) → map.get l.state.made id ≡ Some at.stands.instance
  owner_there l c at = ap (map.get l.state.made) (sym at.owner) ∙ at.stands.made

  owner_open : (q : Instance) (l : Going) (c : Bool) (at : AtEnd d id l c) → GoingWellFormed d (tx_begun id q) q l → at.stands.instance.outcome ≡ None
  owner_open q l c at g = let w = last_of d (tx_begun id q) l.state.made l.active g.line in ap (λ (z : Instance). z.outcome) (same_some (sym at.stands.made ∙ w.1)) ∙ w.2

  pub going_so : (q : Instance) (ms : List Move) (l : Going) → map.get p.made id ≡ Some q → q.outcome ≡ None → effect_of d q ≡ Effect.Begin → AllSound (tx_begun id q) ms → Leads d (tx_begun id q) (opened p id q) ms l → GoingWellFormed d (tx_begun id q) q l
  going_so q ms l made none begins sound leads = going_led d (tx_begun id q) q (opened p id q) ms l (outside_of d None p.made h refl id q made none) refl (going_begun d p h id q made none begins) sound leads

  commit_well_formed : (r : PlainState) → Commits d p id r → WellFormedWith d None r.made
  commit_well_formed r c =
      let q = c.instance in
      let t = tx_begun id q in
      let g = going_so q c.moves c.last c.runs.made c.runs.open_still c.runs.begins (plain_sound t c.moves c.plainly) c.runs.leads in
      subst (λ (z : PlainState). WellFormedWith d None z.made) (sym c.is)
      (committed_with d t q c.last g c.ends.stands.instance (owner_there c.last true c.ends) (owner_open q c.last true c.ends g) true c.ends.stands.effect refl (outside_of d None p.made h refl id q c.runs.made c.runs.open_still) refl)

  abort_well_formed : (place : Place) (holder : Option IntentId) (r : PlainState) → Aborts d p id place holder r → WellFormedWith d None r.made
  abort_well_formed place holder r c =
      let q = c.instance in
      let t = tx_begun id q in
      let sound = both_sound t c.before c.since (plain_sound t c.before c.plainly) (falls_sound p t holder c.since c.older c.falls) in
      let g = going_so q (c.before ++ c.since) c.last c.runs.made c.runs.open_still c.runs.begins sound (abort_leads d p id place holder r c) in
      subst (λ (z : PlainState). WellFormedWith d None z.made) (sym c.is)
      (aborted_with d t q c.last g c.ends.stands.instance (owner_there c.last false c.ends) (owner_open q c.last false c.ends g) false c.ends.stands.effect p h c.runs.made c.runs.begins refl refl)

-- ---- entry by entry
stepped : (d : Deployment) (p : PlainState) (id : IntentId) (b : Kind) (q : PlainState) → Stepped d p id b q → WellFormedWith d None p.made → WellFormedWith d None q.made
stepped d p id b q s h = subst (λ (z : PlainState). WellFormedWith d None z.made) s.leads (by_effect d p h id s.instance s.made s.open_still (effect_of d s.instance) refl s.free)

pub by_entry : (d : Deployment) (p : PlainState) (e : Entry) (q : PlainState) → Did d p e q → WellFormedWith d None p.made → WellFormedWith d None q.made
by_entry d p (Start t f a) q s h = subst (λ (z : PlainState). WellFormedWith d None z.made) s.leads (made_with d None p.made h (root_of t) None f a None s.absent refl (λ u same. (refl, refl)) (λ u e. cc) (λ i n same. absurd (not_root i n t same)))
by_entry d p (Read id k) q s h = stepped d p id Kind.Read q s h
by_entry d p (Step id) q s h = stepped d p id Kind.Change q s h
by_entry d p (CommittedTx id) q s h = commit_well_formed d p h id q s
by_entry d p (AbortedTx id place holder) q s h = abort_well_formed d p h id place holder q s

pub after_well_formed : (d : Deployment) (p : PlainState) (e : Entry) (q : PlainState) → after d p e ≡ Some q → WellFormed d p → WellFormed d q
after_well_formed d p e q step h = well_formed_by d q (by_entry d p e q (did d p e q step) (well_formed_with d p h))

well_formed_nothing : (d : Deployment) → WellFormed d nothing
well_formed_nothing d = record {
  each = λ id. subst (λ o. WellFormedAt d id o) (sym (get-empty id_cmp id)) tt;
  called = λ i n j is. let c = sym (get-empty id_cmp (child_of i n)) ∙ is in cc;
  callees = λ i q n w f a is. let c = sym (get-empty id_cmp i) ∙ is in cc;
  roots = λ t q is. let c = sym (get-empty id_cmp (root_of t)) ∙ is in cc;
  committed = λ i q t is. let c = sym (get-empty id_cmp i) ∙ is in cc;
}

pub run_is_well_formed : (d : Deployment) (es : List Entry) (p : PlainState) → run_from d nothing es ≡ Some p → WellFormed d p
run_is_well_formed d es p is = run_keeps d (WellFormed d) (λ r e s h step. after_well_formed d r e s step h) nothing es p (well_formed_nothing d) is

pub legal_is_well_formed : LegalIsWellFormed
legal_is_well_formed d book p is = run_is_well_formed d (linear book) p is

-- ---- what was called in a transaction is over
pub inside_is_over : InsideIsOver
inside_is_over d p h i q t is within = by_outcome q.outcome refl
  where
    by_outcome : (o : Option Outcome) → q.outcome ≡ o → is_some o ≡ true
    by_outcome (Some u) e = refl
    by_outcome None e = let w = open_in d None p.made (well_formed_with d p h) i q t is within e in let c = w.is in cc
