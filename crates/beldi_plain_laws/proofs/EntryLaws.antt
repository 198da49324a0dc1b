-- What every entry does, and what it keeps.
use Rattle.beldi_plain.specs.Plain.{if_change}
use Rattle.beldi_plain_laws.proofs.Names.{Aborts, Answer, Bool, Caller, Commits, Deployment, Effect, Entry, FinMap, Going, Grown, GrownAt, Grows, OnCallStack, Instance, IntentId, Kind, Leads, List, Move, None, OnItem, Option, Outcome, Place, PlainState, Read, Some, Start, Step, AbortedTx, CommittedTx, TxId, Value, [], after, answer_after, answer_caller, answer_of, answered, ap, append-nil, append_assoc, callee_of, calls_at, can_step, effect_of, ended, false, give, has_callees, id_cmp, if_read, if◌then◌else◌, is_some, is_waiting, item_in, item_of, kind_of, after_move, new_instance, new_member, op_of, opened, operated, option_and_then, refl, root_of, run_from, start, step_by, subst, suc, sym, true, tx_begun, value_at, waits_at, with_instance, zero, ℕ, ◌++◌, ◌∙◌, ◌∷◌, ◌≡◌}
use Rattle.beldi_plain_laws.proofs.CallStack.{all_moves, line_opened, last_of, line_moved, returned, shorter, not_longer}
use Rattle.beldi_plain_laws.proofs.{Maps.same_some, Maps.made_set, Maps.still_made, Maps.elsewhere, Moved.MoveIs, Moved.answers, Moved.calls, Moved.returns, Moved.move_is, Moved.mover, Transactions.can_step_is, Transactions.steps_so, Transactions.commits, Transactions.aborts}
use Rattle.beldi_plain_laws.proofs.Names.map

-- ---- runs in parts
pub run_append : (d : Deployment) (p : PlainState) (es fs : List Entry) → run_from d p (es ++ fs) ≡ option_and_then (λ q. run_from d q fs) (run_from d p es)
run_append d p [] fs = refl
run_append d p (e ∷ es) fs = by_option (after d p e) (λ q. run_append d q es fs)
  where
    by_option : (o : Option PlainState) → ((q : PlainState) → run_from d q (es ++ fs) ≡ option_and_then (λ r. run_from d r fs) (run_from d q es))
        → option_and_then (λ q. run_from d q (es ++ fs)) o ≡ option_and_then (λ r. run_from d r fs) (option_and_then (λ q. run_from d q es) o)
    by_option None h = refl
    by_option (Some q) h = h q

pub runs_on : (d : Deployment) (p q : PlainState) (es fs : List Entry) → run_from d p es ≡ Some q → run_from d p (es ++ fs) ≡ run_from d q fs
runs_on d p q es fs h = run_append d p es fs ∙ ap (option_and_then (λ r. run_from d r fs)) h

pub one_more : (d : Deployment) (p : PlainState) (e : Entry) → run_from d p (e ∷ []) ≡ after d p e
one_more d p e = by_option (after d p e)
  where
    by_option : (o : Option PlainState) → option_and_then (λ q. Some q) o ≡ o
    by_option None = refl
    by_option (Some q) = refl

-- ---- what an entry that is enabled does
pub record Started (p : PlainState) (t f : ℕ) (a : Value) (q : PlainState) : Type 0 where
  pub absent : map.get p.made (root_of t) ≡ None
  pub leads : with_instance p (root_of t) (new_instance f a None) ≡ q

-- the next step of an instance, which is of this kind
pub record Stepped (d : Deployment) (p : PlainState) (id : IntentId) (k : Kind) (q : PlainState) : Type 0 where
  pub instance : Instance
  pub made : map.get p.made id ≡ Some instance
  pub open_still : instance.outcome ≡ None
  pub free : is_waiting d p id instance ≡ false
  pub kind : kind_of id (effect_of d instance) ≡ k
  pub leads : step_by p id instance (effect_of d instance) ≡ q

abbrev pub Did : Deployment → PlainState → Entry → PlainState → Type 0
Did d p (Start t f a) q = Started p t f a q
Did d p (Read id s) q = Stepped d p id Kind.Read q
Did d p (Step id) q = Stepped d p id Kind.Change q
Did d p (CommittedTx id) q = Commits d p id q
Did d p (AbortedTx id place holder) q = Aborts d p id place holder q

started : (p : PlainState) (t f : ℕ) (a : Value) (q : PlainState) (o : Option Instance) → map.get p.made (root_of t) ≡ o → start p t f a o ≡ Some q → Started p t f a q
started p zero f a q o is h = cc
started p (suc t) f a q None is h = record { absent = is; leads = same_some h }
started p (suc t) f a q (Some i) is h = cc

if_read_is : (k : Kind) (x q : PlainState) → if_read k x ≡ Some q → (k ≡ Kind.Read) × (x ≡ q)
if_read_is Kind.Read x q h = (refl, same_some h)
if_read_is Kind.Change x q h = cc
if_read_is Kind.Inside x q h = cc
if_read_is Kind.Unbuilt x q h = cc

if_change_is : (k : Kind) (x q : PlainState) → if_change k x ≡ Some q → (k ≡ Kind.Change) × (x ≡ q)
if_change_is Kind.Read x q h = cc
if_change_is Kind.Change x q h = (refl, same_some h)
if_change_is Kind.Inside x q h = cc
if_change_is Kind.Unbuilt x q h = cc

module _ (d : Deployment) (p : PlainState) (id : IntentId) (b : Kind) (q : PlainState) (enter : Kind → PlainState → Option PlainState)
    (enters : (k : Kind) (x y : PlainState) → enter k x ≡ Some y → (k ≡ b) × (x ≡ y)) where
  abbrev entered : Instance → Option PlainState
  entered i = enter (kind_of id (effect_of d i)) (step_by p id i (effect_of d i))

  stepped : can_step (map.get p.made id) (is_waiting d p id) entered ≡ Some q → Stepped d p id b q
  stepped h =
      let c = can_step_is (map.get p.made id) (is_waiting d p id) entered q h in
      let t = enters (kind_of id (effect_of d c.instance)) (step_by p id c.instance (effect_of d c.instance)) q c.gives_it in
      record { instance = c.instance; made = c.made; open_still = c.open_still; free = c.free; kind = t.0; leads = t.1 }

pub did : (d : Deployment) (p : PlainState) (e : Entry) (q : PlainState) → after d p e ≡ Some q → Did d p e q
did d p (Start t f a) q h = started p t f a q (map.get p.made (root_of t)) refl h
did d p (Read id s) q h = stepped d p id Kind.Read q (λ k x. if_read k x) if_read_is h
did d p (Step id) q h = stepped d p id Kind.Change q (λ k x. if_change k x) if_change_is h
did d p (CommittedTx id) q h = commits d id p q h
did d p (AbortedTx id place holder) q h = aborts d id place holder p q h

-- ---- and what is so is enabled
no_call : (b : Bool) → (if b then Kind.Change else Kind.Unbuilt) ≡ Kind.Read → ⊥
no_call true h = cc
no_call false h = cc

-- what is entered as a read is one
pub read_is : (id : IntentId) (e : Effect) → kind_of id e ≡ Kind.Read → (t : ℕ) × (k : List ℕ) × (e ≡ Effect.Read t k)
read_is id (Effect.Read t k) h = (t, k, refl)
read_is id (Effect.Call f a) h = absurd (no_call (has_callees id) h)
read_is id (Effect.Async f a) h = absurd (no_call (has_callees id) h)
read_is id e h = cc

-- an instance at an operation waits for nobody
pub free_at_operation : (made : FinMap id_cmp Instance) (id : IntentId) (q : Instance) (e : Effect) (o : OnItem) → op_of e ≡ Some o → waits_at made id q e ≡ false
free_at_operation made id q (Effect.Call f a) o h = cc
free_at_operation made id q (Effect.Async f a) o h = cc
free_at_operation made id q e o h = refl

module _ (d : Deployment) (p : PlainState) (id : IntentId) (i : Instance) (is : map.get p.made id ≡ Some i) (none : i.outcome ≡ None) (free : is_waiting d p id i ≡ false) where
  enabled : (enter : Kind → PlainState → Option PlainState) (k : Kind) → kind_of id (effect_of d i) ≡ k → can_step (map.get p.made id) (is_waiting d p id) (λ j. enter (kind_of id (effect_of d j)) (step_by p id j (effect_of d j))) ≡ enter k (step_by p id i (effect_of d i))
  enabled enter k kind =
      steps_so (map.get p.made id) i (is_waiting d p id) (λ j. enter (kind_of id (effect_of d j)) (step_by p id j (effect_of d j))) is none free
      ∙ ap (λ u. enter u (step_by p id i (effect_of d i))) kind

  pub enabled_read : (s : ℕ) → kind_of id (effect_of d i) ≡ Kind.Read → after d p (Read id s) ≡ Some (step_by p id i (effect_of d i))
  enabled_read s kind = enabled (λ k x. if_read k x) Kind.Read kind

  pub enabled_step : kind_of id (effect_of d i) ≡ Kind.Change → after d p (Step id) ≡ Some (step_by p id i (effect_of d i))
  enabled_step kind = enabled (λ k x. if_change k x) Kind.Change kind

-- ---- instances only go on
grown_self : (o : Option Instance) → GrownAt o o
grown_self None = tt
grown_self (Some i) = record { func = refl; args = refl; parent = refl; enclosing = refl; later = []; more = append-nil i.answers; over = λ o h. h }

grown_on : (x y z : Option Instance) → GrownAt x y → GrownAt y z → GrownAt x z
grown_on None y z g h = tt
grown_on (Some i) None z g h = absurd g
grown_on (Some i) (Some j) None g h = absurd h
grown_on (Some i) (Some j) (Some k) g h = record {
  func = h.func ∙ g.func;
  args = h.args ∙ g.args;
  parent = h.parent ∙ g.parent;
  enclosing = h.enclosing ∙ g.enclosing;
  later = g.later ++ h.later;
  more = sym (append_assoc i.answers g.later h.later) ∙ ap (λ xs. xs ++ h.later) g.more ∙ h.more;
  over = λ o is. h.over o (g.over o is);
}

pub grows_self : (f : FinMap id_cmp Instance) → Grows f f
grows_self f id = grown_self (map.get f id)

pub grows_through : (f g h : FinMap id_cmp Instance) → Grows f g → Grows g h → Grows f h
grows_through f g h a b id = grown_on (map.get f id) (map.get g id) (map.get h id) (a id) (b id)

pub grows_set : (f : FinMap id_cmp Instance) (id : IntentId) (s : Instance) → GrownAt (map.get f id) (Some s) → Grows f (map.insert f id s)
grows_set f id s here = made_set f id s (λ j o. GrownAt (map.get f j) o) here (grows_self f)

pub grown_answer : (i : Instance) (a : Answer) → Grown i (answered i a)
grown_answer i a = record { func = refl; args = refl; parent = refl; enclosing = refl; later = a ∷ []; more = refl; over = λ o h. h }

pub grown_end : (i : Instance) (o : Outcome) → i.outcome ≡ None → Grown i (ended i o)
grown_end i o none = record { func = refl; args = refl; parent = refl; enclosing = refl; later = []; more = append-nil i.answers; over = λ u is. let g = sym none ∙ is in cc }

pub grows_at : (f : FinMap id_cmp Instance) (id : IntentId) (i j : Instance) → map.get f id ≡ Some i → Grown i j → Grows f (map.insert f id j)
grows_at f id i j is g = grows_set f id j (subst (λ o. GrownAt o (Some j)) (sym is) g)

operation_grows : (p : PlainState) (id : IntentId) (i : Instance) (o : Option OnItem) → map.get p.made id ≡ Some i → Grows p.made (operated p id i o).made
operation_grows p id i None is = grows_self p.made
operation_grows p id i (Some o) is = let a = answer_after o.does (value_at p (item_in i.func o)) in grows_at p.made id i (answered i a) is (grown_answer i a)

-- where nothing was made
pub absent : (o : Option Instance) → is_some o ≡ false → o ≡ None
absent None h = refl
absent (Some q) h = cc

pub grows_new : (f : FinMap id_cmp Instance) (id : IntentId) (s : Instance) → map.get f id ≡ None → Grows f (map.insert f id s)
grows_new f id s is = grows_set f id s (subst (λ o. GrownAt o (Some s)) (sym is) tt)

-- what holds, and does after an answer to one that is there, holds after an answer to a caller
pub answer_keeps : (P : PlainState → Type 0) (p : PlainState) → P p → ((id : IntentId) (q : Instance) (a : Answer) → map.get p.made id ≡ Some q → P (with_instance p id (answered q a))) → (c : Option Caller) (o : Outcome) → P (answer_caller p c o)
answer_keeps P p h more None o = h
answer_keeps P p h more (Some c) o = by_waits c.waits
  where
    by_made : (u : Option Instance) → map.get p.made c.place.intent ≡ u → P (give p c.place.intent (answer_of o) u)
    by_made None is = h
    by_made (Some q) is = more c.place.intent q (answer_of o) is

    by_waits : (b : Bool) → P (if b then give p c.place.intent (answer_of o) (map.get p.made c.place.intent) else p)
    by_waits true = by_made (map.get p.made c.place.intent) refl
    by_waits false = h

step_grows : (p : PlainState) (id : IntentId) (i : Instance) (e : Effect) → map.get p.made id ≡ Some i → i.outcome ≡ None → waits_at p.made id i e ≡ false → Grows p.made (step_by p id i e).made
step_grows p id i (Effect.Read t k) is none free = let a = Answer.Value (value_at p (item_of i t k)) in grows_at p.made id i (answered i a) is (grown_answer i a)
step_grows p id i (Effect.Call f a) is none free = grows_new p.made (callee_of id i) (new_instance f a (Some (calls_at id i true))) (absent (map.get p.made (callee_of id i)) free)
step_grows p id i (Effect.Async f a) is none free =
    let s = new_instance f a (Some (calls_at id i false)) in
    let gone = absent (map.get p.made (callee_of id i)) free in
    let more = map.insert p.made (callee_of id i) s in
    grows_through p.made more (map.insert more id (answered i Answer.Done)) (grows_new p.made (callee_of id i) s gone)
    (grows_at more id i (answered i Answer.Done) (still_made p.made (callee_of id i) id s i gone is) (grown_answer i Answer.Done))
step_grows p id i (Effect.Return o) is none free =
    let over = map.insert p.made id (ended i o) in
    let first : Grows p.made over = grows_at p.made id i (ended i o) is (grown_end i o none) in
    answer_keeps (λ (r : PlainState). Grows p.made r.made) (with_instance p id (ended i o)) first
    (λ j q a made. grows_through p.made over (map.insert over j (answered q a)) first (grows_at over j q (answered q a) made (grown_answer q a))) i.parent o
step_grows p id i e is none free = operation_grows p id i (op_of e) is

stepped_grows : (d : Deployment) (p : PlainState) (id : IntentId) (b : Kind) (q : PlainState) → Stepped d p id b q → Grows p.made q.made
stepped_grows d p id b q s = subst (λ (r : PlainState). Grows p.made r.made) s.leads (step_grows p id s.instance (effect_of d s.instance) s.made s.open_still s.free)

started_grows : (p : PlainState) (t f : ℕ) (a : Value) (q : PlainState) → Started p t f a q → Grows p.made q.made
started_grows p t f a q s = subst (λ (r : PlainState). Grows p.made r.made) s.leads (grows_new p.made (root_of t) (new_instance f a None) s.absent)

-- ---- in a transaction too
move_grows : (d : Deployment) (t : TxId) (m : Move) (s r : Going) → OnCallStack d t s → after_move d t m s ≡ Some r → Grows s.state.made r.state.made
move_grows d t m s r line h = let q = mover d t m s r h in by_kind q.0 q.1 (move_is d t m s q.0 r q.1 h)
  where
    by_kind : (q : Instance) → map.get s.state.made s.active ≡ Some q → MoveIs d t m s r q → Grows s.state.made r.state.made
    by_kind q made (answers a) = subst (λ (z : Going). Grows s.state.made z.state.made) (sym a.is) (grows_at s.state.made s.active q (answered q a.answer) made (grown_answer q a.answer))
    by_kind q made (calls c) = subst (λ (z : Going). Grows s.state.made z.state.made) (sym c.is) (grows_new s.state.made (callee_of s.active q) (new_member t c.func c.args (calls_at s.active q true)) c.gone)
    by_kind q made (returns e) =
        let w = returned d t m s r q made line e in
        let over = map.insert s.state.made s.active (ended q e.outcome) in
        let y = w.member.waiter in
        let l = last_of d t s.state.made s.active line in
        let none : q.outcome ≡ None = ap (λ (z : Instance). z.outcome) (same_some (sym made ∙ l.1)) ∙ l.2 in
        let there : map.get over w.caller ≡ Some y = elsewhere s.state.made s.active w.caller (ended q e.outcome) (λ g. not_longer w.caller s.active (shorter d t s.state.made w.caller s.active w.member) g) ∙ w.member.waits in
        subst (λ (z : Going). Grows s.state.made z.state.made) (sym w.is)
        (grows_through s.state.made over (map.insert over w.caller (answered y (answer_of e.outcome))) (grows_at s.state.made s.active q (ended q e.outcome) made (grown_end q e.outcome none))
        (grows_at over w.caller y (answered y (answer_of e.outcome)) there (grown_answer y (answer_of e.outcome))))

pub moves_grow : (d : Deployment) (t : TxId) (s : Going) (moves : List Move) (l : Going) → OnCallStack d t s → Leads d t s moves l → Grows s.state.made l.state.made
moves_grow d t s [] l line leads = subst (λ (z : Going). Grows s.state.made z.state.made) leads (grows_self s.state.made)
moves_grow d t s (m ∷ ms) l line leads = grows_through s.state.made leads.0.state.made l.state.made (move_grows d t m s leads.0 line leads.1) (moves_grow d t leads.0 ms l (line_moved d t m s leads.0 line leads.1) leads.2)

-- from a Begin
pub opened_grows : (d : Deployment) (p : PlainState) (id : IntentId) (q : Instance) (moves : List Move) (l : Going) → map.get p.made id ≡ Some q → q.outcome ≡ None → Leads d (tx_begun id q) (opened p id q) moves l → Grows p.made l.state.made
opened_grows d p id q moves l made none leads =
    grows_through p.made (map.insert p.made id (answered q Answer.Done)) l.state.made (grows_at p.made id q (answered q Answer.Done) made (grown_answer q Answer.Done))
    (moves_grow d (tx_begun id q) (opened p id q) moves l (line_opened d p id q none) leads)

commit_grows : (d : Deployment) (p : PlainState) (id : IntentId) (r : PlainState) → Commits d p id r → Grows p.made r.made
commit_grows d p id r h =
    let z = h.ends.stands.instance in
    let there : map.get h.last.state.made id ≡ Some z = ap (map.get h.last.state.made) (sym h.ends.owner) ∙ h.ends.stands.made in
    subst (λ (s : PlainState). Grows p.made s.made) (sym h.is) (grows_through p.made h.last.state.made (map.insert h.last.state.made id (answered z Answer.Done))
    (opened_grows d p id h.instance h.moves h.last h.runs.made h.runs.open_still h.runs.leads) (grows_at h.last.state.made id z (answered z Answer.Done) there (grown_answer z Answer.Done)))

-- all moves of an abort
pub abort_leads : (d : Deployment) (p : PlainState) (id : IntentId) (place : Place) (holder : Option IntentId) (r : PlainState) (h : Aborts d p id place holder r) → Leads d (tx_begun id h.instance) (opened p id h.instance) (h.before ++ h.since) h.last
abort_leads d p id place holder r h = all_moves d (tx_begun id h.instance) (opened p id h.instance) h.there h.last h.before h.since h.runs.leads h.leads

abort_grows : (d : Deployment) (p : PlainState) (id : IntentId) (place : Place) (holder : Option IntentId) (r : PlainState) → Aborts d p id place holder r → Grows p.made r.made
abort_grows d p id place holder r h =
    let z = h.ends.stands.instance in
    let there : map.get h.last.state.made id ≡ Some z = ap (map.get h.last.state.made) (sym h.ends.owner) ∙ h.ends.stands.made in
    let grows = opened_grows d p id h.instance (h.before ++ h.since) h.last h.runs.made h.runs.open_still (abort_leads d p id place holder r h) in
    subst (λ (s : PlainState). Grows p.made s.made) (sym h.is) (grows_set p.made id (answered z Answer.Done)
    (grown_on (map.get p.made id) (Some z) (Some (answered z Answer.Done)) (subst (λ o. GrownAt (map.get p.made id) o) there (grows id)) (grown_answer z Answer.Done)))

did_grows : (d : Deployment) (p : PlainState) (e : Entry) (q : PlainState) → Did d p e q → Grows p.made q.made
did_grows d p (Start t f a) q s = started_grows p t f a q s
did_grows d p (Read id k) q s = stepped_grows d p id Kind.Read q s
did_grows d p (Step id) q s = stepped_grows d p id Kind.Change q s
did_grows d p (CommittedTx id) q s = commit_grows d p id q s
did_grows d p (AbortedTx id place holder) q s = abort_grows d p id place holder q s

pub after_grows : (d : Deployment) (p : PlainState) (e : Entry) (q : PlainState) → after d p e ≡ Some q → Grows p.made q.made
after_grows d p e q h = did_grows d p e q (did d p e q h)

-- ---- what every entry keeps, a run keeps
pub run_keeps : (d : Deployment) (P : PlainState → Type 0) → ((p : PlainState) (e : Entry) (q : PlainState) → P p → after d p e ≡ Some q → P q) → (p : PlainState) (es : List Entry) (q : PlainState) → P p → run_from d p es ≡ Some q → P q
run_keeps d P keeps p [] q h is = subst P (same_some is) h
run_keeps d P keeps p (e ∷ es) q h is = by_option (after d p e) refl is (λ r g. run_keeps d P keeps r es q g)
  where
    by_option : (o : Option PlainState) → after d p e ≡ o → option_and_then (λ r. run_from d r es) o ≡ Some q → ((r : PlainState) → P r → run_from d r es ≡ Some q → P q) → P q
    by_option None step is rest = cc
    by_option (Some r) step is rest = rest r (keeps p e r h step) is

pub run_grows : (d : Deployment) (p : PlainState) (es : List Entry) (q : PlainState) → run_from d p es ≡ Some q → Grows p.made q.made
run_grows d p es q h = run_keeps d (λ r. Grows p.made r.made) (λ r e s g is. grows_through p.made r.made s.made g (after_grows d r e s is)) p es q (grows_self p.made) h
