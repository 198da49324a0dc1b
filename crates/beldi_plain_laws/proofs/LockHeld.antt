-- From a lock to its unlock nobody else touches the item.
use Rattle.std.proofs.Common.{is_some}
use Rattle.beldi_plain_laws.proofs.Names.{Aborts, Answer, Bool, Commits, Deployment, Effect, Entry, Going, OnCallStack, Instance, IntentId, IsGuarded, Item, Kind, Leads, LegalIsGuarded, List, Move, None, OnItem, Operation, Option, Outcome, Place, PlainState, Read, WellFormed, Some, StandsAtOperation, Start, Step, AbortedTx, CommittedTx, TxId, Value, [], actor, after, answer_after, answer_caller, answer_of, answered, ap, append-nil, append_assoc, callee_of, calls_at, cond, effect_of, ended, false, free, held_by, held_if, holds, inl, inr, is_eq, item_cmp, item_in, item_of, item_total, lock, after_move, new_instance, new_member, nothing, op_of, opened, operated, option_and_then, refl, root_of, run_from, step_by, subst, sym, tied_itself, true, tx_begun, value_at, waits_at, with_callee, with_instance, write, ℕ, ◌++◌, ◌∙◌, ◌∷◌, ◌≡◌}
use Rattle.beldi_plain_laws.proofs.EntryLaws.{did, Did, Stepped, read_is, absent, runs_on, abort_leads}
use Rattle.beldi_plain_laws.proofs.{Maps.same_some, Maps.made_set, Maps.still_made, Maps.elsewhere, Maps.here, Guard.guarded_second, GoingOn.is_plainly, GoingOn.answered_plainly, CallStack.line_opened, CallStack.line_moved, CallStack.returned, CallStack.shorter, CallStack.not_longer, Moved.MoveIs, Moved.answers, Moved.calls, Moved.returns, Moved.move_is, Moved.mover, PlainOperations.held_pushed, PlainOperations.holds_answered, PlainOperations.holds_set, PlainOperations.item_same, WellFormed.waited_in, Sound.well_formed_with, Sound.still_there, Sound.answers_nobody, Sound.answers_waiter, Sound.run_is_well_formed}
use Rattle.beldi_plain_laws.proofs.Names.map
use Rattle.beldi_plain_laws.proofs.Names.operation

-- what an operation on an item leaves
pub operation_step : (p : PlainState) (id : IntentId) (q : Instance) (e : Effect) (o : OnItem) → op_of e ≡ Some o → step_by p id q e ≡ operated p id q (Some o)
operation_step p id q (Effect.Read t k) o h = cc
operation_step p id q (Effect.Call f v) o h = cc
operation_step p id q (Effect.Async f v) o h = cc
operation_step p id q (Effect.Return u) o h = cc
operation_step p id q e o h = ap (operated p id q) h

either_way : (c b : Bool) → cond c b b ≡ b
either_way true b = refl
either_way false b = refl

same_item : (x y : Item) → x ≡ y → is_eq (item_cmp x y) ≡ true
same_item x y h = subst (λ z. is_eq (item_cmp x z) ≡ true) h (ap is_eq (tied_itself item_total x))

-- no effect of a transaction moves a lock
tx_holds : (e : Effect) (x : Item) (f : ℕ) (b : Bool) → is_plainly e ≡ true → held_if x f (op_of e) b ≡ b
tx_holds (Effect.Write t k v) x f b h = either_way (is_eq (item_cmp (record { func = f; table = t; key = k }) x)) b
tx_holds (Effect.CondWrite t k r o v) x f b h = either_way (is_eq (item_cmp (record { func = f; table = t; key = k }) x)) b
tx_holds (Effect.Lock t k) x f b h = cc
tx_holds (Effect.Unlock t k) x f b h = cc
tx_holds e x f b h = refl

module _ (d : Deployment) (x : Item) where
  -- an instance with another's locks was set
  move_holds : (t : TxId) (m : Move) (s r : Going) → OnCallStack d t s → after_move d t m s ≡ Some r → (j : IntentId) → holds d x (map.get r.state.made j) ≡ holds d x (map.get s.state.made j)
  move_holds t m s r line h j = let q = mover d t m s r h in by_kind q.0 q.1 (move_is d t m s q.0 r q.1 h)
    where
      by_kind : (q : Instance) → map.get s.state.made s.active ≡ Some q → MoveIs d t m s r q → holds d x (map.get r.state.made j) ≡ holds d x (map.get s.state.made j)
      by_kind q made (answers a) =
          ap (λ (z : Going). holds d x (map.get z.state.made j)) a.is
          ∙ holds_set d x s.state.made s.active (answered q a.answer) (ap (holds d x) made ∙ sym (held_pushed d x q.func q.args (is_some q.enclosing) [] q.answers a.answer false
          ∙ tx_holds (effect_of d q) x q.func (holds d x (Some q)) (answered_plainly s.active s.state.items q (effect_of d q) m a.answer a.gives_it))) j
      by_kind q made (calls c) =
          ap (λ (z : Going). holds d x (map.get z.state.made j)) c.is
          ∙ holds_set d x s.state.made (callee_of s.active q) (new_member t c.func c.args (calls_at s.active q true)) (ap (holds d x) c.gone) j
      by_kind q made (returns e) =
          let w = returned d t m s r q made line e in
          let over = map.insert s.state.made s.active (ended q e.outcome) in
          let there : map.get over w.caller ≡ Some w.member.waiter = elsewhere s.state.made s.active w.caller (ended q e.outcome) (λ g. not_longer w.caller s.active (shorter d t s.state.made w.caller s.active w.member) g) ∙ w.member.waits in
          ap (λ (z : Going). holds d x (map.get z.state.made j)) w.is
          ∙ holds_answered d x over w.caller w.member.waiter (answer_of e.outcome) there (ap op_of w.member.called) j
          ∙ holds_set d x s.state.made s.active (ended q e.outcome) (ap (holds d x) made) j

  led_holds : (t : TxId) (s : Going) (moves : List Move) (l : Going) → OnCallStack d t s → Leads d t s moves l → (j : IntentId) → holds d x (map.get l.state.made j) ≡ holds d x (map.get s.state.made j)
  led_holds t s [] l line leads j = ap (λ (z : Going). holds d x (map.get z.state.made j)) (sym leads)
  led_holds t s (m ∷ ms) l line leads j = led_holds t leads.0 ms l (line_moved d t m s leads.0 line leads.1) leads.2 j ∙ move_holds t m s leads.0 line leads.1 j

  pub from_begin : (p : PlainState) (id : IntentId) (q : Instance) (moves : List Move) (l : Going) → map.get p.made id ≡ Some q → q.outcome ≡ None → effect_of d q ≡ Effect.Begin → Leads d (tx_begun id q) (opened p id q) moves l → (j : IntentId) → holds d x (map.get l.state.made j) ≡ holds d x (map.get p.made j)
  from_begin p id q moves l made none begins leads j = led_holds (tx_begun id q) (opened p id q) moves l (line_opened d p id q none) leads j ∙ holds_answered d x p.made id q Answer.Done made (ap op_of begins) j

  pub commit_holds : (p : PlainState) (id : IntentId) (r : PlainState) → Commits d p id r → (j : IntentId) → holds d x (map.get r.made j) ≡ holds d x (map.get p.made j)
  commit_holds p id r c j =
      let z = c.ends.stands.instance in
      let there : map.get c.last.state.made id ≡ Some z = ap (map.get c.last.state.made) (sym c.ends.owner) ∙ c.ends.stands.made in
      ap (λ (s : PlainState). holds d x (map.get s.made j)) c.is ∙ holds_answered d x c.last.state.made id z Answer.Done there (ap op_of c.ends.stands.effect) j
      ∙ from_begin p id c.instance c.moves c.last c.runs.made c.runs.open_still c.runs.begins c.runs.leads j

  pub abort_holds : (p : PlainState) (id : IntentId) (place : Place) (holder : Option IntentId) (r : PlainState) → Aborts d p id place holder r → (j : IntentId) → holds d x (map.get r.made j) ≡ holds d x (map.get p.made j)
  abort_holds p id place holder r c j =
      let z = c.ends.stands.instance in
      let there : map.get c.last.state.made id ≡ Some z = ap (map.get c.last.state.made) (sym c.ends.owner) ∙ c.ends.stands.made in
      let own : holds d x (Some (answered z Answer.Done)) ≡ holds d x (map.get p.made id) =
      sym (ap (holds d x) (here c.last.state.made id (answered z Answer.Done))) ∙ holds_answered d x c.last.state.made id z Answer.Done there (ap op_of c.ends.stands.effect) id
      ∙ from_begin p id c.instance (c.before ++ c.since) c.last c.runs.made c.runs.open_still c.runs.begins (abort_leads d p id place holder r c) id in
      ap (λ (s : PlainState). holds d x (map.get s.made j)) c.is ∙ holds_set d x p.made id (answered z Answer.Done) (sym own) j

-- an instance that stands at an operation on an item
abbrev At : Deployment → Instance → Item → Operation → OnItem → Type 0
At d q x o on = (op_of (effect_of d q) ≡ Some on) × (item_in q.func on ≡ x) × (on.does ≡ o)

module _ (d : Deployment) (x : Item) where
  -- who has locked an item holds its lock
  locks : (q : Instance) (on : OnItem) (a : Answer) → At d q x lock on → holds d x (Some (answered q a)) ≡ true
  locks q on a h =
      held_pushed d x q.func q.args (is_some q.enclosing) [] q.answers a false
      ∙ ap (λ o. held_if x q.func o (holds d x (Some q))) h.0
      ∙ ap (λ b. cond b (held_by on.does (holds d x (Some q))) (holds d x (Some q))) (same_item (item_in q.func on) x h.1)
      ∙ ap (λ o. held_by o (holds d x (Some q))) h.2

  -- and holds it after any other operation than an unlock of it
  by_does : (q : Instance) (on : OnItem) (does : Operation) → on.does ≡ does → (item_in q.func on ≡ x → on.does ≡ free → ⊥) → item_in q.func on ≡ x → held_by does true ≡ true
  by_does q on (write v) is never same = refl
  by_does q on (operation.cond r o v) is never same = refl
  by_does q on lock is never same = refl
  by_does q on free is never same = absurd (never same is)

  keeps : (q : Instance) (on : OnItem) (a : Answer) → op_of (effect_of d q) ≡ Some on → (item_in q.func on ≡ x → on.does ≡ free → ⊥) → holds d x (Some q) ≡ true → holds d x (Some (answered q a)) ≡ true
  keeps q on a is never h =
      held_pushed d x q.func q.args (is_some q.enclosing) [] q.answers a false ∙ ap (λ u. held_if x q.func u (holds d x (Some q))) is ∙ ap (held_if x q.func (Some on)) h
      ∙ (elim (is_eq (item_cmp (item_in q.func on) x)) as (λ b. is_eq (item_cmp (item_in q.func on) x) ≡ b → cond b (held_by on.does true) true ≡ true) [
        | true ↦ λ e. by_does q on on.does refl never (item_same (item_in q.func on) x e)
        | false ↦ λ e. refl
      ]) refl

-- a step that is no operation on an item moves no lock: a return answers a caller that stands at its call
module _ (d : Deployment) (x : Item) (p : PlainState) (well_formed : WellFormed d p) (id : IntentId) (q : Instance) (made : map.get p.made id ≡ Some q) (none : q.outcome ≡ None) where
  return_holds : (o : Outcome) (j : IntentId) → holds d x (map.get (answer_caller (with_instance p id (ended q o)) q.parent o).made j) ≡ holds d x (map.get p.made j)
  return_holds o j =
      let over = with_instance p id (ended q o) in
      let first = holds_set d x p.made id (ended q o) (ap (holds d x) made) j in
      elim (waited_in d None p.made (well_formed_with d p well_formed) id q made none) [
        | inl alone ↦ ap (λ (r : PlainState). holds d x (map.get r.made j)) (answers_nobody over q.parent o alone.alone) ∙ first
        | inr w ↦ ap (λ (r : PlainState). holds d x (map.get r.made j)) (answers_waiter d p id q w (ended q o) o)
            ∙ holds_answered d x over.made w.caller w.waiter (answer_of o) (still_there d p id q w (ended q o)) (ap op_of w.stands) j ∙ first
      ]

  callee_holds : (f : ℕ) (v : Value) (w : Bool) → map.get p.made (callee_of id q) ≡ None → (j : IntentId) → holds d x (map.get (with_callee p id q f v w).made j) ≡ holds d x (map.get p.made j)
  callee_holds f v w gone = holds_set d x p.made (callee_of id q) (new_instance f v (Some (calls_at id q w))) (ap (holds d x) gone)

  pub step_holds : (e : Effect) → waits_at p.made id q e ≡ false → effect_of d q ≡ e → op_of e ≡ None → (j : IntentId) → holds d x (map.get (step_by p id q e).made j) ≡ holds d x (map.get p.made j)
  step_holds (Effect.Read t k) idle is no_op = holds_answered d x p.made id q (Answer.Value (value_at p (item_of q t k))) made (ap op_of is)
  step_holds (Effect.Call f v) idle is no_op = callee_holds f v true (absent (map.get p.made (callee_of id q)) idle)
  step_holds (Effect.Async f v) idle is no_op =
      let s = new_instance f v (Some (calls_at id q false)) in
      let gone = absent (map.get p.made (callee_of id q)) idle in
      λ j. holds_answered d x (map.insert p.made (callee_of id q) s) id q Answer.Done (still_made p.made (callee_of id q) id s q gone made) (ap op_of is) j ∙ callee_holds f v false gone j
  step_holds (Effect.Return o) idle is no_op = return_holds o
  step_holds e idle is no_op = λ j. ap (λ o. holds d x (map.get (operated p id q o).made j)) no_op

module _ (d : Deployment) (x : Item) (i : IntentId) where
  -- the instance held the lock, and holds it
  abbrev Kept : PlainState → IntentId → Option Instance → Type 0
  Kept p j o = j ≡ i → holds d x (map.get p.made j) ≡ true → holds d x o ≡ true

  -- a step of any instance, but for the unlock of this item by this one
  step_keeps : (p : PlainState) (j : IntentId) (q : Instance) (e : Effect) → WellFormed d p → map.get p.made j ≡ Some q → q.outcome ≡ None → waits_at p.made j q e ≡ false → effect_of d q ≡ e → (j ≡ i → (on : OnItem) → At d q x free on → ⊥)
      → (k : IntentId) → Kept p k (map.get (step_by p j q e).made k)
  step_keeps p j q e well_formed made none idle is never = by_op (op_of e) refl
    where
      by_op : (o : Option OnItem) → op_of e ≡ o → (k : IntentId) → Kept p k (map.get (step_by p j q e).made k)
      by_op None so k = λ same h. step_holds d x p well_formed j q made none e idle is so k ∙ h
      by_op (Some on) so k =
          let a = answer_after on.does (value_at p (item_in q.func on)) in
          subst (λ (r : PlainState). Kept p k (map.get r.made k)) (sym (operation_step p j q e on so))
          (made_set p.made j (answered q a) (Kept p) (λ same h. keeps d x q on a (ap op_of is ∙ so) (λ item freed. never same on (ap op_of is ∙ so, item, freed)) (ap (holds d x) (sym made) ∙ h)) (λ k same h. h) k)

  stepped_keeps : (p : PlainState) (j : IntentId) (b : Kind) (r : PlainState) (s : Stepped d p j b r) → WellFormed d p → (j ≡ i → (on : OnItem) → At d s.instance x free on → ⊥) → Kept p i (map.get r.made i)
  stepped_keeps p j b r s well_formed never = subst (λ (z : PlainState). Kept p i (map.get z.made i)) s.leads (step_keeps p j s.instance (effect_of d s.instance) well_formed s.made s.open_still s.free refl never i)

  -- an entry that is not that unlock
  entry_keeps : (p r : PlainState) (e : Entry) → WellFormed d p → Did d p e r → ((q : Instance) (on : OnItem) → e ≡ Step i → map.get p.made i ≡ Some q → At d q x free on → ⊥) → Kept p i (map.get r.made i)
  entry_keeps p r (Start t f w) well_formed s never = subst (λ (z : PlainState). Kept p i (map.get z.made i)) s.leads (λ same h. holds_set d x p.made (root_of t) (new_instance f w None) (ap (holds d x) s.absent) i ∙ h)
  entry_keeps p r (Read j k) well_formed s never = stepped_keeps p j Kind.Read r s well_formed (λ same on h. let c = sym (ap op_of (read_is j (effect_of d s.instance) s.kind).2) ∙ h.0 in cc)
  entry_keeps p r (Step j) well_formed s never = stepped_keeps p j Kind.Change r s well_formed (λ same on h. never s.instance on (ap Step same) (ap (map.get p.made) (sym same) ∙ s.made) h)
  entry_keeps p r (CommittedTx j) well_formed s never = λ same h. commit_holds d x p j r s i ∙ h
  entry_keeps p r (AbortedTx j place holder) well_formed s never = λ same h. abort_holds d x p j place holder r s i ∙ h

  -- entries without it
  run_keeps : (done es : List Entry) (p r : PlainState) → run_from d nothing done ≡ Some p → run_from d p es ≡ Some r
      → ((some more : List Entry) → es ≡ some ++ Step i ∷ more → StandsAtOperation d (done ++ some) i x free → ⊥) → holds d x (map.get p.made i) ≡ true → holds d x (map.get r.made i) ≡ true
  run_keeps done [] p r run on never h = ap (λ (z : PlainState). holds d x (map.get z.made i)) (sym (same_some on)) ∙ h
  run_keeps done (e ∷ es) p r run on never h =
      (elim (after d p e) as (λ o. after d p e ≡ o → option_and_then (λ q. run_from d q es) o ≡ Some r → holds d x (map.get r.made i) ≡ true) [
        | None ↦ λ step is. cc
        | Some q ↦ λ step is. run_keeps (done ++ e ∷ []) es q r
            (runs_on d nothing p done (e ∷ []) run ∙ ap (option_and_then (λ z. Some z)) step)
            is
            (λ some more split st. never (e ∷ some) more (ap (λ l. e ∷ l) split) (subst (λ l. StandsAtOperation d l i x free) (append_assoc done (e ∷ []) some) st))
            (entry_keeps p q e (run_is_well_formed d done p run) (did d p e q step) (λ a on same made at. never [] es (ap (λ z. z ∷ es) same)
            (record { state = p; run = ap (run_from d nothing) (append-nil done) ∙ run; instance = a; made = made; on = on; wants_it = at.0; item = at.1; does = at.2 })) refl h)
      ]) refl on

pub legal_is_guarded : LegalIsGuarded
legal_is_guarded d book g i x before between rest e order at never t =
    let p = at.state in
    let whole = guarded_second d nothing p before (Step i ∷ (between ++ e ∷ rest)) at.run (subst (IsGuarded d nothing) order g.guarded) in
    let run : run_from d p (Step i ∷ between) ≡ Some t.0 = sym (runs_on d nothing p before (Step i ∷ between) at.run) ∙ t.1 in
    (elim (after d p (Step i)) as (λ o. after d p (Step i) ≡ o → option_and_then (λ q. run_from d q between) o ≡ Some t.0 → actor e ≡ i) [
      | None ↦ λ step is. cc
      | Some q ↦ λ step is.
          let s = did d p (Step i) q step in
          let same : s.instance ≡ at.instance = same_some (sym s.made ∙ at.made) in
          let holder : holds d x (map.get q.made i) ≡ true =
          ap (λ (z : PlainState). holds d x (map.get z.made i)) (sym s.leads ∙ ap (λ a. step_by p i a (effect_of d a)) same ∙ operation_step p i at.instance (effect_of d at.instance) at.on at.wants_it)
          ∙ ap (holds d x) (here p.made i (answered at.instance (answer_after at.on.does (value_at p (item_in at.instance.func at.on)))))
          ∙ locks d x at.instance at.on (answer_after at.on.does (value_at p (item_in at.instance.func at.on))) (at.wants_it, at.item, at.does) in
          let still = run_keeps d x i (before ++ Step i ∷ []) between q t.0 (runs_on d nothing p before (Step i ∷ []) at.run ∙ ap (option_and_then (λ z. Some z)) step) is
          (λ some more split st. never some more split (subst (λ l. StandsAtOperation d l i x free) (append_assoc before (Step i ∷ []) some) st)) holder in
          sym ((guarded_second d q t.0 between (e ∷ rest) is (whole.1 q step)).0 x t.2 i still)
    ]) refl run
