-- Who goes on in a transaction, and who waits.
use Rattle.beldi_executor.proofs.Names.{Actor, Acts, AllocError, Answer, Bool, Deployment, Draft, Err, Gave, GoesOn, IfOk, Instance, IntentId, IsCallee, IsDraft, IsReady, CallStack, List, None, Ok, PlainState, Result, Some, TxId, [], after, all_gone, answered, ap, arith, at_effect, at_next, at_one, effect_of, false, gives, going, id_cmp, id_exact, id_total, inl, inr, is_eq, is_some, length, refl, resumed, visible, subst, sym, true, wants_answer, ◌<◌, ◌∙◌, ◌∷◌, ◌≡◌}
use Rattle.beldi_executor.proofs.{Finite.apart, Finite.there, Finite.same_key, ExecutorKept.stands_there, Drafts.IsOne, Drafts.same_id, Drafts.same_instance, Drafts.draft_answered, Drafts.answered_gone}
use Rattle.beldi_executor.proofs.Names.map

-- who has fewer hops is another
pub shorter : (i j : IntentId) → length i.hops < length j.hops → is_eq (id_cmp i j) ≡ false
shorter i j few = by_test (is_eq (id_cmp i j)) refl
  where
    by_test : (b : Bool) → is_eq (id_cmp i j) ≡ b → b ≡ false
    by_test true e = let same = ap (λ (k : IntentId). length k.hops) (same_key id_exact i j e) in absurd (omega (arith, few, same))
    by_test false e = refl

-- ---- an instance that goes on

pub its_effect : (d : Deployment) (r : PlainState) (a : Actor) (h : Acts d r a) (x : Instance) → map.get r.made a.id ≡ Some x → effect_of d x ≡ a.machine.effect
its_effect d r a h x here =
    let y = h.instance in
    ap (effect_of d) (same_instance (map.get r.made a.id) x y here h.made) ∙ sym (at_effect d y.func y.args (is_some y.enclosing) a.machine y.answers h.stands).0

pub its_step : (d : Deployment) (r : PlainState) (a : Actor) (h : Acts d r a) (x : Instance) → map.get r.made a.id ≡ Some x → a.machine.steps ≡ length x.answers
its_step d r a h x here =
    let y = h.instance in
    (at_effect d y.func y.args (is_some y.enclosing) a.machine y.answers h.stands).1 ∙ ap (λ (z : Instance). length z.answers) (same_instance (map.get r.made a.id) y x h.made here)

pub its_func : (d : Deployment) (r : PlainState) (a : Actor) (h : Acts d r a) (x : Instance) → map.get r.made a.id ≡ Some x → a.func ≡ x.func
its_func d r a h x here = h.func ∙ ap (λ (z : Instance). z.func) (same_instance (map.get r.made a.id) h.instance x h.made here)

pub acts_ready : (d : Deployment) (r : PlainState) (a : Actor) → Acts d r a → IsReady d r a.id a.machine
acts_ready d r a h =
    let y = h.instance in
    record { instance = y; made = h.made; yet = h.yet; stands = stands_there d y.func y.args (is_some y.enclosing) a.machine y.answers h.stands }

pub ready_acts : (d : Deployment) (r : PlainState) (a : Actor) (h : IsReady d r a.id a.machine) → wants_answer a.machine.effect ≡ true → ((q : Instance) → map.get r.made a.id ≡ Some q → a.func ≡ q.func) → Acts d r a
ready_acts d r a h w func = record { instance = h.instance; made = h.made; yet = h.yet; func = func h.instance h.made; stands = h.stands.1 w }

-- ---- who waits

module _ (d : Deployment) (t : TxId) (r s : PlainState) (ms us : List IntentId) (id : IntentId)
    (same : (j : IntentId) → is_eq (id_cmp j id) ≡ false → map.get s.made j ≡ map.get r.made j)
    (gone : (j : IntentId) → map.get (all_gone r.made ms) j ≡ None → map.get (all_gone s.made us) j ≡ None) where
  pub callee_kept : (i : IntentId) (q x : Instance) (w : Actor) → map.get s.made i ≡ Some x → x.parent ≡ q.parent → IsCallee r ms i q w → IsCallee s us i x w
  callee_kept i q x w here from h = record { made = here; caller = h.caller; parent = from ∙ h.parent; told = h.told; is = h.is; since = gone i h.since; below = h.below; wants = h.wants }

  pub acts_kept : (w : Actor) → length w.id.hops < length id.hops → Acts d r w → Acts d s w
  acts_kept w few h = record { instance = h.instance; made = same w.id (shorter w.id id few) ∙ h.made; yet = h.yet; func = h.func; stands = h.stands }

  pub line_kept : (i : IntentId) (ws : List Actor) → length i.hops < length id.hops → CallStack d t r ms i ws → CallStack d t s us i ws
  line_kept i [] few is = is
  line_kept i (w ∷ ws) few (h, rest) =
      let fewer : length w.id.hops < length id.hops = omega (arith, few, h.called.below) in (
        record { callee = h.callee; called = callee_kept i h.callee h.callee w (same i (shorter i id few) ∙ h.called.made) refl h.called; acts = acts_kept w fewer h.acts },
        line_kept w.id ws fewer rest,
      )

  -- the one that changed is called as before
  pub line_changed : (x : Instance) (ws : List Actor) → map.get s.made id ≡ Some x → ((q : Instance) → map.get r.made id ≡ Some q → x.parent ≡ q.parent) → CallStack d t r ms id ws → CallStack d t s us id ws
  line_changed x [] here from is = is
  line_changed x (w ∷ ws) here from (h, rest) = (
    record { callee = x; called = callee_kept id h.callee x w here (from h.callee h.called.made) h.called; acts = acts_kept w h.called.below h.acts },
    line_kept w.id ws h.called.below rest,
  )

pub line_one : (d : Deployment) (t : TxId) (r : PlainState) (ms : List IntentId) (id : IntentId) (ws : List Actor) → CallStack d t r ms id ws → IsOne t r ms id
line_one d t r ms id [] is = inl is
line_one d t r ms id (w ∷ ws) (h, rest) = inr h.called.since

-- ---- the active one is answered

module _ (d : Deployment) (t : TxId) (p : PlainState) (q : Instance) (r : PlainState) (h : Draft) (a : Actor) (y : Answer) (g : GoesOn d t p q r h a) where
  abbrev x : Instance
  x = g.acts.instance

  abbrev s : PlainState
  s = gives r a.id x y

  here : map.get s.made a.id ≡ Some (answered x y)
  here = there id_total r.made a.id a.id (answered x y) (same_id a.id)

  pub answered_draft : IsDraft t p q s h
  answered_draft = draft_answered t p q r h g.draft a.id x y g.acts.made (line_one d t r h.members a.id h.waiting g.stack)

  answered_goes : wants_answer a.machine.effect ≡ true → GoesOn d t p q s h (record a { machine = resumed d a.machine y })
  answered_goes w = record {
    draft = answered_draft;
    acts = record { instance = answered x y; made = here; yet = g.acts.yet; func = g.acts.func; stands = at_next d x.func x.args (is_some x.enclosing) a.machine x.answers y w g.acts.stands };
    stack = line_changed d t r s h.members h.members a.id (λ j off. apart id_total r.made a.id j (answered x y) off)
        (answered_gone t p q r h g.draft a.id x (answered x y) g.acts.made (line_one d t r h.members a.id h.waiting g.stack))
        (answered x y) h.waiting here (λ z is. ap (λ (i : Instance). i.parent) (same_instance (map.get r.made a.id) x z g.acts.made is)) g.stack;
  }

  pub gave : (n : PlainState) (res : Result Actor AllocError) → wants_answer a.machine.effect ≡ true → n ≡ s → IfOk res (λ b. b ≡ record a { machine = resumed d a.machine y }) → Gave d t p q r h a y n res
  gave n (Ok b) w is next = (
    subst (λ (n : PlainState). GoesOn d t p q n h b) (sym is) (subst (GoesOn d t p q s h) (sym next) (answered_goes w)),
    ap (λ (b : Actor). b.id) next,
    λ z at. is ∙ ap (λ z. gives r a.id z y) (same_instance (map.get r.made a.id) x z g.acts.made at),
  )
  gave n (Err e) w is next = subst (λ (n : PlainState). IsDraft t p q n h) (sym is) answered_draft

-- .. as it is seen
pub gave_seen : (d : Deployment) (t : TxId) (p : PlainState) (q : Instance) (r : PlainState) (h : Draft) (a : Actor) (y : Answer) (s : PlainState) (b : Actor) → Gave d t p q r h a y s (Ok b) → (x : Instance) → map.get r.made a.id ≡ Some x → going s h b ≡ after r h a x y
gave_seen d t p q r h a y s b gave x here = λ i. record { state = visible (gave.2 x here i) h.undo; active = gave.1 i }

-- .. in place
pub gives_so : (r s : PlainState) (id : IntentId) (x : Instance) (a : Answer) → map.get r.made id ≡ Some x → s.items ≡ r.items → s.made ≡ at_one r.made id (λ q. answered q a) (map.get r.made id) → s ≡ gives r id x a
gives_so r s id x a here items made =
    let same : s.made ≡ map.insert r.made id (answered x a) = made ∙ ap (at_one r.made id (λ q. answered q a)) here in
    λ i. record { items = items i; made = same i }
