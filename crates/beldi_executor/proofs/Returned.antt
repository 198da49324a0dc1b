-- A return of the active one, whose caller is answered.
use Rattle.beldi_executor.proofs.Names.{Actor, AllocError, Bool, Deployment, Draft, Err, Gave, GoesOn, Instance, IntentId, IsCallee, Left, CallStack, List, Moved, None, Ok, Option, Outcome, PlainState, Result, Some, TxId, [], all_gone, answer_of, answered, ap, at_one, can_move, cond, ended, false, get-insert, id_cmp, id_exact, id_total, if◌then◌else◌, is_eq, is_owner, length, moves_by, not, refl, returns_to, same_map, visible, subst, sym, true, with_instance, ◌<◌, ◌∙◌, ◌∷◌, ◌≡◌, Effect}
use Rattle.beldi_executor.proofs.{Finite.apart, Finite.same_key, Drafts.Instances, Drafts.same_id, Drafts.same_instance, Drafts.draft_member, Drafts.member_gone, Drafts.answered_gone, CallStacks.shorter, CallStacks.line_kept, CallStacks.line_one}
use Rattle.beldi_executor.proofs.Names.map

not_false : (b : Bool) → not b ≡ true → b ≡ false
not_false false h = refl
not_false true h = cc

-- a set of one and of another may change places
set_both : (m : Instances) (i j : IntentId) (x y : Instance) → is_eq (id_cmp i j) ≡ false → map.insert (map.insert m i x) j y ≡ map.insert (map.insert m j y) i x
set_both m i j x y off = same_map id_total id_exact _ _ (λ k.
    get-insert id_total (map.insert m i x) j y k
    ∙ ap (cond (is_eq (id_cmp k j)) (Some y)) (get-insert id_total m i x k)
    ∙ two (is_eq (id_cmp k i)) (is_eq (id_cmp k j)) (map.get m k) (λ a b. let one = same_key id_exact k i a in let clash = sym off ∙ ap (λ k. is_eq (id_cmp k j)) (sym one) ∙ b in cc)
    ∙ sym (get-insert id_total (map.insert m j y) i x k ∙ ap (cond (is_eq (id_cmp k i)) (Some x)) (get-insert id_total m j y k)))
  where
    two : (a b : Bool) (g : Option Instance) → (a ≡ true → b ≡ true → ⊥) → cond b (Some y) (cond a (Some x) g) ≡ cond a (Some x) (cond b (Some y) g)
    two true true g h = absurd (h refl refl)
    two true false g h = refl
    two false true g h = refl
    two false false g h = refl

-- the caller `w` was answered in `m`, and then its callee ends
module _ (d : Deployment) (t : TxId) (p : PlainState) (q : Instance) (r m s : PlainState) (h : Draft) (id : IntentId) (x : Instance) (o : Outcome) (w b : Actor)
    (g : GoesOn d t p q r h w)
    (callee : IsCallee r h.members id x w)
    (gave : Gave d t p q r h w (answer_of o) m (Ok b))
    (items : s.items ≡ m.items)
    (ends : s.made ≡ at_one m.made id (λ q. ended q o) (map.get m.made id)) where
  abbrev y : Instance
  y = g.acts.instance

  off : is_eq (id_cmp w.id id) ≡ false
  off = shorter w.id id callee.below

  apart_too : is_eq (id_cmp id w.id) ≡ false
  apart_too = by_test (is_eq (id_cmp id w.id)) refl
    where
      by_test : (b : Bool) → is_eq (id_cmp id w.id) ≡ b → b ≡ false
      by_test true e = let clash = sym off ∙ ap (λ j. is_eq (id_cmp w.id j)) (same_key id_exact id w.id e) ∙ same_id w.id in cc
      by_test false e = refl

  still : map.get m.made id ≡ Some x
  still = ap (λ (n : PlainState). map.get n.made id) (gave.2 y g.acts.made) ∙ apart id_total r.made w.id id (answered y (answer_of o)) apart_too ∙ callee.made

  made_is : s.made ≡ map.insert m.made id (ended x o)
  made_is = ends ∙ ap (at_one m.made id (λ q. ended q o)) still

  s_is : s ≡ with_instance m id (ended x o)
  s_is = λ i. record { items = items i; made = made_is i }

  since : map.get (all_gone m.made h.members) id ≡ None
  since = ap (λ (n : PlainState). map.get (all_gone n.made h.members) id) (gave.2 y g.acts.made)
      ∙ answered_gone t p q r h g.draft w.id y (answered y (answer_of o)) g.acts.made (line_one d t r h.members w.id h.waiting g.stack) id callee.since

  goes : GoesOn d t p q (with_instance m id (ended x o)) h b
  goes =
      let n = with_instance m id (ended x o) in
      let few : length b.id.hops < length id.hops = subst (λ (i : IntentId). length i.hops < length id.hops) (sym gave.1) callee.below in
      let at : (j : IntentId) → is_eq (id_cmp j id) ≡ false → map.get n.made j ≡ map.get m.made j = λ j off. apart id_total m.made id j (ended x o) off in
      record {
        draft = draft_member t p q m h gave.0.draft id x (ended x o) still since;
        acts = record { instance = gave.0.acts.instance; made = at b.id (shorter b.id id few) ∙ gave.0.acts.made; yet = gave.0.acts.yet; func = gave.0.acts.func; stands = gave.0.acts.stands };
        stack = line_kept d t m n h.members h.members id at (member_gone t p q m h gave.0.draft id x (ended x o) still since) b.id h.waiting few gave.0.stack;
      }

  pub left : Left d t p q r h id x o w s (Ok b)
  left = (
    subst (λ (s : PlainState). GoesOn d t p q s h b) (sym s_is) goes,
    gave.1,
    λ z here.
        s_is
        ∙ ap (λ (n : PlainState). with_instance n id (ended x o)) (gave.2 z here)
        ∙ (λ i. record { items = r.items; made = set_both r.made w.id id (answered z (answer_of o)) (ended x o) off i }),
  )

-- the active callee ends
module _ (d : Deployment) (t : TxId) (p : PlainState) (q : Instance) (r : PlainState) (h : Draft) (a w : Actor) (ws : List Actor) (o : Outcome)
    (g : GoesOn d t p q r h a)
    (returns : a.machine.effect ≡ Effect.Return o)
    (waits : h.waiting ≡ w ∷ ws) where
  abbrev popped : Draft
  popped = record h { waiting = ws }

  line : CallStack d t r h.members a.id (w ∷ ws)
  line = subst (CallStack d t r h.members a.id) waits g.stack

  pub popped_goes : GoesOn d t p q r popped w
  popped_goes = record { draft = record { tx = g.draft.tx; undone = g.draft.undone; others = g.draft.others; longer = g.draft.longer }; acts = line.0.acts; stack = line.1 }

  abbrev own : Instance
  own = g.acts.instance

  pub popped_callee : IsCallee r popped.members a.id own w
  popped_callee =
      let c = line.0.called in
      let is = same_instance (map.get r.made a.id) own line.0.callee g.acts.made c.made in
      record { made = g.acts.made; caller = c.caller; parent = ap (λ (i : Instance). i.parent) is ∙ c.parent; told = c.told; is = c.is; since = c.since; below = c.below; wants = c.wants }

  apart_from : is_eq (id_cmp w.id a.id) ≡ false
  apart_from = shorter w.id a.id popped_callee.below

  pub left_moved : can_move t r.made a.id a.machine.steps a.machine.effect ≡ true → (s : PlainState) (res : Result Actor AllocError) → Left d t p q r popped a.id own o w s res → Moved d t p q r h a s popped res
  left_moved can s (Err e) l = l
  left_moved can s (Ok b) l = (
    l.0,
    λ z here.
        let c = popped_callee.caller in
        let is = same_instance (map.get r.made a.id) z own here g.acts.made in
        let y = line.0.acts.instance in
        let other : is_owner t a.id ≡ false = not_false (is_owner t a.id) (ap (can_move t r.made a.id a.machine.steps) (sym returns) ∙ can) in
        let now = with_instance (visible r h.undo) a.id (ended own o) in
        let at : map.get now.made w.id ≡ Some y = apart id_total r.made a.id w.id (ended own o) apart_from ∙ line.0.acts.made in
        ap (λ z. moves_by t (visible r h.undo) a.id z a.machine.effect) is
        ∙ ap (moves_by t (visible r h.undo) a.id own) returns
        ∙ ap (λ b. if b then None else returns_to (visible r h.undo) a.id own o own.parent) other
        ∙ ap (returns_to (visible r h.undo) a.id own o) popped_callee.parent
        ∙ ap (λ b. Some (record { state = if b then by_give now c.place.intent else now; active = c.place.intent })) popped_callee.told
        ∙ ap (λ i. Some (record { state = by_give now i; active = i })) popped_callee.is
        ∙ ap (λ e. Some (record { state = give_one now w.id e; active = w.id })) at
        ∙ (λ i. Some (record { state = visible (sym (l.2 y line.0.acts.made) i) h.undo; active = sym l.1 i })),
  )
    where
      give_one : PlainState → IntentId → Option Instance → PlainState
      give_one n i None = n
      give_one n i (Some z) = with_instance n i (answered z (answer_of o))

      by_give : PlainState → IntentId → PlainState
      by_give n i = give_one n i (map.get n.made i)

-- who is not the owner is waited for
pub awaited : (d : Deployment) (t : TxId) (p : PlainState) (q : Instance) (r : PlainState) (h : Draft) (a : Actor) (o : Outcome) → GoesOn d t p q r h a → a.machine.effect ≡ Effect.Return o → h.waiting ≡ [] → can_move t r.made a.id a.machine.steps a.machine.effect ≡ true → ⊥
awaited d t p q r h a o g returns none can =
    let is : a.id ≡ t.intent = subst (CallStack d t r h.members a.id) none g.stack in
    let other : is_owner t a.id ≡ false = not_false (is_owner t a.id) (ap (can_move t r.made a.id a.machine.steps) (sym returns) ∙ can) in
    let clash = sym other ∙ ap (is_owner t) is ∙ same_id t.intent in
    cc
