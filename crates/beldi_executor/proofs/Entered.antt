-- A call of the active one.
use Rattle.beldi_executor.proofs.Names.{Actor, AllocError, Bool, Caller, Deployment, Draft, Effect, Err, GoesOn, Going, IfOk, Instance, IntentId, IsDraft, Moved, None, Ok, OnErr, Option, PlainState, Result, Some, TxId, Value, [], all_gone, ap, arith, at_begin, begun, can_move, child_of, false, going, has_callees, id_cmp, id_total, if◌then◌else◌, is_eq, is_some, length, length-append, ltb-true, moves_by, new_member, not, refl, visible, subst, sym, true, unless, wants_answer, with_instance, ℕ, ◌&&◌, ◌++◌, ◌<◌, ◌∙◌, ◌∷◌, ◌≡◌}
use Rattle.beldi_executor.proofs.{Finite.apart, Finite.there, Made.none_of, Drafts.Instances, Drafts.same_id, Drafts.draft_kept, Drafts.absent_gone, Drafts.entered_gone, CallStacks.shorter, CallStacks.its_step, CallStacks.its_func, CallStacks.line_kept}
use Rattle.beldi_executor.proofs.Names.map

and_both : (a b : Bool) → (a && b) ≡ true → (a ≡ true) × (b ≡ true)
and_both true true h = (refl, refl)
and_both true false h = cc
and_both false b h = cc

not_false : (b : Bool) → not b ≡ true → b ≡ false
not_false false h = refl
not_false true h = cc

pub call_room : (t : TxId) (made : Instances) (id : IntentId) (n f : ℕ) (v : Value) (e : Effect) → e ≡ Effect.Call f v → can_move t made id n e ≡ true → length id.hops < 63
call_room t made id n f v e is can = ltb-true (length id.hops) 63 (and_both (has_callees id) (not (is_some (map.get made (child_of id n)))) (ap (can_move t made id n) (sym is) ∙ can)).0

-- what it calls is to be made
module _ (d : Deployment) (t : TxId) (p : PlainState) (q : Instance) (r : PlainState) (h : Draft) (a : Actor) (f : ℕ) (v : Value)
    (g : GoesOn d t p q r h a)
    (calls : a.machine.effect ≡ Effect.Call f v)
    (can : can_move t r.made a.id a.machine.steps a.machine.effect ≡ true) where
  can_call : (has_callees a.id && not (is_some (map.get r.made (child_of a.id a.machine.steps)))) ≡ true
  can_call = ap (can_move t r.made a.id a.machine.steps) (sym calls) ∙ can

  abbrev k : IntentId
  k = child_of a.id a.machine.steps

  absent : map.get r.made k ≡ None
  absent = none_of (map.get r.made k) (not_false (is_some (map.get r.made k)) (and_both (has_callees a.id) (not (is_some (map.get r.made k))) can_call).1)

  abbrev from : Caller
  from = record { place = record { intent = a.id; step = a.machine.steps }; func = a.func; waits = true }

  abbrev member : Instance
  member = new_member h.tx f v from

  abbrev s : PlainState
  s = with_instance r k member

  abbrev deeper : Draft
  deeper = record h { members = h.members ++ k ∷ [] }

  pub entered_draft : IsDraft t p q s deeper
  entered_draft = draft_kept t p q r s h deeper g.draft refl g.draft.undone (entered_gone r.made h.members k member absent)

  gone_on : (j : IntentId) → map.get (all_gone r.made h.members) j ≡ None → map.get (all_gone s.made deeper.members) j ≡ None
  gone_on j none = ap (λ (m : Instances). map.get m j) (entered_gone r.made h.members k member absent) ∙ none

  longer : length a.id.hops < length k.hops
  longer = let one = length-append a.id.hops (a.machine.steps ∷ []) in omega (arith, one)

  abbrev callee : Actor
  callee = record { id = k; func = f; machine = begun d f v true }

  -- the callee is at the front
  pub entered_goes : GoesOn d t p q s (record deeper { waiting = a ∷ h.waiting }) callee
  entered_goes =
      let off : (j : IntentId) → is_eq (id_cmp j k) ≡ false → map.get s.made j ≡ map.get r.made j = λ j off. apart id_total r.made k j member off in
      record {
        draft = record { tx = entered_draft.tx; undone = entered_draft.undone; others = entered_draft.others; longer = entered_draft.longer };
        acts = record { instance = member; made = there id_total r.made k k member (same_id k); yet = refl; func = refl; stands = at_begin d f v true };
        stack = (
          record {
            callee = member;
            called = record {
              made = there id_total r.made k k member (same_id k);
              caller = from;
              parent = refl;
              told = refl;
              is = refl;
              since = gone_on k (absent_gone r.made h.members k absent);
              below = longer;
              wants = ap wants_answer calls;
            };
            acts = record { instance = g.acts.instance; made = off a.id (shorter a.id k longer) ∙ g.acts.made; yet = g.acts.yet; func = g.acts.func; stands = g.acts.stands };
          },
          line_kept d t r s h.members deeper.members k off gone_on a.id h.waiting longer g.stack,
        );
      }

  pub entered_moves : (x : Instance) → map.get r.made a.id ≡ Some x → moves_by t (visible r h.undo) a.id x a.machine.effect ≡ Some (going s (record deeper { waiting = a ∷ h.waiting }) callee)
  entered_moves x here =
      let step = its_step d r a g.acts x here in
      let func = its_func d r a g.acts x here in
      let both = and_both (has_callees a.id) (not (is_some (map.get r.made k))) can_call in
      ap (moves_by t (visible r h.undo) a.id x) calls
      ∙ ap (λ n. if has_callees a.id then unless_there (child_of a.id n) x n else None) (sym step)
      ∙ ap (λ b. if b then unless_there k x a.machine.steps else None) both.0
      ∙ ap (λ o. unless (is_some o) (Some (made_by t k x a.machine.steps))) absent
      ∙ (λ i. Some (record { state = with_instance (visible r h.undo) k (new_member (sym g.draft.tx i) f v (record { place = record { intent = a.id; step = a.machine.steps }; func = sym func i; waits = true })); active = k }))
    where
      made_by : TxId → IntentId → Instance → ℕ → Going
      made_by t j x n = record { state = with_instance (visible r h.undo) j (new_member t f v (record { place = record { intent = a.id; step = n }; func = x.func; waits = true })); active = j }

      unless_there : IntentId → Instance → ℕ → Option Going
      unless_there j x n = unless (is_some (map.get r.made j)) (Some (made_by t j x n))

  -- .. where the caller waits
  pub entered_result : (n : PlainState) (us ks : Draft) (b : Actor) (res : Result Actor AllocError) → n ≡ s → us ≡ deeper → b ≡ callee → IfOk res (λ z. (z ≡ b) × (ks ≡ record us { waiting = a ∷ us.waiting })) → OnErr res (ks ≡ us) → Moved d t p q r h a n ks res
  entered_result n us ks b (Ok z) is made who ok err =
      let last : ks ≡ record deeper { waiting = a ∷ h.waiting } = ok.1 ∙ ap (λ (u : Draft). record u { waiting = a ∷ u.waiting }) made in
      let it : z ≡ callee = ok.0 ∙ who in (
        subst (λ n. GoesOn d t p q n ks z) (sym is) (subst (λ ks. GoesOn d t p q s ks z) (sym last) (subst (GoesOn d t p q s (record deeper { waiting = a ∷ h.waiting })) (sym it) entered_goes)),
        λ x here. entered_moves x here ∙ (λ i. Some (going (sym is i) (sym last i) (sym it i))),
      )
  entered_result n us ks b (Err e) is made who ok err =
      subst (λ n. IsDraft t p q n ks) (sym is) (subst (IsDraft t p q s) (sym (err ∙ made)) entered_draft)
