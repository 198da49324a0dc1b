-- A read or an operation of the active one, in place and as it is seen.
use Rattle.beldi_executor.proofs.Names.{Actor, AllocError, Answer, Deployment, Draft, Effect, Err, FinMap, Gave, GoesOn, Instance, IntentId, IsDraft, IsUndone, List, MadeIn, Moved, Ok, Outcome, PlainState, Result, Some, TxId, Value, Was, all_swept, answer_by, answered, answered_if, ap, can_move, gives, id_cmp, instance_by, is_some, item_cmp, items_by, keeps, moves_by, op_of, puts, refl, visible, step_by, subst, sym, touched, true, wants_answer, ℕ, ◌∙◌, ◌≡◌}
use Rattle.beldi_executor.proofs.{Made.acts, Made.acts_so, InPlace.puts_undone, InPlace.puts_seen, InPlace.answer_seen, Drafts.same_instance, Drafts.draft_kept, CallStacks.gave_seen, CallStacks.line_changed}
use Rattle.beldi_executor.proofs.Names.map

touched_acts : (e : Effect) → is_some (touched e) ≡ true → (acts e ≡ true) × (wants_answer e ≡ true)
touched_acts (Effect.Call f a) t = cc
touched_acts (Effect.Async f a) t = cc
touched_acts (Effect.Return o) t = cc
touched_acts e t = (refl, refl)

pub touched_wants : (e : Effect) → is_some (touched e) ≡ true → wants_answer e ≡ true
touched_wants e t = (touched_acts e t).1

touched_moves : (t : TxId) (p : PlainState) (id : IntentId) (q : Instance) (e : Effect) → is_some (touched e) ≡ true → moves_by t p id q e ≡ Some (record { state = step_by p id q e; active = id })
touched_moves t p id q (Effect.Read b k) h = refl
touched_moves t p id q (Effect.Write b k v) h = refl
touched_moves t p id q (Effect.CondWrite b k r o v) h = refl
touched_moves t p id q e h = cc

-- the step that is made in place is the one that is seen
seen_step : (r s : PlainState) (ws us : List Was) (id : IntentId) (x : Instance) (e : Effect) (n : FinMap item_cmp Value) (a : Answer) → is_some (touched e) ≡ true → map.get r.made id ≡ Some x → n ≡ puts r.items x.func (op_of e) → us ≡ keeps r.items ws x.func (op_of e) → answer_by r.items x e ≡ Some a → s ≡ gives (record { items = n; made = r.made }) id x a → step_by (visible r ws) id x e ≡ visible s us
seen_step r s ws us id x e n a t here items kept answers is =
    let both : all_swept n us ≡ items_by (all_swept r.items ws) x e = ap (λ n. all_swept n us) items ∙ ap (all_swept (puts r.items x.func (op_of e))) kept ∙ puts_seen r.items ws x (op_of e) in
    let one : instance_by (all_swept r.items ws) x e ≡ answered x a = ap (answered_if x) (answer_seen r.items ws x e ∙ answers) in
    sym (acts_so (visible r ws) id x e (touched_acts e t).0 here)
    ∙ (λ i. record { items = sym both i; made = map.insert r.made id (one i) })
    ∙ ap (λ (t : PlainState). visible t us) (sym is)

-- what is set in place can be put back
pub draft_puts : (t : TxId) (p : PlainState) (q x : Instance) (r : PlainState) (h : Draft) (e : Effect) (n : FinMap item_cmp Value) (us : List Was) → IsDraft t p q r h → n ≡ puts r.items x.func (op_of e) → us ≡ keeps r.items h.undo x.func (op_of e) → IsDraft t p q (record { items = n; made = r.made }) (record h { undo = us })
draft_puts t p q x r h e n us g items kept =
    draft_kept t p q r (record { items = n; made = r.made }) h (record h { undo = us }) g refl
    (subst (λ n. IsUndone p.items n us) (sym items) (subst (IsUndone p.items (puts r.items x.func (op_of e))) (sym kept) (puts_undone p.items r.items h.undo x.func (op_of e) g.undone))) refl

module _ (d : Deployment) (t : TxId) (p : PlainState) (q : Instance) (r : PlainState) (h : Draft) (a : Actor) (n : FinMap item_cmp Value) (us : List Was) (y : Answer)
    (g : GoesOn d t p q r h a)
    (made : MadeIn r.items n h.undo us g.acts.instance a.machine.effect (Ok (Some y))) where
  abbrev mid : PlainState
  mid = record { items = n; made = r.made }

  abbrev k : Draft
  k = record h { undo = us }

  -- it was made in place ..
  pub touched_goes : GoesOn d t p q mid k a
  touched_goes = record {
    draft = draft_puts t p q g.acts.instance r h a.machine.effect n us g.draft made.1 made.2;
    acts = record { instance = g.acts.instance; made = g.acts.made; yet = g.acts.yet; func = g.acts.func; stands = g.acts.stands };
    stack = line_changed d t r mid h.members h.members a.id (λ j off. refl) (λ j none. none) g.acts.instance h.waiting g.acts.made (λ z is. ap (λ (i : Instance). i.parent) (same_instance (map.get r.made a.id) g.acts.instance z g.acts.made is)) g.stack;
  }

  -- .. and is answered
  pub touched_moved : (s : PlainState) (res : Result Actor AllocError) → Gave d t p q mid k a y s res → Moved d t p q r h a s k res
  touched_moved s (Ok b) gave = (
    gave.0,
    λ z at.
        let x = g.acts.instance in
        ap (λ z. moves_by t (visible r h.undo) a.id z a.machine.effect) (same_instance (map.get r.made a.id) z x at g.acts.made)
        ∙ touched_moves t (visible r h.undo) a.id x a.machine.effect made.0
        ∙ ap (λ u. Some (record { state = u; active = a.id })) (seen_step r (gives mid a.id x y) h.undo us a.id x a.machine.effect n y made.0 g.acts.made made.1 made.2 made.3 refl)
        ∙ ap (λ u. Some u) (sym (gave_seen d t p q mid k a y s b gave x g.acts.made)),
  )
  touched_moved s (Err e) gave = gave

-- what has a move, and is neither a call nor a return
pub can_touch : (t : TxId) (made : FinMap id_cmp Instance) (id : IntentId) (n : ℕ) (e : Effect) → can_move t made id n e ≡ true → ((f : ℕ) (v : Value) → e ≡ Effect.Call f v → ⊥) → ((o : Outcome) → e ≡ Effect.Return o → ⊥) → is_some (touched e) ≡ true
can_touch t made id n (Effect.Read b k) can c r = refl
can_touch t made id n (Effect.Write b k v) can c r = refl
can_touch t made id n (Effect.CondWrite b k q o v) can c r = refl
can_touch t made id n (Effect.Call f v) can c r = absurd (c f v refl)
can_touch t made id n (Effect.Return o) can c r = absurd (r o refl)
can_touch t made id n e can c r = cc
