-- What takes no turn: two steps are enough.
use Rattle.beldi_histories.proofs.Names.{Answer, Closed, Deployment, Effect, Instance, IntentId, None, Option, Some, [], local_answer, answered, answered_if, ap, local_steps, effect_of, inl, inr, is_some, length, local_step, local_step_if, place_of, refl, subst, sym, ℕ, ◌++◌, ◌∙◌, ◌∷◌, ◌≡◌, ◌⊎◌}
use Rattle.beldi_histories.proofs.{Begins.begins_once, Begins.aborts_once, Frame.local_steps_by, Frame.local_steps_is, Frame.local_steps_same}

-- no other effect has an answer without a turn
pub none_of : (id : IntentId) (n : ℕ) (e : Effect) → (e ≡ Effect.Begin ⊎ e ≡ Effect.Abort → ⊥) → local_answer id n e ≡ None
none_of id n Effect.Begin h = absurd (h (inl refl))
none_of id n Effect.Abort h = absurd (h (inr refl))
none_of id n e h = refl

module _ (d : Deployment) (id : IntentId) where
  -- the answer that an instance has without a turn
  abbrev next : Instance → Option Answer
  next q = local_answer id (length q.answers) (effect_of d q)

  pub once_none : (q : Instance) → next q ≡ None → local_step d id q ≡ q
  once_none q is = elim q.outcome as (λ o. local_step_if d id q o ≡ q) [ None ↦ ap (answered_if q) is | Some o ↦ refl ]

  pub once_some : (q : Instance) (a : Answer) → q.outcome ≡ None → next q ≡ Some a → local_step d id q ≡ answered q a
  once_some q a none is = ap (local_step_if d id q) none ∙ ap (answered_if q) is

  -- what an instance was called with stays
  pub origin_stays : (q : Instance) → ((local_steps d id q).parent ≡ q.parent) × ((local_steps d id q).enclosing ≡ q.enclosing)
  origin_stays q = local_steps_by d id (λ r. (r.parent ≡ q.parent) × (r.enclosing ≡ q.enclosing)) (λ r a none is h. h) q (refl, refl)

  -- ---- two steps are enough
  -- a third one would stand after a second Begin, or after an Abort
  no_third : (q : Instance) (a b : Answer) → next q ≡ Some a → next (answered q a) ≡ Some b → next (answered (answered q a) b) ≡ None
  no_third q a b is more = by_first (local_steps_is id (length q.answers) (effect_of d q) a is) (local_steps_is id (length (answered q a).answers) (effect_of d (answered q a)) b more)
    where
      by_first : (effect_of d q ≡ Effect.Begin) ⊎ ((effect_of d q ≡ Effect.Abort) × (a ≡ Answer.Aborted (record { place = place_of id (length q.answers); holder = None })))
          → (effect_of d (answered q a) ≡ Effect.Begin) ⊎ ((effect_of d (answered q a) ≡ Effect.Abort) × (b ≡ Answer.Aborted (record { place = place_of id (length (answered q a).answers); holder = None }))) → next (answered (answered q a) b) ≡ None
      by_first (inl e) (inl f) = absurd (begins_once d q.func q.args (is_some q.enclosing) q.answers a e f)
      by_first (inl e) (inr f) = none_of id (length (answered (answered q a) b).answers) (effect_of d (answered (answered q a) b)) (λ g. aborts_once d q.func q.args (is_some q.enclosing) (q.answers ++ a ∷ []) (record { place = place_of id (length (answered q a).answers); holder = None }) f.0
          (subst (λ c. effect_of d (answered (answered q a) c) ≡ Effect.Begin ⊎ effect_of d (answered (answered q a) c) ≡ Effect.Abort) f.1 g))
      by_first (inr e) f = absurd (aborts_once d q.func q.args (is_some q.enclosing) q.answers (record { place = place_of id (length q.answers); holder = None }) e.0
          (subst (λ c. effect_of d (answered q c) ≡ Effect.Begin ⊎ effect_of d (answered q c) ≡ Effect.Abort) e.1 (elim f [ inl g ↦ inl g | inr g ↦ inr g.0 ])))

  pub closed_local_steps : (q : Instance) → Closed d id (local_steps d id q)
  closed_local_steps q none = by_first (next q) refl
    where
      open_still : q.outcome ≡ None
      open_still = sym (local_steps_same d id q).outcome ∙ none

      by_next : (a : Answer) → next q ≡ Some a → (o : Option Answer) → next (answered q a) ≡ o → next (local_step d id (answered q a)) ≡ None
      by_next a is None more = ap next (once_none (answered q a) more) ∙ more
      by_next a is (Some b) more = ap next (once_some (answered q a) b open_still more) ∙ no_third q a b is more

      by_first : (o : Option Answer) → next q ≡ o → next (local_steps d id q) ≡ None
      by_first None is = ap (λ r. next (local_step d id r)) (once_none q is) ∙ ap next (once_none q is) ∙ is
      by_first (Some a) is = ap (λ r. next (local_step d id r)) (once_some q a open_still is) ∙ by_next a is (next (answered q a)) refl
