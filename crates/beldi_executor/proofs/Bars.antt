-- What bars an effect from being carried out, and a transaction from being one step.
use Rattle.beldi_plain.specs.PlainEntries.{after}
use Rattle.beldi_executor.proofs.Names.{Actor, Bar, Begins, Bool, Change, Deployment, Did, DidStep, Effect, Err, Inside, Instance, IntentId, IsFree, Kind, Machine, NoEnd, None, NotEnabled, Ok, Option, OtherEffect, OutOfMemory, Outcome, CommittedSo, Place, PlainErr, PlainState, Read, Some, StandsAtBegin, StandsFree, AbortedSo, AbortedTx, CommittedTx, Unbuilt, ap, bar_made, bar_no, bar_of, bar_open, bar_commit, bar_step, bar_abort, bar_waiting, can_step, effect_of, false, if_built, if_open, is_none, is_waiting, kind_of, commit_from, refl, step_by, sym, true, abort_from, unless, ◌∙◌, ◌≡◌}
use Rattle.beldi_executor.proofs.Names.map

-- an instance that has not returned, and does not wait
steps : {X : Type 0} (o : Option Instance) (q : Instance) (w : Instance → Bool) (f : Instance → Option X) → o ≡ Some q → q.outcome ≡ None → w q ≡ false → can_step o w f ≡ f q
steps o q w f is yet free = ap (λ r. can_step r w f) is ∙ ap (λ r. if_open r (unless (w q) (f q))) yet ∙ ap (λ b. unless b (f q)) free

bars : (o : Option Instance) (q : Instance) (w : Instance → Bool) (f : Instance → Option Bar) → o ≡ Some q → q.outcome ≡ None → bar_step o w f ≡ bar_waiting (w q) (f q)
bars o q w f is yet = ap (λ r. bar_step r w f) is ∙ ap (λ r. bar_open r (bar_waiting (w q) (f q))) yet

stepped : {X : Type 0} (d : Deployment) (p : PlainState) (id : IntentId) (m : Machine) (r : IsFree d p id m) (f : Instance → Option X) → can_step (map.get p.made id) (is_waiting d p id) f ≡ f r.ready.instance
stepped d p id m r f = steps (map.get p.made id) r.ready.instance (is_waiting d p id) f r.ready.made r.ready.yet r.free

barred : (d : Deployment) (p : PlainState) (id : IntentId) (m : Machine) (r : IsFree d p id m) (f : Instance → Option Bar) → bar_step (map.get p.made id) (is_waiting d p id) f ≡ f r.ready.instance
barred d p id m r f = bars (map.get p.made id) r.ready.instance (is_waiting d p id) f r.ready.made r.ready.yet ∙ ap (λ b. bar_waiting b (f r.ready.instance)) r.free

-- there is no step at an effect that is not carried out yet
no_step : {X : Type 0} (k : Kind) (x : X) → is_none (bar_made k) ≡ false → (if_built k x ≡ None) × (bar_made k ≡ Some OtherEffect)
no_step Read x h = cc
no_step Change x h = cc
no_step Inside x h = (refl, refl)
no_step Unbuilt x h = (refl, refl)

pub not_built : (d : Deployment) (p : PlainState) (id : IntentId) (m : Machine) → IsFree d p id m → is_none (bar_made (kind_of id m.effect)) ≡ false → DidStep d id p p (Err (NotEnabled OtherEffect))
not_built d p id m r h =
    let n = no_step (kind_of id m.effect) (step_by p id r.ready.instance m.effect) h in (
      refl,
      stepped d p id m r _ ∙ ap (λ e. if_built (kind_of id e) (step_by p id r.ready.instance e)) (sym r.ready.stands.0) ∙ n.0,
      barred d p id m r _ ∙ ap (λ e. bar_made (kind_of id e)) (sym r.ready.stands.0) ∙ n.1,
    )

-- ---- transactions

-- what is barred whatever its effect has no state after it
never : {X : Type 0} (o : Option Instance) (w : Instance → Bool) (g : Instance → Option X) (b : Bar) → ((f : Instance → Option Bar) → bar_step o w f ≡ Some b) → can_step o w g ≡ None
never None w g b h = refl
never (Some q) w g b h = by_outcome q.outcome (w q) (h (λ r. None))
  where
    by_outcome : (o : Option Outcome) (t : Bool) → bar_open o (bar_waiting t None) ≡ Some b → if_open o (unless t (g q)) ≡ None
    by_outcome (Some o) t h = refl
    by_outcome None true h = refl
    by_outcome None false h = cc

pub no_begin : (d : Deployment) (p : PlainState) (id : IntentId) (why : PlainErr) → StandsFree d p id (Err why) → StandsAtBegin d p id (Err why)
no_begin d p id OutOfMemory h = tt
no_begin d p id (NotEnabled b) h = λ f g other. (never (map.get p.made id) (is_waiting d p id) (λ q. f q (effect_of d q)) b h, h (λ q. g q (effect_of d q)))

pub other_begin : (d : Deployment) (p : PlainState) (id : IntentId) (m : Machine) → IsFree d p id m → (m.effect ≡ Effect.Begin → ⊥) → StandsAtBegin d p id (Err (NotEnabled OtherEffect))
other_begin d p id m r n = λ f g other.
    let q = r.ready.instance in
    let none = other q m.effect n in (
      stepped d p id m r _ ∙ ap (f q) (sym r.ready.stands.0) ∙ none.0,
      barred d p id m r _ ∙ ap (g q) (sym r.ready.stands.0) ∙ none.1,
    )

other_commit : (d : Deployment) (p : PlainState) (id : IntentId) (q : Instance) (e : Effect) → (e ≡ Effect.Begin → ⊥) → (commit_from d p id q e ≡ None) × (bar_commit d p id q e ≡ Some OtherEffect)
other_commit d p id q Effect.Begin n = absurd (n refl)
other_commit d p id q e n = (refl, refl)

other_abort : (d : Deployment) (p : PlainState) (id : IntentId) (at : Place) (h : Option IntentId) (q : Instance) (e : Effect) → (e ≡ Effect.Begin → ⊥) → (abort_from d p id at h q e ≡ None) × (bar_abort d p id at h q e ≡ Some OtherEffect)
other_abort d p id at h q Effect.Begin n = absurd (n refl)
other_abort d p id at h q e n = (refl, refl)

pub no_commit : (d : Deployment) (p r : PlainState) (id : IntentId) (why : PlainErr) → StandsAtBegin d p id (Err why) → r ≡ p → Did d (CommittedTx id) p r (Err why)
no_commit d p r id OutOfMemory h same = same
no_commit d p r id (NotEnabled b) h same = let none = h (commit_from d p id) (bar_commit d p id) (other_commit d p id) in (same, none.0, none.1)

pub no_abort : (d : Deployment) (p r : PlainState) (id : IntentId) (at : Place) (hold : Option IntentId) (why : PlainErr) → StandsAtBegin d p id (Err why) → r ≡ p → Did d (AbortedTx id at hold) p r (Err why)
no_abort d p r id at hold OutOfMemory h same = same
no_abort d p r id at hold (NotEnabled b) h same = let none = h (abort_from d p id at hold) (bar_abort d p id at hold) (other_abort d p id at hold) in (same, none.0, none.1)

-- at its begin
module _ (d : Deployment) (p : PlainState) (id : IntentId) (m : Machine) (h : Begins d p id m) where
  abbrev q : Instance
  q = h.free.ready.instance

  at_begin : effect_of d q ≡ Effect.Begin
  at_begin = sym h.free.ready.stands.0 ∙ h.begins

  commit_is : after d p (CommittedTx id) ≡ commit_from d p id q Effect.Begin
  commit_is = stepped d p id m h.free (λ q. commit_from d p id q (effect_of d q)) ∙ ap (commit_from d p id q) at_begin

  commit_bar : bar_of d p (CommittedTx id) ≡ bar_commit d p id q Effect.Begin
  commit_bar = barred d p id m h.free (λ q. bar_commit d p id q (effect_of d q)) ∙ ap (bar_commit d p id q) at_begin

  pub commit_done : (r : PlainState) (k : Actor) → CommittedSo d p id q r (Ok k) → Did d (CommittedTx id) p r (Ok tt)
  commit_done r k did = (commit_is ∙ did.2, commit_bar ∙ ap (λ o. bar_no NoEnd o None) did.2)

  pub commit_not : (r : PlainState) (why : PlainErr) → CommittedSo d p id q r (Err why) → Did d (CommittedTx id) p r (Err why)
  commit_not r OutOfMemory did = did
  commit_not r (NotEnabled b) did = (did.0, commit_is ∙ did.1, commit_bar ∙ ap (λ o. bar_no NoEnd o None) did.1 ∙ ap (λ b. Some b) (sym did.2))

  module _ (at : Place) (hold : Option IntentId) where
    abort_is : after d p (AbortedTx id at hold) ≡ abort_from d p id at hold q Effect.Begin
    abort_is = stepped d p id m h.free (λ q. abort_from d p id at hold q (effect_of d q)) ∙ ap (abort_from d p id at hold q) at_begin

    abort_bar : bar_of d p (AbortedTx id at hold) ≡ bar_abort d p id at hold q Effect.Begin
    abort_bar = barred d p id m h.free (λ q. bar_abort d p id at hold q (effect_of d q)) ∙ ap (bar_abort d p id at hold q) at_begin

    pub abort_done : (r : PlainState) (k : Actor) → AbortedSo d p id q at hold r (Ok k) → Did d (AbortedTx id at hold) p r (Ok tt)
    abort_done r k did = (abort_is ∙ did.2, abort_bar ∙ did.3)

    pub abort_not : (r : PlainState) (why : PlainErr) → AbortedSo d p id q at hold r (Err why) → Did d (AbortedTx id at hold) p r (Err why)
    abort_not r OutOfMemory did = did
    abort_not r (NotEnabled b) did = (did.0, abort_is ∙ did.1, abort_bar ∙ did.2)
