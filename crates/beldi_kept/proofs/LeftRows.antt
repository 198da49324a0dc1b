-- What the table's rows tell of the run of the book.
use Rattle.std.specs.FinMap as map
use Rattle.std.specs.Prelude.{slice_get, take, ◌||◌}
use Rattle.std.proofs.Common.{◌≡◌, ◌⊎◌, inl, inr, ℕ, ◌≤◌, true, false, Option, Some, None, is_some, refl, ap, sym, ◌∙◌, subst, arith}
use Rattle.beldi_value.specs.{Id.root_of, declared.id.IntentId.IntentId, declared.outcome.Outcome.Outcome, declared.place.Owner.TheVariants.Intent, declared.place.Owner.TheVariants.Tx, declared.place.TxId.TxId}
use Rattle.beldi_tree.specs.declared.deployment.Deployment.{Deployment}
use Rattle.beldi_lang.specs.{declared.effect.Answer.Answer, declared.effect.Effect.Effect, Wants.wants}
use Rattle.beldi_plain.specs.{Item.Item, Plain.Instance, Plain.PlainState, Plain.effect_before}
use Rattle.beldi_plain_laws.specs.Txs.{or_own, tx_at, tx_by}
use Rattle.beldi_row.specs.{Key.RowKey, Table.Rows, declared.row.Body.Body, declared.row.IntentRow.IntentRow, declared.row.Row.Row}
use Rattle.beldi_links.specs.Links.{IsLinked}
use Rattle.beldi_intent.specs.Intent.{intent_key, is_ended, root_key}
use Rattle.beldi_step.specs.{HostStep.Core, Tables.decision_key, Tables.is_committed}
use Rattle.beldi_step.proofs.StepRuns.{same_some}
use Rattle.beldi_histories.specs.{Histories.Histories, Contents.content_of, Contents.is_owner, Stands.HasNotEnded, Stands.IsGivingBack, Stands.IsUndecided, Stands.Stands, Stands.body_of, Stands.has_place, Stands.held_answer, Stands.key_in}
use Rattle.beldi_invariant.specs.{FoundInside.has_finish, OneAnswer.AnswersOf, OneAnswer.HasAnswers}
use Rattle.beldi_invariant.proofs.{Listing.listing_by, Outside.recorded_of, OneAnswer.answers_of, Standing.invariant_stands, Standing.same_run}
use Rattle.beldi_upkeep.specs.Callees.{HasBody}
use Rattle.beldi_upkeep.proofs.{FromInvariant.body_recorded, PastOwn.called_owner}
use Rattle.beldi_kept.specs.{KeptRows.HasKept, KeptRows.IsOld, StandsLess.AnswersLess, StandsLess.IsFresh, StandsLess.KeptAnswers, StandsLess.KeptListing, StandsLess.KeptStand, StandsLess.OneAnswerLess, StandsLess.StandsLater, StandsLess.StandsLess, StandsLess.TellsDecision}
use Rattle.beldi_kept.proofs.{Gone.old_still, Less.there_kept}
use Rattle.beldi_kept.proofs.Alive.{alive_there, holder_alive, recorded_alive, owner_alive, same_decision, same_held, same_listed, same_owner, same_row, same_shadow}

-- who has not ended has no finish
no_finish : (i : IntentRow) → is_ended i ≡ false → i.finish ≡ None
no_finish i open_still = by_finish i.outcome i.finish open_still
  where
    by_finish : (o : Option Outcome) (f : Option ℕ) → (is_some o || is_some f) ≡ false → f ≡ None
    by_finish o f e = grind arith

-- the transaction that a step is in is its intent's own, or the one that this was called in
tx_own : (id : IntentId) (func k : ℕ) (e : Effect) (o : Option ℕ) (u : TxId) → tx_by id func k e o ≡ Some u → u.intent ≡ id
tx_own id func k Effect.Begin o u is = ap (λ (z : TxId). z.intent) (sym (same_some is))
tx_own id func k e None u is = cc
tx_own id func k e (Some b) u is = ap (λ (z : TxId). z.intent) (sym (same_some is))

either_own : (id : IntentId) (w own : Option TxId) (u : TxId) → ((v : TxId) → own ≡ Some v → v.intent ≡ id) → or_own w own ≡ Some u → (u.intent ≡ id) ⊎ (w ≡ Some u)
either_own id None own u mine is = inl (mine u is)
either_own id (Some t) own u mine is = inr is

module _ (d : Deployment) (c : Core) (m : Rows) (h : HasKept d c m) where
  abbrev p : PlainState
  p = h.upkeep.invariant.plain

  stood : Stands d h.kept p
  stood = invariant_stands d c h.kept p h.upkeep.invariant h.upkeep.invariant.legal

  -- ---- the decision of a transaction
  place_kept : (o : Option TxId) → has_place m o ≡ true → has_place h.kept o ≡ true
  place_kept None place = refl
  place_kept (Some t) place = elim (h.less.rows (decision_key t) refl) [
    | inl same ↦ ap is_committed (sym same) ∙ place
    | inr off ↦ let clash = sym (ap is_committed off.0) ∙ place in cc
  ]

  told_same : (t : TxId) → TellsDecision d.life h.latest m t → map.get m (decision_key t) ≡ map.get h.kept (decision_key t)
  told_same t (inr w) = same_decision d c m h t (alive_there d c m h (intent_key t.intent t.func).home t.intent w.row w.there w.fresh)
  told_same t (inl there) = elim (h.less.rows (decision_key t) refl) [
    | inl same ↦ same
    | inr off ↦ let clash = sym (ap is_some off.0) ∙ there in cc
  ]

  -- ---- who has not ended
  module _ (home : ℕ) (id : IntentId) (i : IntentRow) (b : Body) (there : map.get m (key_in home id) ≡ Some (Row.Intent i)) (body : i.body ≡ Some b) (place : has_place m b.tx ≡ true) (open_still : is_ended i ≡ false) where
    own : map.get h.kept (key_in home id) ≡ Some (Row.Intent i)
    own = there_kept h.gone m h.kept h.less (key_in home id) (Row.Intent i) refl there

    has : HasBody h.kept home id i b
    has = record { there = own; body = body }

    -- the transaction that it was called in has not ended
    caller_alive : (u : TxId) → b.tx ≡ Some u → h.gone u.intent ≡ false
    caller_alive u inner =
        let k = body_recorded d c h.kept h.upkeep.invariant home id i b has in
        owner_alive d c m h u (called_owner d h.upkeep.invariant.histories h.upkeep.invariant.well_formed u id k.instance k.made (ap (λ (z : Body). z.tx) (sym k.body) ∙ inner))
        (λ fin. let clash = sym (ap is_some (no_finish i open_still)) ∙ h.upkeep.seats.ends_last u home id i b fin has inner in cc)

    alive_id : h.gone id ≡ false
    alive_id = alive_there d c m h home id i there (λ old. let clash : false ≡ true = subst (IsOld d.life h.latest) (no_finish i open_still) old in cc)

    held_there : (q : Instance) → map.get p.made id ≡ Some q → (n : ℕ) (a : Answer) → slice_get q.answers n ≡ Some a → held_answer m id q.func n (tx_at d id q n) (effect_before d q n) ≡ Some a
    held_there q made n a at = same_held d c m h id q.func n (tx_at d id q n) (effect_before d q n) alive_id in_tx ∙ stood.held home id i b own body (place_kept b.tx place) open_still q made n a at
      where
        was : b.tx ≡ q.enclosing
        was = let w = stood.made home id i b own body (place_kept b.tx place) in ap (λ (z : Body). z.tx) (w.body ∙ ap body_of (same_some (sym w.made ∙ made)))

        in_tx : (u : TxId) → tx_at d id q n ≡ Some u → h.gone u.intent ≡ false
        in_tx u is = elim (either_own id q.enclosing _ u (λ v e. tx_own id q.func _ _ _ v e) is) [
          | inl mine ↦ ap h.gone mine ∙ alive_id
          | inr inner ↦ caller_alive u (was ∙ inner)
        ]

  -- ---- roots
  open_root : (t : ℕ) (q : Instance) → map.get p.made (root_of t) ≡ Some q → q.outcome ≡ None → HasNotEnded m (root_key t)
  open_root t q made open_still =
      let w = stood.open_roots t q made open_still in
      let k = recorded_of d p h.upkeep.invariant.histories h.upkeep.invariant.extends (root_of t) q made in
      let alive = recorded_alive d c m h (root_of t) k.instance k.is (λ fin. let clash = sym (ap is_some (no_finish w.row w.not_ended)) ∙ sym (ap has_finish w.there) ∙ fin in cc) in
      record { row = w.row; there = same_row d c m h (root_key t) refl (λ off. let clash = sym off ∙ alive in cc) ∙ w.there; not_ended = w.not_ended }

  -- ---- items that a transaction owns
  owner_there : (x : Item) (t : TxId) → (content_of m x).owner ≡ Some (Tx t) → IsUndecided d m p t ⊎ IsGivingBack m t
  owner_there x t owned =
      let was = sym (same_owner d c m h x) ∙ owned in
      let alive = holder_alive d c m h t x was in
      elim (stood.owned x t was) [
        | inl u ↦ inl (record { owner = u.owner; undecided = same_decision d c m h t alive ∙ u.undecided })
        | inr g ↦ inr (record {
          decided = ap is_some (same_decision d c m h t alive) ∙ g.decided;
          owner = record { row = g.owner.row; there = same_row d c m h (intent_key t.intent t.func) refl (λ off. let clash = sym off ∙ alive in cc) ∙ g.owner.there; not_ended = g.owner.not_ended };
        })
      ]

  stands_less : StandsLess d h.latest m p
  stands_less = record {
    items = λ x. same_listed d c m h x ∙ stood.items x;
    made = λ home id i b there body place. stood.made home id i b (there_kept h.gone m h.kept h.less (key_in home id) (Row.Intent i) refl there) body (place_kept b.tx place);
    unmade = λ home id i b t there body inner tells none. stood.unmade home id i b (there_kept h.gone m h.kept h.less (key_in home id) (Row.Intent i) refl there) body (ap (has_place h.kept) inner ∙ sym (ap is_committed (told_same t tells)) ∙ none);
    held = λ home id i b there body place open_still q made n a at. held_there home id i b there body place open_still q made n a at;
    open_roots = open_root;
    locks = λ x j. ap (λ z. is_owner z (Intent j)) (same_owner d c m h x) ∙ stood.locks x j;
    owned = owner_there;
    threads = h.less.threads;
    shadows = λ t x w. subst IsLinked (sym (same_shadow d c m h t x (alive_there d c m h (intent_key t.intent t.func).home t.intent w.row w.there w.fresh))) (stood.shadows t x);
  }

-- ---- one answer per step
module _ (d : Deployment) (c : Core) (m : Rows) (h : HasKept d c m) where
  abbrev recorded : Histories
  recorded = h.upkeep.invariant.histories

  module _ (id : IntentId) (q : Instance) (made : map.get recorded id ≡ Some q) (home : ℕ) (w : IsFresh d.life h.latest m (key_in home id)) (owner : (u : TxId) → q.enclosing ≡ Some u → IsFresh d.life h.latest m (intent_key u.intent u.func)) where
    own_there : h.gone id ≡ false
    own_there = alive_there d c m h home id w.row w.there w.fresh

    owner_open : (u : TxId) → q.enclosing ≡ Some u → h.gone u.intent ≡ false
    owner_open u inner = let v = owner u inner in alive_there d c m h (intent_key u.intent u.func).home u.intent v.row v.there v.fresh

    in_open : (n : ℕ) (u : TxId) → tx_at d id q n ≡ Some u → h.gone u.intent ≡ false
    in_open n u is = elim (either_own id q.enclosing _ u (λ v e. tx_own id q.func _ _ _ v e) is) [
      | inl mine ↦ ap h.gone mine ∙ own_there
      | inr inner ↦ owner_open u inner
    ]

    answers_there : HasAnswers d c h.kept id q → HasAnswers d c m id q
    answers_there a = record { held = λ n x at. same_held d c m h id q.func n (tx_at d id q n) (wants d q.func q.args (is_some q.enclosing) (take n q.answers)) own_there (in_open n) ∙ a.held n x at; runs = a.runs }

  answers_less : (id : IntentId) (o : Option Instance) → map.get recorded id ≡ o → AnswersOf d c h.kept id o → AnswersLess d c h.latest m id o
  answers_less id None is a = a
  answers_less id (Some q) is a = (λ home w owner. answers_there id q is home w owner a, a.runs)

pub kept_answers : KeptAnswers
kept_answers d c m p h is = subst (OneAnswerLess d c h.latest m) (same_run d c h.kept p h.upkeep.invariant is)
    (record { histories = h.upkeep.invariant.histories; extends = h.upkeep.invariant.extends; each = λ id. answers_less d c m h id (map.get h.upkeep.invariant.histories id) refl (answers_of d c h.kept h.upkeep.invariant id (map.get h.upkeep.invariant.histories id) refl) })

pub kept_stand : KeptStand
kept_stand d c m p h is = subst (StandsLess d h.latest m) (same_run d c h.kept p h.upkeep.invariant is) (stands_less d c m h)

pub kept_listing : KeptListing
kept_listing d c m p h is = listing_by d c.book m p is (kept_stand d c m p h is).items

-- ---- by a later moment
module _ (d : Deployment) (early late : ℕ) (later : early ≤ late) (m : Rows) where
  fresh_then : (k : RowKey) → IsFresh d.life late m k → IsFresh d.life early m k
  fresh_then k w = record { row = w.row; there = w.there; fresh = λ old. w.fresh (old_still d.life early late w.row.finish w.row.finish later (λ f is. is) old) }

  tells_then : (t : TxId) → TellsDecision d.life late m t → TellsDecision d.life early m t
  tells_then t (inl there) = inl there
  tells_then t (inr w) = inr (fresh_then (intent_key t.intent t.func) w)

pub stands_later : StandsLater
stands_later d early late m p later h = record {
  items = h.items;
  made = h.made;
  unmade = λ home id i b t there body inner tells none. h.unmade home id i b t there body inner (tells_then d early late later m t tells) none;
  held = h.held;
  open_roots = h.open_roots;
  locks = h.locks;
  owned = h.owned;
  threads = h.threads;
  shadows = λ t x w. h.shadows t x (fresh_then d early late later m (intent_key t.intent t.func) w);
}
