-- What the histories have stays well formed with an answer, and a run that is behind stays so with what takes no turn.
use Rattle.beldi_histories.proofs.Names.{Answer, Closed, Deployment, Effect, Instance, IntentId, IsAnswer, List, None, Option, Prefix, WellFormedHistory, Some, TxId, [], and_local, local_answer, answered, ap, append-nil, append_assoc, effect_after, effect_of, length, advanced, local_step, place_of, refl, run_on, run_local, same_some, slice_get, subst, sym, take, tx_after, tx_now, went_pushed, ℕ, ◌++◌, ◌∙◌, ◌∷◌, ◌≡◌}
use Rattle.beldi_histories.proofs.{Answers.take_front, Answers.get_next, Cases.by_option, Frame.once_by}

-- ---- an answer more
pub well_formed_pushed : (d : Deployment) (id : IntentId) (q : Instance) (a : Answer) → q.outcome ≡ None → IsAnswer (place_of id (length q.answers)) (tx_now d id q) (effect_of d q) a → WellFormedHistory d id q → WellFormedHistory d id (answered q a)
well_formed_pushed d id q a none is h = record { past = went_pushed d id q a is h.past; over = λ o g. let k = sym none ∙ g in cc }

-- what takes no turn is answered so
local_steps_fits : (id : IntentId) (n : ℕ) (t : Option TxId) (e : Effect) (a : Answer) → local_answer id n e ≡ Some a → IsAnswer (place_of id n) t e a
local_steps_fits id n t Effect.Begin a h = let same : Answer.Done ≡ a = cc in subst (IsAnswer (place_of id n) t Effect.Begin) same tt
local_steps_fits id n t Effect.Abort a h = let same : Answer.Aborted (record { place = place_of id n; holder = None }) ≡ a = cc in subst (IsAnswer (place_of id n) t Effect.Abort) same refl
local_steps_fits id n t e a h = cc

pub well_formed_once : (d : Deployment) (id : IntentId) (q : Instance) → WellFormedHistory d id q → WellFormedHistory d id (local_step d id q)
well_formed_once d id = once_by d id (WellFormedHistory d id) (λ r a none is h. well_formed_pushed d id r a none (local_steps_fits id (length r.answers) (tx_now d id r) (effect_of d r) a is) h)

-- a plain step inside, or a death
pub well_formed_moved : (d : Deployment) (id : IntentId) (q : Instance) (a : Answer) → q.outcome ≡ None → IsAnswer (place_of id (length q.answers)) (tx_now d id q) (effect_of d q) a → WellFormedHistory d id q → WellFormedHistory d id (advanced d id q a)
well_formed_moved d id q a none is h = well_formed_once d id (local_step d id (answered q a)) (well_formed_once d id (answered q a) (well_formed_pushed d id q a none is h))

-- ---- answers only grow
pub record GoesOn (q r : Instance) : Type 0 where
  pub more : List Answer
  pub same : q.answers ++ more ≡ r.answers

pub goes_then : (q r u : Instance) → GoesOn q r → GoesOn r u → GoesOn q u
goes_then q r u g h = record { more = g.more ++ h.more; same = sym (append_assoc q.answers g.more h.more) ∙ ap (λ xs. xs ++ h.more) g.same ∙ h.same }

pub once_goes : (d : Deployment) (id : IntentId) (q : Instance) → GoesOn q (local_step d id q)
once_goes d id q = once_by d id (GoesOn q) (λ r a none is g. goes_then q r (answered r a) g (record { more = a ∷ []; same = refl })) q (record { more = []; same = append-nil q.answers })

-- ---- a run takes at once what is known there
module _ (d : Deployment) (id : IntentId) (q : Instance) (closed : Closed d id q) (well_formed : WellFormedHistory d id q) where
  -- an answer that takes no turn is the only one to its effect
  only_one : (t : Option TxId) (n : ℕ) (e : Effect) (a b : Answer) → local_answer id n e ≡ Some a → IsAnswer (place_of id n) t e b → b ≡ a
  only_one t n Effect.Begin a Answer.Done h g = same_some h
  only_one t n Effect.Begin a b h g = absurd g
  only_one t n Effect.Abort a (Answer.Aborted c) h g = ap Answer.Aborted g ∙ same_some h
  only_one t n Effect.Abort a b h g = absurd g
  only_one t n e a b h g = cc

  none_now : local_answer id (length q.answers) (effect_of d q) ≡ None
  none_now = by_option q.outcome closed (λ o e. ap (local_answer id (length q.answers)) (well_formed.over o e))

  run_once_prefix : (given : List Answer) → Prefix given q → Prefix (run_local d id q given) q
  run_once_prefix given h = by_later h.later h.all
    where
      by_answer : (later : List Answer) (b : Answer) → given ++ b ∷ later ≡ q.answers → (o : Option Answer) → local_answer id (length given) (effect_after d q given) ≡ o → Prefix (and_local given o) q
      by_answer later b all None e = record { later = b ∷ later; all = all }
      by_answer later b all (Some a) e =
          let front : take (length given) q.answers ≡ given = ap (take (length given)) (sym all) ∙ take_front given (b ∷ later) in
          let there : slice_get q.answers (length given) ≡ Some b = ap (λ xs. slice_get xs (length given)) (sym all) ∙ get_next given later b in
          let is = subst (λ ts. IsAnswer (place_of id (length given)) (tx_after d id q ts) (effect_after d q ts) b) front (well_formed.past (length given) b there) in
          record { later = later; all = append_assoc given (a ∷ []) later ∙ ap (λ z. given ++ z ∷ later) (sym (only_one (tx_after d id q given) (length given) (effect_after d q given) a b e is)) ∙ all }

      by_later : (later : List Answer) → given ++ later ≡ q.answers → Prefix (run_local d id q given) q
      by_later [] all = let same : q.answers ≡ given = sym all ∙ append-nil given in
          subst (λ o. Prefix (and_local given o) q) (sym (ap (λ ts. local_answer id (length ts) (effect_after d q ts)) (sym same) ∙ none_now)) (record { later = []; all = all })
      by_later (b ∷ later) all = by_answer later b all (local_answer id (length given) (effect_after d q given)) refl

  pub run_on_prefix : (given : List Answer) → Prefix given q → Prefix (run_on d id q given) q
  run_on_prefix given h = run_once_prefix (run_local d id q given) (run_once_prefix given h)
