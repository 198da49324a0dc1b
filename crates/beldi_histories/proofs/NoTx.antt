-- Who is in no transaction, and who stands at a Begin.
use Rattle.beldi_histories.proofs.Names.{Answer, Deployment, Effect, Instance, IntentId, List, None, Option, Outcome, Some, TxId, and_parts, ap, begins, effect_after, effect_of, false, is_begin, is_none, is_some, length, or_own, refl, sym, true, tx_after, tx_by, txs_after, ℕ, ◌∙◌, ◌≡◌}
use Rattle.beldi_histories.proofs.Phases.{begin_is}

-- no Begin is open after these answers, nor was the instance called in a transaction
abbrev pub IsOutside : Deployment → Instance → List Answer → Type 0
IsOutside d q given = (q.enclosing ≡ None) × ((txs_after d q given).begun ≡ None)

module _ (d : Deployment) (id : IntentId) (q : Instance) (given : List Answer) where
  -- an effect there is in no transaction, but a Begin; and only an effect there
  pub outside_so : IsOutside d q given → is_begin (effect_after d q given) ≡ false → tx_after d id q given ≡ None
  outside_so h apart = (λ i. or_own (h.0 i) (tx_by id q.func (length given) (effect_after d q given) (h.1 i))) ∙ by_effect (effect_after d q given) apart
    where
      by_effect : (e : Effect) → is_begin e ≡ false → tx_by id q.func (length given) e None ≡ None
      by_effect Effect.Begin g = cc
      by_effect e g = refl

  pub outside_parts : tx_after d id q given ≡ None → IsOutside d q given × (is_begin (effect_after d q given) ≡ false)
  outside_parts h = by_within q.enclosing refl h
    where
      by_begun : (e : Effect) (o : Option ℕ) → tx_by id q.func (length given) e o ≡ None → (o ≡ None) × (is_begin e ≡ false)
      by_begun Effect.Begin o g = cc
      by_begun e None g = (refl, refl)
      by_begun e (Some b) g = cc

      by_within : (w : Option TxId) → q.enclosing ≡ w → or_own w (tx_by id q.func (length given) (effect_after d q given) (txs_after d q given).begun) ≡ None → IsOutside d q given × (is_begin (effect_after d q given) ≡ false)
      by_within None e g = let k = by_begun (effect_after d q given) (txs_after d q given).begun g in ((e, k.0), k.1)
      by_within (Some t) e g = cc

pub no_begin : (d : Deployment) (q : Instance) (b : ℕ) → (txs_after d q q.answers).begun ≡ Some b → effect_of d q ≡ Effect.Begin → ⊥
no_begin d q b begun is = let clash = sym (ap is_some begun) ∙ (begin_is d q q.answers is).1 in cc

pub begins_parts : (d : Deployment) (q : Instance) → begins d q ≡ true → (q.outcome ≡ None) × (effect_of d q ≡ Effect.Begin)
begins_parts d q h = let k = and_parts (is_none q.outcome) (is_begin (effect_of d q)) h in (by_outcome q.outcome k.0, by_effect (effect_of d q) k.1)
  where
    by_outcome : (o : Option Outcome) → is_none o ≡ true → o ≡ None
    by_outcome None e = refl
    by_outcome (Some o) e = cc

    by_effect : (e : Effect) → is_begin e ≡ true → e ≡ Effect.Begin
    by_effect Effect.Begin g = refl
    by_effect e g = cc
