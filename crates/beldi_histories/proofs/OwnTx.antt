-- The transaction of a step of one that was called in none is its own.
use Rattle.beldi_histories.proofs.Names.{Deployment, Effect, Instance, IntentId, None, Option, Some, TxId, ap, effect_of, false, is_begin, length, or_own, same_some, sym, tx_by, tx_now, txs_after, ℕ, ◌∙◌, ◌≡◌}
use Rattle.beldi_histories.proofs.Answers.{true_false}

-- the transaction of a step is of its instance, and its Begin is the one that is open
pub record Own (id : IntentId) (func : ℕ) (o : Option ℕ) (t : TxId) : Type 0 where
  pub intent : t.intent ≡ id
  pub func_is : t.func ≡ func
  pub begun : o ≡ Some t.begin

pub own_intent : (id : IntentId) (func n : ℕ) (e : Effect) (o : Option ℕ) (t : TxId) → tx_by id func n e o ≡ Some t → t.intent ≡ id
own_intent id func n Effect.Begin o t h = ap (λ (z : TxId). z.intent) (sym (same_some h))
own_intent id func n e None t h = cc
own_intent id func n e (Some b) t h = ap (λ (z : TxId). z.intent) (sym (same_some h))

pub own_by : (id : IntentId) (func n : ℕ) (e : Effect) (o : Option ℕ) (t : TxId) → is_begin e ≡ false → tx_by id func n e o ≡ Some t → Own id func o t
own_by id func n Effect.Begin o t g h = absurd (true_false g)
own_by id func n e None t g h = cc
own_by id func n e (Some b) t g h = let k = same_some h in record { intent = ap (λ (z : TxId). z.intent) (sym k); func_is = ap (λ (z : TxId). z.func) (sym k); begun = ap (λ (z : TxId). Some z.begin) k }

pub own : (d : Deployment) (id : IntentId) (q : Instance) (t : TxId) → q.enclosing ≡ None → is_begin (effect_of d q) ≡ false → tx_now d id q ≡ Some t → Own id q.func (txs_after d q q.answers).begun t
own d id q t none apart h = own_by id q.func (length q.answers) (effect_of d q) (txs_after d q q.answers).begun t apart (sym (ap (λ w. or_own w (tx_by id q.func (length q.answers) (effect_of d q) (txs_after d q q.answers).begun)) none) ∙ h)
