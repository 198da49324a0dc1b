-- The transactions of an instance, by its answers: in which of them each step stands, and how each ended.
use Rattle.std.specs.Prelude.{ℕ, ◌==◌, Bool, false, List, [], ◌∷◌, ◌++◌, length, take, Option, Some, None, is_some, if◌then◌else◌}
use Rattle.beldi_value.specs.declared.{id.IntentId.IntentId, place.TxId.TxId}
use Rattle.beldi_tree.specs.declared.deployment.Deployment.{Deployment}
use Rattle.beldi_lang.specs.{declared.effect.Answer.Answer, declared.effect.Effect.Effect, Wants.wants}
use Rattle.beldi_plain.specs.Plain.{Instance}

-- the effect that an instance wants after these answers
abbrev pub effect_after : Deployment → Instance → List Answer → Effect
effect_after d q given = wants d q.func q.args (is_some q.enclosing) given

-- a fold over answers, each with those before it
abbrev pub along : {X : Type 0} → (List Answer → Answer → X → X) → List Answer → List Answer → X → X
along f given [] x = x
along f given (a ∷ rest) x = along f (given ++ a ∷ []) rest (f given a x)

-- the step of the Begin that is open, and how each Begin ended: the step of its End, and whether it is a commit
pub record Txs : Type 0 where
  pub begun : Option ℕ
  pub ends : ℕ → Option (ℕ × Bool)

abbrev pub none_begun : Txs
none_begun = record { begun = None; ends = λ b. None }

abbrev pub is_at : ℕ → Option ℕ → Bool
is_at b None = false
is_at b (Some c) = b == c

-- .. after the effect at a step was answered
abbrev pub txs_by : ℕ → Effect → Txs → Txs
txs_by n Effect.Begin s = record { begun = Some n; ends = s.ends }
txs_by n (Effect.End c) s = record { begun = None; ends = λ b. if is_at b s.begun then Some (n, c) else s.ends b }
txs_by n e s = s

abbrev pub txs_after : Deployment → Instance → List Answer → Txs
txs_after d q given = along (λ ts a s. txs_by (length ts) (effect_after d q ts) s) [] given none_begun

-- the End of the Begin at a step, where it was answered
abbrev pub end_of : Deployment → Instance → ℕ → Option (ℕ × Bool)
end_of d q b = (txs_after d q q.answers).ends b

-- the transaction that a step is in, by its effect and the Begin that is open before it: Begin and End belong to it
abbrev pub tx_by : IntentId → ℕ → ℕ → Effect → Option ℕ → Option TxId
tx_by id func n Effect.Begin o = Some (record { intent = id; begin = n; func = func })
tx_by id func n e None = None
tx_by id func n e (Some b) = Some (record { intent = id; begin = b; func = func })

-- .. but for an instance that was called in one
abbrev pub or_own : Option TxId → Option TxId → Option TxId
or_own None own = own
or_own (Some t) own = Some t

abbrev pub tx_after : Deployment → IntentId → Instance → List Answer → Option TxId
tx_after d id q given = or_own q.enclosing (tx_by id q.func (length given) (effect_after d q given) (txs_after d q given).begun)

abbrev pub tx_at : Deployment → IntentId → Instance → ℕ → Option TxId
tx_at d id q n = tx_after d id q (take n q.answers)

abbrev pub tx_now : Deployment → IntentId → Instance → Option TxId
tx_now d id q = tx_after d id q q.answers
