-- That each step of an instance has one answer, whichever run asks for it: the one that the rows hold.
use Rattle.std.specs.Prelude.{◌≡◌, ℕ, List, ◌++◌, take, slice_get, Option, Some, None, is_some}
use Rattle.std.specs.FinMap as map
use Rattle.beldi_value.specs.declared.{id.IntentId.IntentId, place.TxId.TxId}
use Rattle.beldi_tree.specs.declared.deployment.Deployment.{Deployment}
use Rattle.beldi_lang.specs.{declared.effect.Answer.Answer, declared.effect.Effect.Effect, Wants.wants, Machine.IsAt}
use Rattle.beldi_plain.specs.Plain.{Instance, PlainState}
use Rattle.beldi_plain_laws.specs.Txs.{tx_at}
use Rattle.beldi_row.specs.Table.{Rows}
use Rattle.beldi_step.specs.{declared.run.Run.Run, declared.run.RunAt.TheVariants.Begins, declared.run.Begun.Begun, HostStep.Core}
use Rattle.beldi_histories.specs.{Stands.held_answer, Histories.Histories, Extends.Extends}

-- a run is one of the instance, and was given the first of its answers
pub record WasGiven (d : Deployment) (q : Instance) (r : Run) (g : Begun) : Type 0 where
  pub same_func : r.func ≡ q.func
  pub given : List Answer
  pub later : List Answer
  pub first : given ++ later ≡ q.answers
  pub machine : IsAt d q.func q.args (is_some q.enclosing) g.machine given

-- a live run of an intent that has begun
pub record IsBegun (c : Core) (id : IntentId) (r : Run) (g : Begun) : Type 0 where
  pub number : ℕ
  pub live : map.get c.runs number ≡ Some r
  pub same_id : r.id ≡ id
  pub begun : r.at ≡ Begins g

-- the steps of an intent have the answers of this instance
pub record HasAnswers (d : Deployment) (c : Core) (m : Rows) (id : IntentId) (q : Instance) : Type 0 where
  -- each is the one that the rows hold at its step
  pub held : (n : ℕ) (a : Answer) → slice_get q.answers n ≡ Some a → held_answer m id q.func n (tx_at d id q n) (wants d q.func q.args (is_some q.enclosing) (take n q.answers)) ≡ Some a
  -- each run was given the first of them
  pub runs : (r : Run) (g : Begun) → IsBegun c id r g → WasGiven d q r g

-- by the instance that has a history. No run of one that was not made has begun, so nothing is answered.
abbrev pub AnswersOf : Deployment → Core → Rows → IntentId → Option Instance → Type 0
AnswersOf d c m id None = (r : Run) (g : Begun) → IsBegun c id r g → ⊥
AnswersOf d c m id (Some q) = HasAnswers d c m id q

-- the steps of each intent have the answers that are recorded of its instance, beside the plain state p
pub record OneAnswerPerStep (d : Deployment) (c : Core) (m : Rows) (p : PlainState) : Type 0 where
  pub histories : Histories
  pub extends : Extends d p histories
  pub each : (id : IntentId) → AnswersOf d c m id (map.get histories id)

-- an answer that the rows m hold is held by the rows n
abbrev pub AnswersStay : Rows → Rows → Type 0
AnswersStay m n = (id : IntentId) (func step : ℕ) (x : Option TxId) (e : Effect) (a : Answer) → held_answer m id func step x e ≡ Some a → held_answer n id func step x e ≡ Some a
