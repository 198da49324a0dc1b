-- Where a run stands: behind the history of its instance, or at a pending operation, inside.
use Rattle.std.specs.Prelude.{◌≡◌, ℕ, ◌<◌, Bool, List, ◌∷◌, ◌++◌, length, Some}
use Rattle.std.specs.FinMap as map
use Rattle.beldi_value.specs.declared.{id.IntentId.IntentId, place.TxId.TxId}
use Rattle.beldi_tree.specs.declared.deployment.Deployment.{Deployment}
use Rattle.beldi_lang.specs.declared.effect.Answer.{Answer}
use Rattle.beldi_plain.specs.{Operation.touched, Plain.Instance, Plain.effect_of}
use Rattle.beldi_plain_laws.specs.Txs.{tx_now}
use Rattle.beldi_row.specs.Table.{Rows}
use Rattle.beldi_histories.specs.{Histories.Histories, Histories.last_step, Matches.Matches, WellFormedHistories.WellFormedHistory}

-- a run that is behind: it finds what is expected, and is told the answer that is recorded
pub record IsBehind (d : Deployment) (m : Rows) (histories : Histories) (id : IntentId) (q : Instance) (given : List Answer) (a : Answer) : Type 0 where
  pub lock_ahead : IntentId → Bool
  pub matches : Matches d m histories lock_ahead
  pub made : map.get histories id ≡ Some q
  pub well_formed : WellFormedHistory d id q
  pub rest : List Answer
  pub run_answers : given ++ a ∷ rest ≡ q.answers
  pub short : length given < last_step

-- an operation on an item, in a transaction, that has not been answered
pub record IsPending (d : Deployment) (histories : Histories) (id : IntentId) (q : Instance) (s : TxId) (t : ℕ) (k : List ℕ) : Type 0 where
  pub made : map.get histories id ≡ Some q
  pub inside : tx_now d id q ≡ Some s
  pub touch : touched (effect_of d q) ≡ Some (t, k)
