-- What the histories have beside the plain state: the same of each instance, but for one that the plain state has at the begin of a transaction.
-- Of that, and of all that were called in it, it is known what they did since: moves lead there from the plain state. Who was called in a
-- transaction that aborted is known for good, and is in no plain state.
use Rattle.std.specs.Prelude.{◌≡◌, ℕ, ◌&&◌, Bool, true, false, List, Some, None}
use Rattle.std.specs.Option.{is_none}
use Rattle.std.specs.FinMap as map
use Rattle.beldi_value.specs.declared.{id.IntentId.IntentId, place.TxId.TxId}
use Rattle.beldi_tree.specs.declared.deployment.Deployment.{Deployment}
use Rattle.beldi_lang.specs.declared.effect.Effect.{Effect}
use Rattle.beldi_plain.specs.{Moves.Move, Moves.Leads, Transaction.Going, Transaction.opened, Transaction.tx_begun, Plain.Instance, Plain.PlainState, Plain.effect_of}
use Rattle.beldi_plain_laws.specs.TransactionMoves.{IsIn}
use Rattle.beldi_histories.specs.Histories.{Histories, tx_end}

abbrev pub is_begin : Effect → Bool
is_begin Effect.Begin = true
is_begin e = false

-- an instance that has not ended stands at the begin of a transaction
abbrev pub begins : Deployment → Instance → Bool
begins d q = is_none q.outcome && is_begin (effect_of d q)

-- the plain state has the owner of a transaction at its Begin
pub record PlainOwner (d : Deployment) (p : PlainState) (t : TxId) : Type 0 where
  pub owner : Instance
  pub made : map.get p.made t.intent ≡ Some owner
  pub begun : begins d owner ≡ true
  pub is : t ≡ tx_begun t.intent owner

-- the transaction is open: its begin was answered, and these moves lead to what is known of all that are in it
pub record OpenTx (d : Deployment) (p : PlainState) (histories : Histories) (id : IntentId) (q : Instance) : Type 0 where
  pub moves : List Move
  pub going : Going
  pub leads : Leads d (tx_begun id q) (opened p id q) moves going
  pub whole : (i : IntentId) → IsIn (tx_begun id q) i → map.get histories i ≡ map.get going.state.made i

-- it was called in a transaction that has not committed
pub record IsKept (d : Deployment) (histories : Histories) (k : Instance) : Type 0 where
  pub tx : TxId
  pub enclosing : k.enclosing ≡ Some tx
  pub uncommitted : (n : ℕ) → tx_end d histories tx ≡ Some (n, true) → ⊥

pub record Extends (d : Deployment) (p : PlainState) (histories : Histories) : Type 0 where
  pub same : (id : IntentId) (q : Instance) → map.get p.made id ≡ Some q → begins d q ≡ false → map.get histories id ≡ Some q
  pub begun : (id : IntentId) (q : Instance) → map.get p.made id ≡ Some q → begins d q ≡ true → OpenTx d p histories id q
  pub kept : (id : IntentId) (k : Instance) → map.get p.made id ≡ None → map.get histories id ≡ Some k → IsKept d histories k
