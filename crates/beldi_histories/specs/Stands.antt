-- That rows stand for a plain state.
use Rattle.std.specs.Prelude.{◌≡◌, ◌⊎◌, ℕ, Bool, true, false, slice_get, is_some, Option, Some, None, option_and_then}
use Rattle.std.specs.Option.{option_map}
use Rattle.std.specs.FinMap as map
use Rattle.beldi_value.specs.{Id.root_of, declared.id.IntentId.IntentId, declared.outcome.Outcome.Outcome, declared.place.Owner.TheVariants.Intent, declared.place.Owner.TheVariants.Tx, declared.place.Place.Place, declared.place.TxId.TxId, declared.value.Value.Value}
use Rattle.beldi_tree.specs.declared.deployment.Deployment.{Deployment}
use Rattle.beldi_lang.specs.declared.effect.Effect.TheVariants.{Read, Write, CondWrite, Call, Async, Begin, End, Abort}
use Rattle.beldi_lang.specs.{declared.effect.Answer.Answer, declared.effect.Answer.TheVariants.Done, declared.effect.Effect.Effect, Callee.answer_of}
use Rattle.beldi_plain.specs.{Holds.holds, Item.Item, Operation.OnItem, Operation.op_of, Operation.item_in, Plain.Instance, Plain.PlainState, Plain.value_at, Plain.effect_before}
use Rattle.beldi_plain_laws.specs.Txs.{tx_at}
use Rattle.beldi_row.specs.{Key.RowKey, declared.notes.Note.Note, declared.notes.Note.TheVariants.Got, declared.notes.Note.TheVariants.Died, declared.row.Body.Body, declared.row.IntentRow.IntentRow, Log.note_at, Table.Rows, declared.key.Kind.Kind, declared.row.Row.Row}
use Rattle.beldi_links.specs.Links.{IsLinked}
use Rattle.beldi_readlog.specs.ReadLog.{log_key, given}
use Rattle.beldi_invokelog.specs.InvokeLog.{invoke_key, call_at, result_in}
use Rattle.beldi_intent.specs.Intent.{intent_key, root_key, is_ended}
use Rattle.beldi_step.specs.{Noted.noted_answer, Tables.decision_key, Tables.is_committed}
use Rattle.beldi_histories.specs.{Extends.PlainOwner, Contents.content_of, Contents.is_owner, Contents.shadow_chain, Contents.shadow_of, Contents.IsLinkedItem, Listed.listed}

-- ---- the answer that the rows hold
-- the answer that an item's rows hold at a place, for an operation of a function on it
abbrev pub held_note : Rows → Place → ℕ → Option OnItem → Option Answer
held_note m p func None = None
held_note m p func (Some o) = option_and_then noted_answer (note_at (content_of m (item_in func o)).notes p)

-- .. for the effect of a function at a place outside transactions: the value that was given to a read, what a call gave back, that a
-- call is there which nobody waits for, and the note that an operation left
abbrev pub held_outside : Rows → Place → ℕ → Effect → Option Answer
held_outside m p func (Read t k) = option_map Answer.Value (given m (log_key func p))
held_outside m p func (Call f v) = option_map answer_of (result_in (call_at m (invoke_key func p)))
held_outside m p func (Async f v) = option_map (λ i. Done) (call_at m (invoke_key func p))
held_outside m p func e = held_note m p func (op_of e)

-- .. inside, by the item's note at the place: whom it died of; or, where it got the lock, what it was answered then
abbrev pub answer_by_note : Place → Option Note → Option Answer → Option Answer
answer_by_note p (Some (Died h)) a = Some (Answer.Aborted (record { place = p; holder = Some h }))
answer_by_note p (Some Got) a = a
answer_by_note p n a = None

-- an operation on an item writes the transaction's shadow of it
abbrev pub answer_aside : Rows → TxId → Place → Item → Option Answer
answer_aside m x p i = option_and_then noted_answer (note_at (shadow_of m x i).notes p)

abbrev pub note_of_lock : Rows → Place → Item → Option Note
note_of_lock m p i = note_at (content_of m i).notes p

-- .. a Begin and an Abort are answered at once, and an End once its decision, and no other, is kept at the place of its Begin
abbrev pub decides : Bool → Value → Option Answer
decides true (Value.Bool true) = Some Done
decides false (Value.Bool false) = Some Done
decides c v = None

abbrev pub held_inside : Rows → TxId → Place → ℕ → Effect → Option Answer
held_inside m x p func Begin = Some Done
held_inside m x p func Abort = Some (Answer.Aborted (record { place = p; holder = None }))
held_inside m x p func (End c) = option_and_then (decides c) (given m (log_key x.func (record { intent = x.intent; step = x.begin })))
held_inside m x p func (Read t k) = answer_by_note p (note_of_lock m p (record { func = func; table = t; key = k })) (option_map Answer.Value (given m (log_key func p)))
held_inside m x p func (Write t k v) = let i : Item = record { func = func; table = t; key = k } in answer_by_note p (note_of_lock m p i) (answer_aside m x p i)
held_inside m x p func (CondWrite t k r o v) = let i : Item = record { func = func; table = t; key = k } in answer_by_note p (note_of_lock m p i) (answer_aside m x p i)
held_inside m x p func e = held_outside m p func e

-- the answer that the rows hold at a step of an intent of a function, by the transaction that it is in and the effect that it has there
abbrev pub held_answer : Rows → IntentId → ℕ → ℕ → Option TxId → Effect → Option Answer
held_answer m id func step None e = held_outside m (record { intent = id; step = step }) func e
held_answer m id func step (Some x) e = held_inside m x (record { intent = id; step = step }) func e

-- ---- the rows stand for a plain state
-- the body that an instance was made with
abbrev pub body_of : Instance → Body
body_of q = record { func = q.func; args = q.args; tx = q.enclosing; parent = q.parent }

-- the instance was made with this body; and its outcome is the row's, where the row has one
pub record IsMade (p : PlainState) (id : IntentId) (i : IntentRow) (b : Body) : Type 0 where
  pub instance : Instance
  pub made : map.get p.made id ≡ Some instance
  pub body : b ≡ body_of instance
  pub outcome : (o : Outcome) → i.outcome ≡ Some o → instance.outcome ≡ Some o

-- the row of an intent that has not ended
pub record HasNotEnded (m : Rows) (k : RowKey) : Type 0 where
  pub row : IntentRow
  pub there : map.get m k ≡ Some (Row.Intent row)
  pub not_ended : is_ended row ≡ false

-- the key of an intent's row in a home
abbrev pub key_in : ℕ → IntentId → RowKey
key_in home id = record { home = home; kind = Kind.Intent id }

-- an intent that was called in a transaction stands for one of the plain state once that has committed
abbrev pub has_place : Rows → Option TxId → Bool
has_place m None = true
has_place m (Some t) = is_committed (map.get m (decision_key t))

-- a transaction is open: the plain state has its owner at its Begin, and no decision is there
pub record IsUndecided (d : Deployment) (m : Rows) (p : PlainState) (t : TxId) : Type 0 where
  pub owner : PlainOwner d p t
  pub undecided : map.get m (decision_key t) ≡ None

-- it is decided, and its owner has not ended
pub record IsGivingBack (m : Rows) (t : TxId) : Type 0 where
  pub decided : is_some (map.get m (decision_key t)) ≡ true
  pub owner : HasNotEnded m (intent_key t.intent t.func)

pub record Stands (d : Deployment) (m : Rows) (p : PlainState) : Type 0 where
  -- each item is listed with its plain value
  pub items : (x : Item) → listed m x ≡ value_at p x
  -- each intent row with a body was made so, with the plain outcome, unless its transaction has not committed
  pub made : (home : ℕ) (id : IntentId) (i : IntentRow) (b : Body) → map.get m (key_in home id) ≡ Some (Row.Intent i) → i.body ≡ Some b → has_place m b.tx ≡ true → IsMade p id i b
  -- .. and then it was not made
  pub unmade : (home : ℕ) (id : IntentId) (i : IntentRow) (b : Body) → map.get m (key_in home id) ≡ Some (Row.Intent i) → i.body ≡ Some b → has_place m b.tx ≡ false → map.get p.made id ≡ None
  -- where such an intent has not ended, each answer of its instance is held by the rows at its step
  pub held : (home : ℕ) (id : IntentId) (i : IntentRow) (b : Body) → map.get m (key_in home id) ≡ Some (Row.Intent i) → i.body ≡ Some b → has_place m b.tx ≡ true → is_ended i ≡ false
      → (q : Instance) → map.get p.made id ≡ Some q → (n : ℕ) (a : Answer) → slice_get q.answers n ≡ Some a → held_answer m id q.func n (tx_at d id q n) (effect_before d q n) ≡ Some a
  -- each root without outcome has its row, which has not ended
  pub open_roots : (t : ℕ) (q : Instance) → map.get p.made (root_of t) ≡ Some q → q.outcome ≡ None → HasNotEnded m (root_key t)
  -- an intent owns an item exactly where its instance holds the lock
  pub locks : (x : Item) (j : IntentId) → is_owner (content_of m x).owner (Intent j) ≡ holds d x (map.get p.made j)
  -- a transaction owns one only while it is open, or, once it is decided, until its owner ends
  pub owned : (x : Item) (t : TxId) → (content_of m x).owner ≡ Some (Tx t) → IsUndecided d m p t ⊎ IsGivingBack m t
  -- the rows of every item and of every shadow are linked
  pub linked : (x : Item) → IsLinkedItem m x
  pub shadows : (t : TxId) (x : Item) → IsLinked (shadow_chain m t x)
