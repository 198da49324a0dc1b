-- A row of an item that was made, and is not linked yet, has someone who will link it.
use Rattle.std.specs.Prelude.{◌≡◌, ◌⊎◌, ℕ, ◌+◌, true, List, length, slice_get, Option, Some, None, is_some, Result}
use Rattle.std.specs.Option.{option_map}
use Rattle.std.specs.declared.alloc.AllocError.{AllocError}
use Rattle.std.specs.FinMap as map
use Rattle.beldi_value.specs.declared.{id.IntentId.IntentId, place.Owner.TheVariants.Tx as ByTx, place.TxId.TxId}
use Rattle.beldi_tree.specs.declared.deployment.Deployment.{Deployment}
use Rattle.beldi_lang.specs.declared.{effect.Answer.Answer, effect.Effect.Effect}
use Rattle.beldi_plain.specs.{Item.Item, Operation.op_of, Operation.touched, Plain.Instance, Plain.effect_before, Plain.effect_of}
use Rattle.beldi_plain_laws.specs.Txs.{tx_at, tx_now}
use Rattle.beldi_row.specs.{Log.note_at, Table.Rows, declared.row.Cell.Cell, declared.row.IntentRow.IntentRow, declared.row.Row.Row}
use Rattle.beldi_chain.specs.Chain.{Chain, chain}
use Rattle.beldi_links.specs.Links.{Linked}
use Rattle.beldi_daal.specs.declared.cell.WriteAt.{WriteAt}
use Rattle.beldi_txn.specs.declared.end.EndAt.{EndAt}
use Rattle.beldi_step.specs.{HostStep.Core, HostStep.EventOn, HostStep.first_core, Run.own_tx, Run.place_of, declared.event.Event.Event, declared.event.EventReply.EventReply, declared.run.Run.Run, declared.run.RunAt.TheVariants.Begins, declared.run.RunTx.RunTx, declared.run.RunTx.TheVariants.Own, declared.run.Stage.Stage}
use Rattle.beldi_step.specs.declared.run.RunAt as standing
use Rattle.beldi_histories.specs.{Contents.content_of, Contents.head_key, Stands.body_of, Stands.held_answer, Stands.key_in}
use Rattle.beldi_invariant.specs.Invariant.{Invariant}
use Rattle.beldi_upkeep.specs.{Callees.Seats, Checked.body_at}

-- ---- a row that is there and has no next, though the row of the next number is there: in rows that are linked the last one
pub record HasSpare (f : Chain) : Type 0 where
  pub row : ℕ
  pub cell : Cell
  pub there : f row ≡ Some (Row.Cell cell)
  pub ends : cell.next ≡ None
  pub after : is_some (f (row + 1)) ≡ true

-- ---- who will link it
-- each answer of an instance is the one that the rows hold at its step
abbrev pub IsHeld : Deployment → Rows → IntentId → Instance → Type 0
IsHeld d m id q = (n : ℕ) (a : Answer) → slice_get q.answers n ≡ Some a → held_answer m id q.func n (tx_at d id q n) (effect_before d q n) ≡ Some a

-- the table and the key that an effect leaves a note of, by the transaction that it is in
abbrev pub notes_of : Option TxId → Effect → Option (ℕ × List ℕ)
notes_of None e = option_map (λ o. (o.table, o.key)) (op_of e)
notes_of (Some t) e = touched e

-- an intent whose row is there went on by the answers that the rows hold to where it leaves a note of the item, and has not left it
pub record HasExpectedNote (d : Deployment) (m : Rows) (x : Item) : Type 0 where
  pub id : IntentId
  pub instance : Instance
  pub home : ℕ
  pub body : body_at (map.get m (key_in home id)) ≡ Some (body_of instance)
  pub answered : IsHeld d m id instance
  pub func : instance.func ≡ x.func
  pub notes : notes_of (tx_now d id instance) (effect_of d instance) ≡ Some (x.table, x.key)
  pub none : note_at (content_of m x).notes (place_of id (length instance.answers)) ≡ None

-- a transaction owns the item, and is to give it back
pub record IsLent (m : Rows) (x : Item) : Type 0 where
  pub tx : TxId
  pub owner : (content_of m x).owner ≡ Some (ByTx tx)

abbrev pub SparesAreWanted : Deployment → Rows → Type 0
SparesAreWanted d m = (x : Item) → HasSpare (chain m (head_key x)) → HasExpectedNote d m x ⊎ IsLent m x

-- ---- what live runs were told for it
-- a run that gives an item back, and makes a row, was told that its transaction owns the item
abbrev pub WasOwned : TxId → EndAt → Type 0
WasOwned t (EndAt.Free (WriteAt.Append n told)) = told.owner ≡ Some (ByTx t)
WasOwned t at = Unit {0}

abbrev pub OwnsAtStage : IntentId → ℕ → Stage → Option RunTx → Type 0
OwnsAtStage id func (Stage.End v) (Some (Own o)) = WasOwned (own_tx id func o) v.at
OwnsAtStage id func s o = Unit {0}

abbrev pub OwnsAt : Run → standing.RunAt → Type 0
OwnsAt r (Begins g) = OwnsAtStage r.id r.func g.stage g.tx
OwnsAt r at = Unit {0}

abbrev pub FreesAreOwned : Core → Type 0
FreesAreOwned c = (n : ℕ) (r : Run) → map.get c.runs n ≡ Some r → OwnsAt r r.at

-- ---- what every event keeps
pub record Wanted (d : Deployment) (c : Core) (m : Rows) : Type 0 where
  pub spares : SparesAreWanted d m
  pub frees : FreesAreOwned c

-- so it is of a host that nothing has happened to, over no rows ..
abbrev pub BeginsWanted : Type 0
BeginsWanted = (d : Deployment) (now : ℕ) → Wanted d (first_core 0 now) map.empty

-- .. and after every event, whatever it came to
abbrev pub KeepsWanted : Type 0
KeepsWanted = (d : Deployment) (room old new : ℕ) (e : Event) (c b : Core) (m n : Rows) (r : Result EventReply AllocError) → Invariant d c m → Wanted d c m → EventOn d room old new e c m b n r → Wanted d b n

-- ---- so where all that was bound is finished no item has such a row
abbrev pub AllFinished : Rows → Type 0
AllFinished m = (home : ℕ) (id : IntentId) (i : IntentRow) → map.get m (key_in home id) ≡ Some (Row.Intent i) → is_some i.body ≡ true → is_some i.finish ≡ true

abbrev pub FinishedHaveNoSpare : Type 0
FinishedHaveNoSpare = (d : Deployment) (c : Core) (m : Rows) → Invariant d c m → Seats m → Wanted d c m → AllFinished m → (x : Item) → HasSpare (chain m (head_key x)) → ⊥

-- .. and the last row of linked rows is the last that is there
abbrev pub FinishedEndAtLast : Type 0
FinishedEndAtLast = (d : Deployment) (c : Core) (m : Rows) → Invariant d c m → Seats m → Wanted d c m → AllFinished m → (x : Item) (l : Linked (chain m (head_key x))) → chain m (head_key x) (l.last + 1) ≡ None

-- .. so one row of an item has no next
abbrev pub FinishedEndOnce : Type 0
FinishedEndOnce = (d : Deployment) (c : Core) (m : Rows) → Invariant d c m → Seats m → Wanted d c m → AllFinished m → (x : Item) (a b : ℕ) (p q : Cell)
    → chain m (head_key x) a ≡ Some (Row.Cell p) → p.next ≡ None → chain m (head_key x) b ≡ Some (Row.Cell q) → q.next ≡ None → a ≡ b
