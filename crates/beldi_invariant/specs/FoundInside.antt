-- What runs that carry a transaction out have found in the rows, and what the rows keep of transactions.
use Rattle.std.specs.Prelude.{◌≡◌, ◌⊎◌, ℕ, ◌<◌, Bool, true, false, List, length, is_some, Option, Some, None}
use Rattle.std.specs.Option.{option_map}
use Rattle.std.specs.FinMap as map
use Rattle.beldi_value.specs.declared.{id.IntentId.IntentId, place.Owner.TheVariants.Tx as ByTx, place.Place.Place, place.TxId.TxId, value.Value.Value}
use Rattle.beldi_tree.specs.declared.deployment.Deployment.{Deployment}
use Rattle.beldi_lang.specs.declared.effect.Effect.{Effect, TheVariants.Read, TheVariants.CondWrite}
use Rattle.beldi_plain.specs.{Item.Item, Plain.Instance, Plain.PlainState, Plain.value_at, Plain.effect_of, Plain.outcome_of}
use Rattle.beldi_plain_laws.specs.{TransactionMoves.IsBelow, Txs.tx_now}
use Rattle.beldi_row.specs.{Key.RowKey, declared.notes.Note.Note, declared.row.Row.Row, Log.note_at, Table.Rows}
use Rattle.beldi_chain.specs.{Chain.chain, Content.Content}
use Rattle.beldi_links.specs.Links.{AllGrow, SeesAt}
use Rattle.beldi_daal.specs.{Cell.cell_key, Logged.at_of, declared.cell.WriteAt.WriteAt}
use Rattle.beldi_lock.specs.declared.lock.LockAt.TheVariants.{Lockset}
use Rattle.beldi_invokelog.specs.InvokeLog.{invoke_key}
use Rattle.beldi_intent.specs.Intent.{intent_key}
use Rattle.beldi_txn.specs.{declared.tx.TxAt.TxAt, declared.end.EndState.EndState, declared.end_walk.EndWalk.EndWalk, Tx.op_of, End.end_place, End.first_end, Invokes.func_called, TxTurn.HasLock, TxTurn.Sees, Visited.AreReleased}
use Rattle.beldi_step.specs.{declared.run.OpenTx.OpenTx, declared.run.RunTx.RunTx, Run.OnCell, Run.begin_of, Run.own_tx, Run.place_of, Run.tx_of, Tables.value_in}
use Rattle.beldi_histories.specs.{Stands.key_in, Contents.content_of, Contents.head_key, Contents.lockset_key, Contents.shadow_chain, Contents.shadow_row, Histories.Histories, Histories.last_step, Histories.tx_end}

-- ---- an operation inside
-- its begin, where it asks for the lock
abbrev pub OfBegin : ℕ → TxAt → Type 0
OfBegin b (TxAt.Lock (Lockset c)) = c ≡ b
OfBegin b a = Unit {0}

-- the row that says that the lock is asked for was put
abbrev pub has_asked : TxAt → Bool
has_asked TxAt.Log = false
has_asked (TxAt.Lock (Lockset b)) = false
has_asked a = true

-- what it found, by the last row of the shadow and the plain value of the item: a read keeps what the transaction sees, and the shadow
-- of a condition is made with the plain value
abbrev pub Found : Effect → TxAt → Option Row → Value → Type 0
Found (Read t k) (TxAt.Item n) shadow v = shadow ≡ None
Found (Read t k) (TxAt.Keep u) shadow v = value_in shadow v ≡ u
Found (CondWrite t k r o w) (TxAt.Head u) shadow v = shadow ≡ None → v ≡ u
Found (CondWrite t k r o w) (TxAt.Write s) shadow v = is_some shadow ≡ true
Found e a shadow v = Unit {0}

-- the rows of an item that a transaction works on, and of its shadow of it
abbrev pub SeesBoth : Rows → Place → TxId → Item → TxAt → Type 0
SeesBoth m p t x a = Sees a p (chain m (head_key x)) (shadow_chain m t x)

pub record InOperation (d : Deployment) (m : Rows) (p : PlainState) (histories : Histories) (id : IntentId) (func : ℕ) (o : RunTx) (step : ℕ) (e : Effect) (a : TxAt) (i : ℕ × List ℕ) : Type 0 where
  pub begin : OfBegin (begin_of o) a
  pub asked : has_asked a ≡ true → is_some (map.get m (lockset_key id (begin_of o) (record { func = func; table = i.0; key = i.1 }))) ≡ true
  pub locked : HasLock a (place_of id step) (content_of m (record { func = func; table = i.0; key = i.1 }))
  -- it sees what it has to of the rows
  pub sees : SeesBoth m (place_of id step) (tx_of id func o) (record { func = func; table = i.0; key = i.1 }) a
  -- where its instance was not answered since
  pub found : (q : Instance) → map.get histories id ≡ Some q → length q.answers ≡ step
      → let x : Item = record { func = func; table = i.0; key = i.1 } in Found e a (shadow_row m (tx_of id func o) x) (value_at p x)

abbrev pub InItem : Deployment → Rows → PlainState → Histories → IntentId → ℕ → RunTx → ℕ → Effect → TxAt → Option (ℕ × List ℕ) → Type 0
InItem d m p histories id func o step e a None = Unit {0}
InItem d m p histories id func o step e a (Some i) = InOperation d m p histories id func o step e a i

-- ---- an operation outside
-- what its walk sees of the rows of its item
abbrev pub SeesPut : Rows → ℕ → Place → WriteAt → Option OnCell → Type 0
SeesPut m func p at None = Unit {0}
SeesPut m func p at (Some o) = SeesAt (chain m (cell_key func o.table o.key)) p (at_of at)

-- ---- an end
abbrev pub end_walk : IntentId → ℕ → OpenTx → ℕ → Bool → EndState → EndWalk
end_walk id func o step commit v = record { tx = own_tx id func o; end = step; commit = commit; visit = v }

-- past the end of a transaction it owns nothing
abbrev pub Released : Deployment → Rows → Histories → IntentId → ℕ → Type 0
Released d m histories id step = (t : TxId) (z : ℕ × Bool) → t.intent ≡ id → tx_end d histories t ≡ Some z → z.0 < step → (x : Item) → (content_of m x).owner ≡ Some (ByTx t) → ⊥

-- ---- who took part in a transaction
pub record TookPart (histories : Histories) (t : TxId) (i : IntentId) : Type 0 where
  pub instance : Instance
  pub made : map.get histories i ≡ Some instance
  pub enclosing : instance.enclosing ≡ Some t

abbrev pub IsOf : Histories → TxId → IntentId → Type 0
IsOf histories t i = (i ≡ t.intent) ⊎ TookPart histories t i

-- the places at which items are given back: the owner's end, and the last of all steps of who took part
abbrev pub IsFreePlace : Histories → TxId → ℕ → Place → Type 0
IsFreePlace histories t end a = (a ≡ end_place t end) ⊎ ((a.step ≡ last_step) × TookPart histories t a.intent)

-- ---- what the rows keep
-- an item that a decided transaction owns has no note at such a place: it is given back once
abbrev pub OwnedAreUnmarked : Deployment → Rows → Histories → Type 0
OwnedAreUnmarked d m histories = (t : TxId) (z : ℕ × Bool) (x : Item) (a : Place) (w : Note) → tx_end d histories t ≡ Some z → (content_of m x).owner ≡ Some (ByTx t) → IsFreePlace histories t z.0 a → note_at (content_of m x).notes a ≡ Some w → ⊥

-- while it owns one, its owner calls nobody: who is below it at a later step than its end is not known
abbrev pub OwnersCallNobody : Deployment → Rows → Histories → Type 0
OwnersCallNobody d m histories = (t : TxId) (z : ℕ × Bool) (x : Item) (i : IntentId) → tx_end d histories t ≡ Some z → (content_of m x).owner ≡ Some (ByTx t) → IsBelow (record { intent = t.intent; begin = z.0; func = t.func }) i → map.get histories i ≡ None

-- .. and its owner has its row, and has not ended
abbrev pub OwnersHaveNotEnded : Deployment → Rows → Histories → Type 0
OwnersHaveNotEnded d m histories = (t : TxId) (z : ℕ × Bool) (x : Item) → tx_end d histories t ≡ Some z → (content_of m x).owner ≡ Some (ByTx t) → (is_some (map.get m (intent_key t.intent t.func)) ≡ true) × (outcome_of (map.get histories t.intent) ≡ None)

-- who took part and has its outcome has its row
abbrev pub ParticipantsHaveRows : Rows → Histories → Type 0
ParticipantsHaveRows m histories = (id : IntentId) (q : Instance) (t : TxId) → map.get histories id ≡ Some q → q.enclosing ≡ Some t → is_some q.outcome ≡ true → is_some (map.get m (key_in q.func id)) ≡ true

-- who took part and has its finish has given back all, and so have its callees
abbrev pub ParticipantsAreReleased : Deployment → Rows → Histories → Type 0
ParticipantsAreReleased d m histories = (t : TxId) (z : ℕ × Bool) → tx_end d histories t ≡ Some z → AreReleased (first_end t z.0 z.1) m

-- ---- what an event keeps for the runs of others
-- an instance stands at a write in this transaction
pub record IsWriting (d : Deployment) (histories : Histories) (t : TxId) : Type 0 where
  pub writer : IntentId
  pub instance : Instance
  pub made : map.get histories writer ≡ Some instance
  pub now : tx_now d writer instance ≡ Some t
  pub writes : is_some (op_of (effect_of d instance)) ≡ true

-- it owned the item, which has the same notes at the places where it is given back
pub record StillOwns (histories : Histories) (c e : Content) (t : TxId) (end : ℕ) : Type 0 where
  pub owner : c.owner ≡ Some (ByTx t)
  pub notes : (a : Place) → IsFreePlace histories t end a → note_at e.notes a ≡ note_at c.notes a

abbrev pub has_finish : Option Row → Bool
has_finish (Some (Row.Intent i)) = is_some i.finish
has_finish r = false

pub record Frame (d : Deployment) (m n : Rows) (p q : PlainState) (histories next : Histories) : Type 0 where
  -- the rows of items and shadows grow
  pub grows : AllGrow m n
  -- no row and no note goes
  pub rows : (k : RowKey) → is_some (map.get m k) ≡ true → is_some (map.get n k) ≡ true
  pub notes : (x : Item) (a : Place) (w : Note) → note_at (content_of m x).notes a ≡ Some w → note_at (content_of n x).notes a ≡ Some w
  -- a shadow is as before, unless it may be written
  pub shadows : (t : TxId) (x : Item) → (IsWriting d histories t → ⊥) → shadow_chain n t x ≡ shadow_chain m t x
  -- a transaction that has ended asks for no further lock, and takes none; what it still owns has the same notes
  pub locksets : (t : TxId) (z : ℕ × Bool) (i : IntentId) (x : Item) → tx_end d next t ≡ Some z → IsOf next t i → is_some (map.get n (lockset_key i t.begin x)) ≡ true → is_some (map.get m (lockset_key i t.begin x)) ≡ true
  pub owners : (t : TxId) (z : ℕ × Bool) (x : Item) → tx_end d next t ≡ Some z → (content_of n x).owner ≡ Some (ByTx t) → StillOwns next (content_of m x) (content_of n x) t z.0
  -- .. and nobody joins it
  pub members : (t : TxId) (z : ℕ × Bool) (i : IntentId) → tx_end d next t ≡ Some z → TookPart next t i → is_some (map.get histories i) ≡ true
  -- a finish stays, and what was called
  pub finishes : (home : ℕ) (i : IntentId) → has_finish (map.get m (key_in home i)) ≡ true → has_finish (map.get n (key_in home i)) ≡ true
  pub calls : (f : ℕ) (a : Place) (g : ℕ) → option_map func_called (map.get m (invoke_key f a)) ≡ Some g → option_map func_called (map.get n (invoke_key f a)) ≡ Some g
  -- what an open one owns has its plain value
  pub values : (t : TxId) (x : Item) → tx_end d next t ≡ None → (content_of m x).owner ≡ Some (ByTx t) → value_at q x ≡ value_at p x
