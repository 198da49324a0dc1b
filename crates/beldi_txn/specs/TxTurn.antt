-- What a turn of an operation of a transaction leaves, and that what it answers is so of the rows.
use Rattle.std.specs.Prelude.{◌≡◌, ◌⊎◌, ℕ, Bool, true, false, is_some, List, [], Option, Some, None, Ok}
use Rattle.beldi_value.specs.declared.{id.IntentId.IntentId, outcome.Cause.Cause, place.Owner.Owner, place.Place.Place, place.TxId.TxId, value.Value.Value}
use Rattle.beldi_lang.specs.declared.effect.Effect.{Effect, TheVariants.Read, TheVariants.Write, TheVariants.CondWrite}
use Rattle.beldi_row.specs.{declared.row.Row.Row, Act.other_owner, Key.RowKey, Key.at_row, Log.note_at, Table.Rows, Table.TableState, Table.Tells, declared.notes.Note.Note}
use Rattle.beldi_query.specs.{declared.query.Query.Query, declared.query.Query.TheVariants.Act, declared.query.Query.TheVariants.After, Walk.Turned}
use Rattle.beldi_chain.specs.{Chain.Chain, Chain.ChangedAlone, Chain.chain, Chain.content, Chain.tail, Content.Content}
use Rattle.beldi_links.specs.Links.{AllGrow, IsLinked, ReadsAt, SeesAt}
use Rattle.beldi_daal.specs.{declared.cell.CellOp.CellOp, declared.cell.CellOp.TheVariants.Lock, Cell.cell_key, Cell.shadow_key, Logged.at_of, Logged.waited, Logged.dies, Logged.done_to, Logged.DidAs}
use Rattle.beldi_lock.specs.Locked.{SeesItem}
use Rattle.beldi_readlog.specs.ReadLog.{log_key, given}
use Rattle.beldi_txn.specs.{declared.tx.TxAt.TxAt, declared.tx.TxOutput.TxOutput, declared.tx_walk.TxWalk.TxWalk, Tx.item_of, Tx.op_of, TxWalk.first_tx, TxWalk.walk_asks, TxWalk.walk_next, TxWalk.walk_output}

-- ---- where an operation may stand
-- each has stages of its own
abbrev pub Fits : Effect → TxAt → Type 0
Fits (Read t k) TxAt.Seek = ⊥
Fits (Read t k) (TxAt.Head v) = ⊥
Fits (Read t k) (TxAt.Write w) = ⊥
Fits (Read t k) a = Unit {0}
Fits (Write t k v) (TxAt.Lock l) = Unit {0}
Fits (Write t k v) (TxAt.Write w) = Unit {0}
Fits (Write t k v) a = ⊥
Fits (CondWrite t k r o v) TxAt.Log = ⊥
Fits (CondWrite t k r o v) (TxAt.Shadow n) = ⊥
Fits (CondWrite t k r o v) (TxAt.Keep u) = ⊥
Fits (CondWrite t k r o v) a = Unit {0}
Fits e a = ⊥

-- past its lock the place has it
abbrev pub HasLock : TxAt → Place → Content → Type 0
HasLock TxAt.Log p c = Unit {0}
HasLock (TxAt.Lock l) p c = Unit {0}
HasLock a p c = note_at c.notes p ≡ Some Note.Got

-- the first rows of its item and of the transaction's shadow of it, by table and key
abbrev pub item_key : TxWalk → ℕ → List ℕ → RowKey
item_key w t k = cell_key w.home t k

abbrev pub aside_key : TxWalk → ℕ → List ℕ → RowKey
aside_key w t k = shadow_key w.home w.tx t k

-- what it sees of the rows of the item, and of those of the shadow
abbrev pub Sees : TxAt → Place → Chain → Chain → Type 0
Sees (TxAt.Lock l) p f g = SeesItem l p f
Sees (TxAt.Shadow r) p f g = ReadsAt g r
Sees (TxAt.Item r) p f g = ReadsAt f r
Sees (TxAt.Write w) p f g = SeesAt g p (at_of w)
Sees a p f g = Unit {0}

-- what it needs: the rows of both are linked, nobody owns the shadow, it stands where it may, and sees what it has to
pub record Stands (w : TxWalk) (t : ℕ) (k : List ℕ) (m : Rows) : Type 0 where
  pub item : IsLinked (chain m (item_key w t k))
  pub shadow : IsLinked (chain m (aside_key w t k))
  pub unowned : (content (chain m (aside_key w t k))).owner ≡ None
  pub fits : Fits w.effect w.at
  pub locked : HasLock w.at w.place (content (chain m (item_key w t k)))
  pub sees : Sees w.at w.place (chain m (item_key w t k)) (chain m (aside_key w t k))

-- ---- what a turn leaves
abbrev pub key_asked : Query → RowKey
key_asked (Act k a) = k
key_asked (After k) = k

-- .. and the first row of its item, where it is a row of one
abbrev pub head_asked : Query → RowKey
head_asked q = at_row (key_asked q) 0

-- the item changes only by the lock: the place had no note, and took the lock, or died of another owner
abbrev pub LockMoves : Place → Owner → Content → Content → Type 0
LockMoves p who c d = (d ≡ c) ⊎ ((note_at c.notes p ≡ None) × DidAs p who Lock (dies who Lock c.owner) c d)

abbrev pub ItemMoves : TxAt → Place → Owner → Content → Content → Type 0
ItemMoves (TxAt.Lock l) p who c d = LockMoves p who c d
ItemMoves a p who c d = d ≡ c

-- nothing is answered, and nothing was done
abbrev pub is_going : TxOutput → Bool
is_going TxOutput.Going = true
is_going TxOutput.Worn = true
is_going s = false

-- what the shadow holds changes only by this operation, which is answered at once
abbrev pub AsideMoves : Option CellOp → Place → Owner → TxOutput → Content → Content → Type 0
AsideMoves None p who s c d = d ≡ c
AsideMoves (Some o) p who s c d = (d ≡ c) ⊎ ((d ≡ done_to p who o c) × (is_going s ≡ false))

-- the shadow's rows change only where its place had no note: by the operation, by a row that is to follow a full one, and its link, or
-- by a first row, with the value that was found and no notes; by what is said, and the shadow before and after
abbrev pub ShadowMoves : Effect → TxAt → Place → Owner → TxOutput → Chain → Chain → Type 0
ShadowMoves e (TxAt.Head v) p who s f g = (g ≡ f) ⊎ ((note_at (content f).notes p ≡ None) × (tail f ≡ None) × (content g ≡ record { value = v; owner = None; notes = [] }))
ShadowMoves e (TxAt.Write w) p who s f g = (g ≡ f) ⊎ ((note_at (content f).notes p ≡ None) × AsideMoves (op_of e) p who s (content f) (content g))
ShadowMoves e a p who s f g = g ≡ f

-- a read and a condition find the shadow's value, or, where there is no shadow, the item's, and a condition is tested on a shadow that is
-- there: by where the operation stood, where it stands then, the last row of the shadow then, and the value of the item
abbrev pub shadow_value : Option Row → Option Value
shadow_value (Some (Row.Cell c)) = Some c.value
shadow_value r = None

abbrev pub Finds : TxAt → TxAt → Option Row → Value → Type 0
Finds (TxAt.Shadow n) (TxAt.Keep v) r w = shadow_value r ≡ Some v
Finds (TxAt.Shadow n) (TxAt.Item k) r w = r ≡ None
Finds TxAt.Seek (TxAt.Write u) r w = is_some r ≡ true
Finds (TxAt.Head v) (TxAt.Write u) r w = is_some r ≡ true
Finds (TxAt.Item n) (TxAt.Keep v) r w = v ≡ w
Finds (TxAt.Item n) (TxAt.Head v) r w = v ≡ w
Finds a b r w = Unit {0}

-- ---- what is said
-- it died of the owner in the cause
abbrev pub HasDied : Place → Cause → Content → Type 0
HasDied p a c = (h : IntentId) × (a ≡ record { place = p; holder = Some h }) × (note_at c.notes p ≡ Some (Note.Died h))

-- the value is the one that was kept for the read, or whether the condition was noted as passed
abbrev pub Gave : Effect → Place → Value → Option Value → Content → Type 0
Gave (Read t k) p v g d = g ≡ Some v
Gave (CondWrite t k r o u) p v g d = (b : Bool) × (v ≡ Value.Bool b) × (note_at d.notes p ≡ Some (Note.Cond b))
Gave e p v g d = ⊥

abbrev pub WasDone : Effect → Place → Content → Type 0
WasDone (Write t k v) p d = note_at d.notes p ≡ Some Note.Wrote
WasDone e p d = ⊥

-- by what was kept for the place, and the contents of the item and of the shadow, after the turn
abbrev pub IsSo : Effect → Place → Owner → TxOutput → Option Value → Content → Content → Type 0
IsSo e p who TxOutput.Going g c d = Unit {0}
IsSo e p who (TxOutput.Died a) g c d = HasDied p a c
IsSo e p who (TxOutput.Held o) g c d = (note_at c.notes p ≡ None) × (waited who (other_owner who c.owner) ≡ Some o)
IsSo e p who TxOutput.Worn g c d = Unit {0}
IsSo e p who (TxOutput.Value v) g c d = Gave e p v g d
IsSo e p who TxOutput.Done g c d = WasDone e p d

pub record TxTurn (w x : TxWalk) (t : ℕ) (k : List ℕ) (m n : Rows) (s : TxOutput) : Type 0 where
  -- all rows are as before but the one, or those of the item, that it asks for
  pub others : ChangedAlone (head_asked (walk_asks w)) m n
  pub grows : AllGrow m n
  pub item : ItemMoves w.at w.place (Owner.Tx w.tx) (content (chain m (item_key w t k))) (content (chain n (item_key w t k)))
  pub shadow : ShadowMoves w.effect w.at w.place (Owner.Tx w.tx) s (chain m (aside_key w t k)) (chain n (aside_key w t k))
  pub finds : Finds w.at x.at (tail (chain n (aside_key w t k))) (content (chain m (item_key w t k))).value
  -- what it says is so
  pub so : IsSo w.effect w.place (Owner.Tx w.tx) s (given n (log_key w.home w.place)) (content (chain n (item_key w t k))) (content (chain n (aside_key w t k)))
  -- it goes on in the same operation, from where it may stand
  pub same : x ≡ record w { at = x.at }
  pub stands : Stands x t k n

-- for every turn that says something, over every table that tells its rows
abbrev pub OperationsAreSo : Type 0
OperationsAreSo = (w x : TxWalk) (t : ℕ) (k : List ℕ) (now : ℕ) (old new : TableState) (s : TxOutput) → item_of w.effect ≡ Some (t, k)
    → Turned (walk_asks w) now (walk_next w) (walk_output w) w x old new (Ok s) → Tells old.rows new.rows (λ m n. Stands w t k m → TxTurn w x t k m n s)

-- an operation begins where it may stand, and needs no lock there
abbrev pub OperationsBegin : Type 0
OperationsBegin = (home : ℕ) (p : Place) (tx : TxId) (e : Effect) (t : ℕ) (k : List ℕ) (c : Content) → item_of e ≡ Some (t, k) → let w = first_tx home p tx e in Fits e w.at × HasLock w.at p c
