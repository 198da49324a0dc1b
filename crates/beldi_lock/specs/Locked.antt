-- What a walk says of a lock is so of its item.
use Rattle.std.specs.Prelude.{◌≡◌, ◌⊎◌, ℕ, true, false, Option, Some, None, Ok}
use Rattle.std.specs.Ordering.{is_eq}
use Rattle.std.specs.FinMap as map
use Rattle.beldi_value.specs.declared.{id.IntentId.IntentId, place.Owner.Owner, place.Place.Place}
use Rattle.beldi_row.specs.{declared.notes.Note.Note, declared.row.Row.Row, Act.other_owner, Key.RowKey, Key.key_cmp, Log.note_at, Table.Rows, Table.TableState, Table.Tells}
use Rattle.beldi_query.specs.{Query.query_reply, Walk.Turned}
use Rattle.beldi_chain.specs.{Chain.Chain, Chain.ChangedAlone, Chain.chain, Chain.content, Content.Content}
use Rattle.beldi_links.specs.Links.{AllGrow, At, IsLinked, SeesAt}
use Rattle.beldi_daal.specs.{declared.cell.CellOp.TheVariants.Lock, declared.cell.WriteAt.TheVariants.Try, Cell.cell_key, Logged.at_of, Logged.waited, Logged.dies, Logged.done_to, Logged.died_at}
use Rattle.beldi_lock.specs.{declared.lock.LockAt.LockAt, declared.lock.LockAt.TheVariants.Lockset, declared.lock.LockAt.TheVariants.Item, declared.lock_walk.LockOutput.LockOutput, declared.lock_walk.LockOutput.TheVariants.Going, declared.lock_walk.LockOutput.TheVariants.Got, declared.lock_walk.LockOutput.TheVariants.Died, declared.lock_walk.LockOutput.TheVariants.Held, declared.lock_walk.LockOutput.TheVariants.Worn, declared.lock_walk.LockWalk.LockWalk, Lock.lockset_key, Lock.note_goes, Lock.lock_asks, Lock.lock_next, Lock.lock_so, Lock.lock_output}

abbrev pub lock_key : LockWalk → RowKey
lock_key w = cell_key w.home w.table w.key

-- the note of what is said of a place
abbrev pub HasNote : Place → LockOutput → Content → Type 0
HasNote p (Got first) d = note_at d.notes p ≡ Some Note.Got
HasNote p (Died a) d = note_at d.notes p ≡ Some (Note.Died a)
HasNote p s d = Unit {0}

-- by the note that the place had: it died in this turn, of the other owner, and the death was noted; or it had died before
abbrev pub Dies : Place → Owner → IntentId → Option Note → Content → Content → Type 0
Dies p who a None c d = (dies who Lock c.owner ≡ Some a) × (d ≡ died_at p a c)
Dies p who a (Some n) c d = (n ≡ Note.Died a) × (d ≡ c)

-- by the content of the item before the turn, and after it. A lock was taken in this turn where the place had no note and no
-- other owned the item. Otherwise, but for a death, the content stands, and what is said of the place or of the owner is so: who asks
-- waits for that other owner.
abbrev pub Locks : Place → Owner → LockOutput → Content → Content → Type 0
Locks p who (Got true) c d = (note_at c.notes p ≡ None) × (other_owner who c.owner ≡ None) × (d ≡ done_to p who Lock c)
Locks p who (Got false) c d = (note_at c.notes p ≡ Some Note.Got) × (d ≡ c)
Locks p who (Died a) c d = Dies p who a (note_at c.notes p) c d
Locks p who (Held o) c d = (note_at c.notes p ≡ None) × (waited who (other_owner who c.owner) ≡ Some o) × (d ≡ c)
Locks p who Going c d = d ≡ c
Locks p who Worn c d = (note_at c.notes p ≡ None) × (d ≡ c)

-- what it sees that stands there
abbrev pub SeesItem : LockAt → Place → Chain → Type 0
SeesItem (Lockset begin) p f = Unit {0}
SeesItem (Item at) p f = SeesAt f p (at_of at)

-- what a turn at the item leaves, where its rows are linked, and it sees what it has to
pub record LockTurn (w x : LockWalk) (m n : Rows) (s : LockOutput) : Type 0 where
  -- all rows are as before but those of its item, which are linked, and grow
  pub others : ChangedAlone (lock_key w) m n
  pub linked : IsLinked (chain n (lock_key w))
  pub grows : AllGrow m n
  pub locks : Locks w.place w.who s (content (chain m (lock_key w))) (content (chain n (lock_key w)))
  -- the place has what is said of it
  pub noted : HasNote w.place s (content (chain n (lock_key w)))
  -- it sees what it has to where it stands then
  pub sees : SeesItem x.at w.place (chain n (lock_key w))

-- what a turn leaves that puts the row of a lockset: it is there, and all other rows are as before
abbrev pub put_row : Option Row → Row
put_row None = Row.Lockset
put_row (Some r) = r

pub record PutTurn (k : RowKey) (m n : Rows) (s : LockOutput) : Type 0 where
  pub output : s ≡ Going
  pub others : (q : RowKey) → is_eq (key_cmp q k) ≡ false → map.get n q ≡ map.get m q
  pub put : map.get n k ≡ Some (put_row (map.get m k))

-- by where the walk stands
abbrev pub LeavesAt : LockAt → LockWalk → LockWalk → Rows → Rows → LockOutput → Type 0
LeavesAt (Lockset begin) w x m n s = PutTurn (lockset_key w.home w.place.intent begin w.table w.key) m n s
LeavesAt (Item at) w x m n s = IsLinked (chain m (lock_key w)) → SeesAt (chain m (lock_key w)) w.place (at_of at) → LockTurn w x m n s

-- for every turn that says something, over every table that tells its rows
abbrev pub LocksAreByTheRow : Type 0
LocksAreByTheRow = (w x : LockWalk) (now : ℕ) (old new : TableState) (s : LockOutput) → Turned (lock_asks w) now (lock_next w) (lock_output w) w x old new (Ok s)
    → Tells old.rows new.rows (λ m n. LeavesAt w.at w x m n s)

-- what a place came to first stands: a walk for it at a row says so, or goes on to the next row
abbrev pub LocksStand : Type 0
LocksStand = (w : LockWalk) (now : ℕ) (m : Rows) (r : ℕ) (n : Note) → w.at ≡ Item (Try r) → IsLinked (chain m (lock_key w)) → SeesAt (chain m (lock_key w)) w.place (At.Try r) → note_at (content (chain m (lock_key w))).notes w.place ≡ Some n
    → let s = lock_output w (query_reply (lock_asks w) now m) in (s ≡ lock_so (note_goes n false)) ⊎ (s ≡ Going)
