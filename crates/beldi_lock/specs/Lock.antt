-- The walk of a lock, as a machine that asks one thing a turn: a transaction first puts the row that says that it asks for the lock;
-- then it is the walk of a write whose operation is the lock.
use Rattle.std.specs.Prelude.{ℕ, Bool, List}
use Rattle.beldi_value.specs.declared.{id.IntentId.IntentId, place.Owner.Owner, place.Owner.TheVariants.Intent, place.Owner.TheVariants.Tx, place.Place.Place}
use Rattle.beldi_row.specs.{declared.act.Act.TheVariants.PutLockset, Key.RowKey, declared.notes.Note.Note, Act.added, Act.present, declared.key.Kind.Kind}
use Rattle.beldi_query.specs.{declared.query.Query.Query, Query.QueryReply, Query.replied}
use Rattle.beldi_daal.specs.{declared.cell.WriteAt.WriteAt, declared.cell.WriteAt.TheVariants.Try, declared.cell.WriteGoes.WriteGoes, Cell.cell_key, Cell.write_asks, Cell.write_goes, declared.cell.CellOp.CellOp}
use Rattle.beldi_lock.specs.declared.{lock.LockAt.LockAt, lock.LockAt.TheVariants.Lockset, lock.LockAt.TheVariants.Item, lock.LockGoes.LockGoes, lock_walk.LockOutput.LockOutput, lock_walk.LockOutput.TheVariants.Going, lock_walk.LockOutput.TheVariants.Got, lock_walk.LockOutput.TheVariants.Died, lock_walk.LockOutput.TheVariants.Held, lock_walk.LockOutput.TheVariants.Worn, lock_walk.LockWalk.LockWalk}

-- where a lock begins
abbrev pub lock_first : Owner → LockAt
lock_first (Intent a) = Item (Try 0)
lock_first (Tx t) = Lockset t.begin

-- the row that says that an intent asked for the lock of an item, in the transaction begun at a step
abbrev pub lockset_key : ℕ → IntentId → ℕ → ℕ → List ℕ → RowKey
lockset_key home id begin t k = record { home = home; kind = Kind.Lockset id begin t k }

abbrev pub asks_at : ℕ → ℕ → List ℕ → Place → Owner → LockAt → Query
asks_at home t k p who (Lockset begin) = Query.Act (lockset_key home p.intent begin t k) PutLockset
asks_at home t k p who (Item at) = write_asks (cell_key home t k) p who CellOp.Lock at

-- once the row is there, the item comes next
abbrev pub put_goes : QueryReply → LockGoes
put_goes (replied added) = LockGoes.On (Item (Try 0))
put_goes (replied present) = LockGoes.On (Item (Try 0))
put_goes t = LockGoes.Stays

-- what the note of the place says; the lock stays at a note of another kind
abbrev pub note_goes : Note → Bool → LockGoes
note_goes Note.Wrote first = LockGoes.Stays
note_goes (Note.Cond b) first = LockGoes.Stays
note_goes Note.Got first = LockGoes.Got first
note_goes (Note.Died a) first = LockGoes.Died a
note_goes Note.Freed first = LockGoes.Stays

abbrev pub item_goes : WriteGoes → LockGoes
item_goes (WriteGoes.On next) = LockGoes.On (Item next)
item_goes WriteGoes.Stays = LockGoes.Stays
item_goes (WriteGoes.Done n first) = note_goes n first
item_goes WriteGoes.NotOwner = LockGoes.Stays
item_goes (WriteGoes.Held o) = LockGoes.Held o
item_goes WriteGoes.Worn = LockGoes.Worn

-- where a lock goes after it was told
abbrev pub lock_goes : LockAt → QueryReply → LockGoes
lock_goes (Lockset begin) t = put_goes t
lock_goes (Item at) t = item_goes (write_goes Note.Got at t)

-- ---- the walk
abbrev pub first_lock : ℕ → Place → Owner → ℕ → List ℕ → LockWalk
first_lock home place who t k = record { home = home; table = t; key = k; place = place; who = who; at = lock_first who }

abbrev pub lock_asks : LockWalk → Query
lock_asks w = asks_at w.home w.table w.key w.place w.who w.at

-- the walk stands where it stood, unless it goes on
abbrev pub lock_at : LockWalk → LockGoes → LockWalk
lock_at w (LockGoes.On at) = record w { at = at }
lock_at w LockGoes.Stays = w
lock_at w (LockGoes.Got first) = w
lock_at w (LockGoes.Died a) = w
lock_at w (LockGoes.Held o) = w
lock_at w LockGoes.Worn = w

abbrev pub lock_so : LockGoes → LockOutput
lock_so (LockGoes.On at) = Going
lock_so LockGoes.Stays = Going
lock_so (LockGoes.Got first) = Got first
lock_so (LockGoes.Died a) = Died a
lock_so (LockGoes.Held o) = Held o
lock_so LockGoes.Worn = Worn

-- the walk after it was told, and its answer
abbrev pub lock_next : LockWalk → QueryReply → LockWalk
lock_next w t = lock_at w (lock_goes w.at t)

abbrev pub lock_output : LockWalk → QueryReply → LockOutput
lock_output w t = lock_so (lock_goes w.at t)
