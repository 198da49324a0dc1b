-- An operation of a transaction on an item, as a machine that asks one thing a turn: it takes the lock of the item, and then works on
-- the transaction's own copy of the item, its shadow.
use Rattle.std.specs.Prelude.{ℕ, Bool, true, false, List, Option, Some, None}
use Rattle.beldi_value.specs.declared.{id.IntentId.IntentId, place.Place.Place, place.TxId.TxId, value.Value.Value, place.Owner.Owner}
use Rattle.beldi_lang.specs.declared.effect.Effect.{Effect, TheVariants.Read, TheVariants.Write, TheVariants.CondWrite}
use Rattle.beldi_row.specs.{declared.act.Act.TheVariants.Look, declared.act.Act.TheVariants.MakeCell, Key.RowKey, Key.at_row, declared.notes.Note.Note, Act.absent, Act.here, Act.added, Act.present, Act.kept, Log.blank}
use Rattle.beldi_query.specs.{declared.query.Query.Query, declared.query.Query.TheVariants.Act, Query.QueryReply, Query.replied}
use Rattle.beldi_daal.specs.{declared.cell.CellOp.CellOp, declared.cell.ReadGoes.ReadGoes, declared.cell.WriteAt.WriteAt, declared.cell.WriteAt.TheVariants.Try, declared.cell.WriteGoes.WriteGoes, Cell.cell_key, Cell.shadow_key, Cell.read_goes, Cell.write_asks, Cell.write_goes}
use Rattle.beldi_lock.specs.{declared.lock.LockAt.TheVariants.Lockset, declared.lock.LockGoes.LockGoes, Lock.asks_at, Lock.lock_goes}
use Rattle.beldi_readlog.specs.ReadLog.{given_asks, given_of, keep_asks}
use Rattle.beldi_txn.specs.declared.tx.TxGoes.TheVariants.{On, Stays, Put, Died, Held, Worn, Value as Gives, Done}
use Rattle.beldi_txn.specs.declared.tx.{TxAt.TxAt, TxGoes.TxGoes}

-- ---- the operation
abbrev pub is_operation : Effect → Bool
is_operation (Read t k) = true
is_operation (Write t k v) = true
is_operation (CondWrite t k r o v) = true
is_operation e = false

-- its item
abbrev pub item_of : Effect → Option (ℕ × List ℕ)
item_of (Read t k) = Some (t, k)
item_of (Write t k v) = Some (t, k)
item_of (CondWrite t k r o v) = Some (t, k)
item_of e = None

-- what it does to the shadow, and the note that it leaves where its act says that it was done
abbrev pub op_of : Effect → Option CellOp
op_of (Write t k v) = Some (CellOp.Write v)
op_of (CondWrite t k r o v) = Some (CellOp.Cond r o v)
op_of e = None

abbrev pub done_of : Effect → Note
done_of (CondWrite t k r o v) = Note.Cond true
done_of e = Note.Wrote

-- where it begins: a read, with what was kept for it; another, with the row that says that the lock is asked for
abbrev pub tx_first : ℕ → Effect → TxAt
tx_first begin (Read t k) = TxAt.Log
tx_first begin e = TxAt.Lock (Lockset begin)

-- ---- what it asks
-- of the shadow, where it writes; what was kept, where it does not
abbrev pub aside_asks : ℕ → Place → TxId → RowKey → WriteAt → Option CellOp → Query
aside_asks home p x k w (Some o) = write_asks k p (Owner.Tx x) o w
aside_asks home p x k w None = given_asks home p

abbrev pub item_asks : ℕ → Place → TxId → Effect → ℕ → List ℕ → TxAt → Query
item_asks home p x e t k TxAt.Log = given_asks home p
item_asks home p x e t k (TxAt.Lock l) = asks_at home t k p (Owner.Tx x) l
item_asks home p x e t k TxAt.Seek = Act (shadow_key home x t k) Look
item_asks home p x e t k (TxAt.Shadow r) = Act (at_row (shadow_key home x t k) r) Look
item_asks home p x e t k (TxAt.Item r) = Act (at_row (cell_key home t k) r) Look
item_asks home p x e t k (TxAt.Keep v) = keep_asks home p v
item_asks home p x e t k (TxAt.Head v) = Act (shadow_key home x t k) (MakeCell v None blank)
item_asks home p x e t k (TxAt.Write w) = aside_asks home p x (shadow_key home x t k) w (op_of e)

abbrev pub asks_of : ℕ → Place → TxId → Effect → TxAt → Option (ℕ × List ℕ) → Query
asks_of home p x e a (Some i) = item_asks home p x e i.0 i.1 a
asks_of home p x e a None = given_asks home p

abbrev pub tx_asks : ℕ → Place → TxId → Effect → TxAt → Query
tx_asks home p x e a = asks_of home p x e a (item_of e)

-- ---- where it goes after it was told
-- the value that was kept is the answer; without one the lock is asked for
abbrev pub given_goes : ℕ → Option Value → TxGoes
given_goes begin (Some v) = Gives v
given_goes begin None = On (TxAt.Lock (Lockset begin))

-- once the place has the lock, the shadow comes next
abbrev pub locked_goes : Effect → TxGoes
locked_goes (Read t k) = On (TxAt.Shadow 0)
locked_goes (Write t k v) = On (TxAt.Write (Try 0))
locked_goes (CondWrite t k r o v) = On TxAt.Seek
locked_goes e = Stays

-- a death ends the operation, with the place and the owner that it died of
abbrev pub died_goes : Place → IntentId → TxGoes
died_goes p a = Died (record { place = p; holder = Some a })

abbrev pub lock_leads : Place → Effect → LockGoes → TxGoes
lock_leads p e (LockGoes.On l) = On (TxAt.Lock l)
lock_leads p e LockGoes.Stays = Stays
lock_leads p e (LockGoes.Got first) = locked_goes e
lock_leads p e (LockGoes.Died a) = died_goes p a
lock_leads p e (LockGoes.Held o) = Held o
lock_leads p e LockGoes.Worn = Worn

-- a read takes the value of the shadow; without a shadow, the item's
abbrev pub shadow_read : ReadGoes → TxGoes
shadow_read (ReadGoes.On n) = On (TxAt.Shadow n)
shadow_read ReadGoes.Stays = Stays
shadow_read (ReadGoes.Got None) = On (TxAt.Item 0)
shadow_read (ReadGoes.Got (Some v)) = On (TxAt.Keep v)
shadow_read (ReadGoes.Held o) = Stays

-- a condition is tested on the shadow; without one, one is made with the item's value
abbrev pub seek_goes : QueryReply → TxGoes
seek_goes (replied absent) = On (TxAt.Item 0)
seek_goes (replied (here r)) = On (TxAt.Write (Try 0))
seek_goes t = Stays

abbrev pub item_leads : Effect → Value → TxGoes
item_leads (Read t k) v = On (TxAt.Keep v)
item_leads (CondWrite t k r o u) v = On (TxAt.Head v)
item_leads e v = Stays

-- an item without a row is null
abbrev pub item_goes : Effect → ReadGoes → TxGoes
item_goes e (ReadGoes.On n) = On (TxAt.Item n)
item_goes e ReadGoes.Stays = Stays
item_goes e (ReadGoes.Got None) = item_leads e Value.Null
item_goes e (ReadGoes.Got (Some v)) = item_leads e v
item_goes e (ReadGoes.Held o) = Stays

-- the kept value is the answer: this one, or the one that was there; a row of another kind reads as null
abbrev pub keep_goes : QueryReply → TxGoes
keep_goes (replied added) = Put
keep_goes (replied (kept v)) = Gives v
keep_goes t = Gives Value.Null

-- once the shadow is there, it is written
abbrev pub head_made : QueryReply → TxGoes
head_made (replied added) = On (TxAt.Write (Try 0))
head_made (replied present) = On (TxAt.Write (Try 0))
head_made t = Stays

-- the note of the place, read as the answer; the operation stays at a note of another kind
abbrev pub note_goes : Effect → Note → TxGoes
note_goes (Write t k v) Note.Wrote = Done
note_goes (CondWrite t k r o v) (Note.Cond b) = Gives (Value.Bool b)
note_goes e n = Stays

-- nobody owns a shadow
abbrev pub write_leads : Effect → WriteGoes → TxGoes
write_leads e (WriteGoes.On w) = On (TxAt.Write w)
write_leads e WriteGoes.Stays = Stays
write_leads e (WriteGoes.Done n first) = note_goes e n
write_leads e WriteGoes.NotOwner = Stays
write_leads e (WriteGoes.Held o) = Stays
write_leads e WriteGoes.Worn = Worn

abbrev pub tx_goes : Place → ℕ → Effect → TxAt → QueryReply → TxGoes
tx_goes p begin e TxAt.Log t = given_goes begin (given_of t)
tx_goes p begin e (TxAt.Lock l) t = lock_leads p e (lock_goes l t)
tx_goes p begin e TxAt.Seek t = seek_goes t
tx_goes p begin e (TxAt.Shadow r) t = shadow_read (read_goes None t)
tx_goes p begin e (TxAt.Item r) t = item_goes e (read_goes None t)
tx_goes p begin e (TxAt.Keep v) t = keep_goes t
tx_goes p begin e (TxAt.Head v) t = head_made t
tx_goes p begin e (TxAt.Write w) t = write_leads e (write_goes (done_of e) w t)
