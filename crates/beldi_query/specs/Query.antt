-- What is asked of a table, what it tells, and what a query came to.
use Rattle.std.specs.Prelude.{◌≡◌, ℕ, ◌<◌, Bool, true, false, IsTrue, Option, Result, Ok, Err}
use Rattle.std.specs.FinMap as map
use Rattle.beldi_value.specs.declared.place.Owner.TheVariants.{Tx}
use Rattle.beldi_row.specs.Act.{ActReply, here, other, ended, kept, noted, held, died, packed, act_reply_of, act, prunes}
use Rattle.beldi_row.specs.Table.{Rows, TableState, after_act, act_reply, adds, Refused, Tells, HasCause, AtMostOne, next_row, entry_of}
use Rattle.beldi_row.specs.{Key.RowKey, declared.row.Row.Row, declared.act.Act.Act, declared.act.Act.TheVariants.LockCell, declared.table.TableErr.TableErr, declared.table.TableErr.TheVariants.OutOfMemory, declared.table.TableErr.TheVariants.Failed, declared.table.TableErr.TheVariants.Full}
use Rattle.beldi_query.specs.declared.query.{Query.Query, QueryReplyRef.QueryReplyRef}

-- what a table told, without where it lies in memory
pub data QueryReply : Type 0 where
  replied : ActReply → QueryReply
  found : Option (RowKey × Row) → QueryReply

abbrev pub query_reply_of : QueryReplyRef → QueryReply
query_reply_of (QueryReplyRef.Act s) = replied (act_reply_of s)
query_reply_of (QueryReplyRef.Found e) = found (entry_of e)

-- the rows after a query
abbrev pub rows_after : Query → ℕ → Rows → Rows
rows_after (Query.Act k a) now m = after_act a now k m
rows_after (Query.After k) now m = m

-- what it tells
abbrev pub query_reply : Query → ℕ → Rows → QueryReply
query_reply (Query.Act k a) now m = replied (act_reply a now k m)
query_reply (Query.After k) now m = found (next_row m k)

-- it is an act that may remove its row
abbrev pub may_remove : Query → Bool
may_remove (Query.Act k a) = prunes a
may_remove (Query.After k) = false

abbrev pub query_adds : Query → ℕ → Rows → Bool
query_adds (Query.Act k a) now m = adds a now k m
query_adds (Query.After k) now m = false

abbrev pub RefusedBy : Query → ℕ → ℕ → Rows → Rows → TableErr → Type 0
RefusedBy (Query.Act k a) now room m n e = Refused a now k room m n e
RefusedBy (Query.After k) now room m n OutOfMemory = n ≡ m
RefusedBy (Query.After k) now room m n Failed = n ≡ m
RefusedBy (Query.After k) now room m n (Full live most) = ⊥

-- what a query came to, over rows that are told
abbrev pub CameOn : Query → ℕ → ℕ → Result QueryReply TableErr → Rows → Rows → Type 0
CameOn q now room (Ok t) m n = (n ≡ rows_after q now m) × (t ≡ query_reply q now m) × (IsTrue (query_adds q now m) → map.len m < room)
CameOn q now room (Err e) m n = RefusedBy q now room m n e

-- a query of a table came to this: it told so, or it was refused. Out of memory before, no call was made.
pub record Came (q : Query) (now : ℕ) (w : Result QueryReply TableErr) (old new : TableState) : Type 0 where
  pub rows : Tells old.rows new.rows (λ m n. CameOn q now old.room w m n)
  pub cause : HasCause old.faults new.faults w
  pub room : new.room ≡ old.room
  pub calls : AtMostOne old.calls new.calls

-- ---- what lies in a row was lent
abbrev pub lent : ActReply → Bool
lent (here r) = true
lent (other b) = true
lent (ended o) = true
lent (kept v) = true
lent (noted n) = true
lent (held o) = true
lent (died a) = true
lent (packed v o) = true
lent t = false

abbrev pub lends : QueryReply → Bool
lends (replied t) = lent t
lends (found e) = true

-- a death was told: it was put into the row, and lies there
abbrev pub is_death : ActReply → Bool
is_death (died a) = true
is_death t = false

abbrev pub tells_death : QueryReply → Bool
tells_death (replied t) = is_death t
tells_death (found e) = false

-- who asks for a lock as a transaction may die
abbrev pub may_die : Act → Bool
may_die (LockCell p (Tx t) s) = true
may_die a = false

abbrev pub may_tell_death : Query → Bool
may_tell_death (Query.Act k a) = may_die a
may_tell_death (Query.After k) = false

-- an act that lends what lies in the row has left it as it was, unless it tells a death
abbrev pub LentStands : Type 0
LentStands = (a : Act) (now : ℕ) (r : Option Row) → lent (act a now r).1 ≡ true → is_death (act a now r).1 ≡ false → (act a now r).0 ≡ r

-- only a transaction that asks for a lock dies
abbrev pub OnlyTransactionsDie : Type 0
OnlyTransactionsDie = (a : Act) (now : ℕ) (r : Option Row) → may_die a ≡ false → is_death (act a now r).1 ≡ false
