-- The rows of a table as a map, and what a call of a table does.
use Rattle.std.specs.Prelude.{◌≡◌, ℕ, zero, suc, ◌+◌, ◌-◌, ◌^◌, ◌≤◌, ◌<◌, ◌⊎◌, min, Bool, false, not, ◌&&◌, ◌||◌, is_some, IfSome, List, [], ◌∷◌, Option, Some, None, Result, Ok, Err, if◌then◌else◌, IsTrue, IsErrOf}
use Rattle.std.specs.{FinMap.FinMap, Option.option_map, Ordering.is_lt, declared.cmp.Ordering.TheVariants.Less}
use denote.Bor.{Bor}
use Rattle.std.specs.FinMap as map
use Rattle.beldi_value.specs.declared.place.Place.{Place}
use Rattle.beldi_row.specs.{Key.RowKey, Key.key_cmp, Key.at_row, Key.row_of, Log.note_at, declared.notes.Note.Note, declared.row.Cell.Cell, Act.ActReply, Act.act, Act.off, Act.act_reply_of, declared.key.Kind.Kind, declared.row.Row.Row, declared.act.Act.Act, declared.act.ActReplyRef.ActReplyRef, declared.table.Opens.Opens, declared.table.TableErr.TableErr, declared.table.TableErr.TheVariants.OutOfMemory, declared.table.TableErr.TheVariants.Failed, declared.table.TableErr.TheVariants.Full}

abbrev pub Rows : Type 0
Rows = FinMap key_cmp Row

-- what contracts see of a table
pub record TableState : Type 0 where
  -- its rows, where it tells them
  pub rows : Option Rows
  -- how often it has failed; it never falls, and at its end it stands still
  pub faults : ℕ
  -- how many rows it may have: 0 before the first `ready`
  pub room : ℕ
  -- how many calls of `act` and `next` it has had, where it counts them; at its end it stands still
  pub calls : Option ℕ

-- one more, up to the end of a count
abbrev pub one_more : ℕ → ℕ
one_more n = min (n + 1) (2 ^ 64 - 1)

-- exactly one call was made, where calls are counted
abbrev pub OneCall : Option ℕ → Option ℕ → Type 0
OneCall before now = now ≡ option_map one_more before

-- no call was made, or exactly one
abbrev pub AtMostOne : Option ℕ → Option ℕ → Type 0
AtMostOne before now = (now ≡ before) ⊎ OneCall before now

-- the rows with this at the key
abbrev pub set_row : Rows → RowKey → Option Row → Rows
set_row m k None = map.remove m k
set_row m k (Some r) = map.insert m k r

-- the rows after an act on one of them
abbrev pub after_act : Act → ℕ → RowKey → Rows → Rows
after_act a now k m = set_row m k (act a now (map.get m k)).0

-- what an act on one of them says
abbrev pub act_reply : Act → ℕ → RowKey → Rows → ActReply
act_reply a now k m = (act a now (map.get m k)).1

-- the act adds a row
abbrev pub adds : Act → ℕ → RowKey → Rows → Bool
adds a now k m = not (map.contains_key m k) && is_some (off a now).0

-- how many rows there are, as it is answered
abbrev pub row_count : Rows → ℕ
row_count m = min (map.len m) (2 ^ 32 - 1)

-- so many rows there are, where they are told
abbrev pub IsCount : Option Rows → ℕ → Type 0
IsCount None n = Unit {0}
IsCount (Some m) n = n ≡ row_count m

-- the act would add a row where there are as many as the room, or more; it tells how many there are, and the room
pub record IsFull (a : Act) (now : ℕ) (k : RowKey) (room : ℕ) (m : Rows) (live most : ℕ) : Type 0 where
  pub more : IsTrue (adds a now k m)
  pub filled : room ≤ map.len m
  pub count : live ≡ row_count m
  pub limit : most ≡ room

-- the act was not made, so the rows are as before; and where it was refused as Full, it was full
abbrev pub Refused : Act → ℕ → RowKey → ℕ → Rows → Rows → TableErr → Type 0
Refused a now k room m n OutOfMemory = n ≡ m
Refused a now k room m n Failed = n ≡ m
Refused a now k room m n (Full live most) = (n ≡ m) × IsFull a now k room m live most

-- what an answer to an act says of the rows before and after
abbrev pub ActedOn : Act → ℕ → RowKey → ℕ → Rows → Rows → Result ActReplyRef TableErr → Type 0
ActedOn a now k room m n (Ok s) = (n ≡ after_act a now k m) × (act_reply_of s ≡ act_reply a now k m) × (IsTrue (adds a now k m) → map.len m < room)
ActedOn a now k room m n (Err e) = Refused a now k room m n e

-- a count that rose, or stands at its end
abbrev pub Rose : ℕ → ℕ → Type 0
Rose before now = one_more before ≤ now

-- the count of failures never falls, and a failure comes only where it rose
pub record HasCause {T : Type 0} (before now : ℕ) (result : Result T TableErr) : Type 0 where
  pub later : before ≤ now
  pub failed : IsErrOf result Failed → Rose before now

-- what is told after, given what was told before
abbrev pub Tells : Option Rows → Option Rows → (Rows → Rows → Type 0) → Type 0
Tells None after P = after ≡ None
Tells (Some m) None P = ⊥
Tells (Some m) (Some n) P = P m n

-- an act
pub record Acted (a : Act) (now : ℕ) (k : RowKey) (old new : TableState) (result : Result ActReplyRef TableErr) : Type 0 where
  pub rows : Tells old.rows new.rows (λ m n. ActedOn a now k old.room m n result)
  pub cause : HasCause old.faults new.faults result
  pub room : new.room ≡ old.room
  pub calls : OneCall old.calls new.calls

-- an answer for the row after a key: the row of the least greater key; none, where no key of a row is greater
abbrev pub IsNext : Rows → RowKey → Option (RowKey × Row) → Type 0
IsNext m k None = (q : RowKey) → key_cmp k q ≡ Less → map.get m q ≡ None
IsNext m k (Some e) = (key_cmp k e.0 ≡ Less) × (map.get m e.0 ≡ Some e.1) × ((q : RowKey) → key_cmp k q ≡ Less → key_cmp q e.0 ≡ Less → map.get m q ≡ None)

-- the first entry whose key is greater
abbrev pub first_above : RowKey → List (RowKey × Row) → Option (RowKey × Row)
first_above k [] = None
first_above k (e ∷ es) = if is_lt (key_cmp k e.0) then Some e else first_above k es

-- the row after a key
abbrev pub next_row : Rows → RowKey → Option (RowKey × Row)
next_row m k = first_above k (map.entries m)

abbrev pub NextRowIsLeast : Type 0
NextRowIsLeast = (m : Rows) (k : RowKey) → IsNext m k (next_row m k)

abbrev pub entry_of : Option (Bor RowKey × Bor Row) → Option (RowKey × Row)
entry_of None = None
entry_of (Some e) = Some (e.0.now, e.1.now)

abbrev pub NextOn : RowKey → Result (Option (Bor RowKey × Bor Row)) TableErr → Rows → Rows → Type 0
NextOn k (Ok r) m n = (n ≡ m) × (entry_of r ≡ next_row m k)
NextOn k (Err OutOfMemory) m n = n ≡ m
NextOn k (Err Failed) m n = n ≡ m
NextOn k (Err (Full live most)) m n = ⊥

-- it was not refused as full
abbrev pub IsNotFull : {T : Type 0} → Result T TableErr → Type 0
IsNotFull (Ok x) = Unit {0}
IsNotFull (Err OutOfMemory) = Unit {0}
IsNotFull (Err Failed) = Unit {0}
IsNotFull (Err (Full live most)) = ⊥

-- a step to the row after a key
pub record Went (k : RowKey) (old new : TableState) (result : Result (Option (Bor RowKey × Bor Row)) TableErr) : Type 0 where
  pub rows : Tells old.rows new.rows (NextOn k result)
  pub fits : IsNotFull result
  pub cause : HasCause old.faults new.faults result
  pub room : new.room ≡ old.room
  pub calls : OneCall old.calls new.calls

-- the row of an intent that has something to do, and neither an outcome nor a finish
abbrev pub is_open : Kind → Row → Bool
is_open (Kind.Intent id) (Row.Intent i) = is_some i.body && not (is_some i.outcome || is_some i.finish)
is_open k r = false

-- no open intent has a key past k; or none between two keys
abbrev pub NoneOpen : Rows → RowKey → Type 0
NoneOpen m k = (q : RowKey) (r : Row) → key_cmp k q ≡ Less → map.get m q ≡ Some r → is_open q.kind r ≡ false

abbrev pub NoneOpenTo : Rows → RowKey → RowKey → Type 0
NoneOpenTo m k end = (q : RowKey) (r : Row) → key_cmp k q ≡ Less → key_cmp q end ≡ Less → map.get m q ≡ Some r → is_open q.kind r ≡ false

-- what a table says of the open intents past a key
abbrev pub OpensOn : RowKey → Opens → Rows → Type 0
OpensOn k Opens.Untold m = Unit {0}
OpensOn k Opens.None m = NoneOpen m k
OpensOn k (Opens.First q) m = NoneOpenTo m k q.now

abbrev pub OpensTold : RowKey → Opens → Option Rows → Type 0
OpensTold k o told = IfSome told (OpensOn k o)

-- no entry of this place, if one is given
abbrev pub Lacks : Option Place → List (Place × Note) → Type 0
Lacks None es = Unit {0}
Lacks (Some p) es = note_at es p ≡ None

-- the row with a key is one of an item, which the row of this number follows, and it has no entry of the place
pub record LeadsOn (m : Rows) (k : RowKey) (p : Option Place) (next : ℕ) : Type 0 where
  pub cell : Cell
  pub here : map.get m k ≡ Some (Row.Cell cell)
  pub followed : cell.next ≡ Some next
  pub lacks : Lacks p cell.log

-- so many rows lead, one after another, from the row a of an item to its row b
abbrev pub Along : Rows → RowKey → Option Place → ℕ → ℕ → ℕ → Type 0
Along m k p zero a b = b ≡ a
Along m k p (suc n) a b = (c : ℕ) × LeadsOn m (at_row k a) p c × Along m k p n c b

-- what a table says of how far a walk goes
abbrev pub PassesOn : RowKey → Option Place → ℕ → Option (ℕ × ℕ) → Rows → Type 0
PassesOn k p most None m = Unit {0}
PassesOn k p most (Some (n, b)) m = (n ≤ most) × Along m k p n (row_of k.kind) b

abbrev pub PassesTold : RowKey → Option Place → ℕ → Option (ℕ × ℕ) → Option Rows → Type 0
PassesTold k p most x told = IfSome told (PassesOn k p most x)

-- the one room that a table is given, 0 where it is given none
abbrev pub room_of : List ℕ → ℕ
room_of [] = 0
room_of (n ∷ ns) = n

abbrev pub RoomSet : List ℕ → ℕ → ℕ → Result Unit TableErr → Type 0
RoomSet rooms old new (Ok u) = new ≡ room_of rooms
RoomSet rooms old new (Err OutOfMemory) = new ≡ old
RoomSet rooms old new (Err Failed) = new ≡ old
RoomSet rooms old new (Err (Full live most)) = ⊥

-- the room is set, and the rows are as before
pub record Readied (rooms : List ℕ) (old new : TableState) (result : Result Unit TableErr) : Type 0 where
  pub rows : Tells old.rows new.rows (λ m n. n ≡ m)
  pub cause : HasCause old.faults new.faults result
  pub room : RoomSet rooms old.room new.room result
  pub calls : new.calls ≡ old.calls
