-- What the turns of a log collector promise, over rows alone.
use Rattle.std.specs.Prelude.{◌≡◌, ◌⊎◌, ℕ, ◌<◌, ◌≤◌, nat_lt, Bool, true, false, Option, Some, None, Result, Ok, Err}
use Rattle.std.specs.Option.{option_map}
use Rattle.std.specs.FinMap as map
use Rattle.std.specs.declared.cmp.Ordering.TheVariants.{Less}
use Rattle.beldi_value.specs.{Id.has_no_hops, declared.id.IntentId.IntentId}
use Rattle.beldi_row.specs.{Key.RowKey, Key.key_cmp, Key.row_of, Act.is_adrift, Act.is_old_row, Act.is_past, Table.Rows, Table.TableState, Table.Tells, Table.next_row, Table.set_row, declared.table.TableErr.TableErr, declared.table.TableErr.TheVariants.OutOfMemory, declared.table.TableErr.TheVariants.Failed, declared.table.TableErr.TheVariants.Full, declared.key.Kind.Kind, declared.row.Row.Row}
use Rattle.beldi_query.specs.{Query.QueryReply, Query.query_reply, Query.rows_after, Walk.Turned}
use Rattle.beldi_intent.specs.Intent.{root_key}
use Rattle.beldi_prune.specs.{Changed.HasDangled, Changed.HasMarked, Changed.HasSkipped, Seat.belongs_to, Seat.seat_of, Prune.anew, Prune.first_collector, Prune.past, Prune.prune_asks, Prune.prune_next, Prune.prune_output}
use Rattle.beldi_prune.specs.declared.collector.{LogCollector.LogCollector, GcOutput.GcOutput, GcOutput.TheVariants.Going, GcOutput.TheVariants.Marked, GcOutput.TheVariants.Skipped, GcOutput.TheVariants.Dangled, GcOutput.TheVariants.Removed, GcOutput.TheVariants.Round}
use Rattle.beldi_prune.specs.declared.collector.CollectorAt.{CollectorAt, TheVariants.Before, TheVariants.ToDropIntent, TheVariants.ToLook, TheVariants.ToDrop, TheVariants.ToProve, TheVariants.ToMark, TheVariants.ToLead, TheVariants.ToSkip, TheVariants.ToDangle, TheVariants.ToDropCell}

-- ---- one turn over rows
abbrev pub told : ℕ → ℕ → LogCollector → Rows → QueryReply
told life now w m = query_reply (prune_asks life w) now m

-- where it stands then, by the newest ticket, the life and the moment
abbrev pub turned : ℕ → ℕ → ℕ → LogCollector → Rows → LogCollector
turned newest life now w m = prune_next newest life now w (told life now w m)

abbrev pub rows_turned : ℕ → ℕ → LogCollector → Rows → Rows
rows_turned life now w m = rows_after (prune_asks life w) now m

-- ---- what is so of a collector wherever its turns led it
-- the row of an intent may go, but not that of a root of the newest ticket
abbrev pub MayGo : ℕ → Kind → Type 0
MayGo newest (Kind.Intent i) = has_no_hops i.hops ≡ true → i.ticket < newest
MayGo newest k = ⊥

-- a row that an intent left beside its own
abbrev pub is_left : Kind → Bool
is_left (Kind.Intent i) = false
is_left (Kind.ReadLog a) = true
is_left (Kind.Invoke a) = true
is_left (Kind.Data t k n) = false
is_left (Kind.Shadow s t k n) = true
is_left (Kind.Lockset i b t k) = true

-- a row of an item that is not its first
abbrev pub is_behind : Kind → Bool
is_behind (Kind.Intent i) = false
is_behind (Kind.ReadLog a) = false
is_behind (Kind.Invoke a) = false
is_behind (Kind.Data t k n) = nat_lt 0 n
is_behind (Kind.Shadow s t k n) = false
is_behind (Kind.Lockset i b t k) = false

-- a row that it has begun lies past its cursor, and is one that may go; one that it is at on the way there lies below that
abbrev pub IsBegun : ℕ → RowKey → CollectorAt → Type 0
IsBegun newest cursor Before = Unit {0}
IsBegun newest cursor (ToDropIntent k) = (key_cmp cursor k ≡ Less) × MayGo newest k.kind
IsBegun newest cursor (ToLook k) = (key_cmp cursor k ≡ Less) × (is_left k.kind ≡ true)
IsBegun newest cursor (ToDrop k) = (key_cmp cursor k ≡ Less) × (is_left k.kind ≡ true)
IsBegun newest cursor (ToProve k i is) = (key_cmp cursor k ≡ Less) × (is_behind k.kind ≡ true)
IsBegun newest cursor (ToMark k) = (key_cmp cursor k ≡ Less) × (is_behind k.kind ≡ true)
IsBegun newest cursor (ToLead k to at) = (key_cmp cursor k ≡ Less) × (is_behind k.kind ≡ true) × (at < row_of k.kind)
IsBegun newest cursor (ToSkip k to at) = (key_cmp cursor k ≡ Less) × (is_behind k.kind ≡ true) × (at < row_of k.kind)
IsBegun newest cursor (ToDangle k) = (key_cmp cursor k ≡ Less) × (is_behind k.kind ≡ true)
IsBegun newest cursor (ToDropCell k) = (key_cmp cursor k ≡ Less) × (is_behind k.kind ≡ true)

abbrev pub HasCollectorInvariant : ℕ → LogCollector → Type 0
HasCollectorInvariant newest w = IsBegun newest w.cursor w.at

-- so it is of one that stands before a row, or before all; as the newest ticket rises; and after each turn
abbrev pub CollectorsKeepTheInvariant : Type 0
CollectorsKeepTheInvariant = ((newest : ℕ) (k : RowKey) → HasCollectorInvariant newest (past k))
    × ((was newest : ℕ) (w : LogCollector) → was ≤ newest → HasCollectorInvariant was w → HasCollectorInvariant newest w)
    × ((newest life now : ℕ) (w : LogCollector) (m : Rows) → HasCollectorInvariant newest w → HasCollectorInvariant newest (turned newest life now w m))

-- ---- what may go
-- no row is there, or that of an intent which finished more than a life ago
abbrev pub IsOldAt : ℕ → ℕ → Option Row → Type 0
IsOldAt life now None = Unit {0}
IsOldAt life now (Some (Row.Intent i)) = is_past life now i.finish ≡ true
IsOldAt life now (Some r) = ⊥

-- .. so it is of the row of the intent that a row belongs to
pub record IsRecyclable (life now : ℕ) (m : Rows) (k : RowKey) : Type 0 where
  pub intent : IntentId
  pub belongs : belongs_to k.kind ≡ Some intent
  pub old : IsOldAt life now (map.get m (seat_of k intent))

-- a row that an intent left is to go only after a look that found so, in the turn before
abbrev pub OnlyRecyclableRowsAreToGo : Type 0
OnlyRecyclableRowsAreToGo = (newest life now : ℕ) (w : LogCollector) (m : Rows) (k : RowKey) → HasCollectorInvariant newest w → (turned newest life now w m).at ≡ ToDrop k → (w.at ≡ ToLook k) × IsRecyclable life now m k

-- the row that is to go in this turn; an intent's row goes only where it is old now, and an item's where it is adrift for more than a life
abbrev pub GoesNow : ℕ → ℕ → CollectorAt → RowKey → Row → Type 0
GoesNow life now Before k r = ⊥
GoesNow life now (ToDropIntent q) k r = (q ≡ k) × (is_old_row life now r ≡ true)
GoesNow life now (ToLook q) k r = ⊥
GoesNow life now (ToDrop q) k r = q ≡ k
GoesNow life now (ToProve q i is) k r = ⊥
GoesNow life now (ToMark q) k r = ⊥
GoesNow life now (ToLead q to at) k r = ⊥
GoesNow life now (ToSkip q to at) k r = ⊥
GoesNow life now (ToDangle q) k r = ⊥
GoesNow life now (ToDropCell q) k r = (q ≡ k) × (is_adrift life now r ≡ true)

pub record HasRemoved (life now : ℕ) (w : LogCollector) (m n : Rows) : Type 0 where
  pub key : RowKey
  pub row : Row
  pub there : map.get m key ≡ Some row
  pub goes : GoesNow life now w.at key row
  pub gone : n ≡ set_row m key None

-- what is said was done to one row, and to no other; Going leaves all, and Round where none follows the cursor
abbrev pub IsOutputOf : ℕ → ℕ → LogCollector → Rows → Rows → GcOutput → Type 0
IsOutputOf life now w m n Going = n ≡ m
IsOutputOf life now w m n Marked = HasMarked w.at m n
IsOutputOf life now w m n Skipped = HasSkipped w.at m n
IsOutputOf life now w m n Dangled = HasDangled now w.at m n
IsOutputOf life now w m n Removed = HasRemoved life now w m n
IsOutputOf life now w m n Round = (n ≡ m) × (w.at ≡ Before) × (next_row m w.cursor ≡ None)

abbrev pub TurnsSayWhatTheyDid : Type 0
TurnsSayWhatTheyDid = (life now : ℕ) (w : LogCollector) (m : Rows) → IsOutputOf life now w m (rows_turned life now w m) (prune_output w (told life now w m))

-- the newest ticket's row stays as it is
abbrev pub NewestStays : Type 0
NewestStays = (newest life now : ℕ) (w : LogCollector) (m : Rows) → HasCollectorInvariant newest w → map.get (rows_turned life now w m) (root_key newest) ≡ map.get m (root_key newest)

-- ---- each round passes a key once
-- the row that it is at: the one that it has begun, or else the next, if there is one
abbrev pub key_at : CollectorAt → RowKey → Rows → Option RowKey
key_at Before cursor m = option_map (λ e. e.0) (next_row m cursor)
key_at (ToDropIntent k) cursor m = Some k
key_at (ToLook k) cursor m = Some k
key_at (ToDrop k) cursor m = Some k
key_at (ToProve k i is) cursor m = Some k
key_at (ToMark k) cursor m = Some k
key_at (ToLead k to at) cursor m = Some k
key_at (ToSkip k to at) cursor m = Some k
key_at (ToDangle k) cursor m = Some k
key_at (ToDropCell k) cursor m = Some k

abbrev pub begun : CollectorAt → Option RowKey
begun Before = None
begun (ToDropIntent k) = Some k
begun (ToLook k) = Some k
begun (ToDrop k) = Some k
begun (ToProve k i is) = Some k
begun (ToMark k) = Some k
begun (ToLead k to at) = Some k
begun (ToSkip k to at) = Some k
begun (ToDangle k) = Some k
begun (ToDropCell k) = Some k

-- that row lies past the cursor; after the turn the cursor is set to it, or the row is begun and the cursor stands
abbrev pub Passes : LogCollector → LogCollector → Option RowKey → Type 0
Passes w x None = x ≡ first_collector
Passes w x (Some k) = (key_cmp w.cursor k ≡ Less) × ((x ≡ past k) ⊎ ((x.cursor ≡ w.cursor) × (begun x.at ≡ Some k)))

abbrev pub RowsArePassedInOrder : Type 0
RowsArePassedInOrder = (newest life now : ℕ) (w : LogCollector) (m : Rows) → HasCollectorInvariant newest w → Passes w (turned newest life now w m) (key_at w.at w.cursor m)

-- ---- over every table that tells its rows
-- a turn goes so; after an error the rows are as before, a row that was begun is begun anew, and it was not refused as full
abbrev pub TurnedOn : ℕ → ℕ → ℕ → LogCollector → LogCollector → Rows → Rows → Result GcOutput TableErr → Type 0
TurnedOn newest life now w x m n (Ok s) = (x ≡ turned newest life now w m) × (n ≡ rows_turned life now w m) × (s ≡ prune_output w (told life now w m))
TurnedOn newest life now w x m n (Err OutOfMemory) = (x ≡ anew w) × (n ≡ m)
TurnedOn newest life now w x m n (Err Failed) = (x ≡ anew w) × (n ≡ m)
TurnedOn newest life now w x m n (Err (Full live most)) = ⊥

abbrev pub TablesAreTurned : Type 0
TablesAreTurned = (newest life now : ℕ) (w x : LogCollector) (old new : TableState) (r : Result GcOutput TableErr) → Turned (prune_asks life w) now (prune_next newest life now w) (prune_output w) (anew w) x old new r
    → Tells old.rows new.rows (λ m n. TurnedOn newest life now w x m n r)
