-- The intent collector as a walk of its own, and what its turns say.
use Rattle.std.specs.Prelude.{◌≡◌, ℕ, false, Option, Some, None, Ok}
use Rattle.std.specs.declared.cmp.Ordering.TheVariants.{Less}
use Rattle.beldi_value.specs.declared.id.IntentId.{IntentId}
use Rattle.beldi_row.specs.{Key.RowKey, Key.key_cmp, Key.least_key, declared.row.Body.Body, declared.row.IntentRow.IntentRow, declared.row.Row.Row, Table.Rows, Table.TableState, Table.Tells, Table.next_row, declared.key.Kind.Kind}
use Rattle.beldi_query.specs.{declared.query.Query.Query, Query.QueryReply, Query.found, Walk.Turned}
use Rattle.beldi_intent.specs.Intent.{is_ended}
use Rattle.beldi_collect.specs.{Collect.collect_asks, Collect.collect_output, Collect.open_at, Collect.passing, declared.cursor.Found.Found, declared.intent_cursor.IcOutput.IcOutput, declared.intent_cursor.IcOutput.TheVariants.Passed, declared.intent_cursor.IcOutput.TheVariants.Unended, declared.intent_cursor.IcOutput.TheVariants.Round, declared.intent_cursor.IntentCursor.IntentCursor}

abbrev pub first_cursor : IntentCursor
first_cursor = record { at = least_key; kept = None }

abbrev pub cursor_asks : IntentCursor → Query
cursor_asks c = collect_asks c.at

-- before an intent that has not ended it stands, and keeps the key of its row
abbrev pub goes_on : IntentCursor → Found → IntentCursor
goes_on c (Found.Passed k) = record { at = k; kept = None }
goes_on c (Found.Unended k id f) = record { at = c.at; kept = Some k }
goes_on c Found.Round = first_cursor

abbrev pub cursor_next : IntentCursor → QueryReply → IntentCursor
cursor_next c t = goes_on c (collect_output t)

abbrev pub open_output : Option (IntentId × Body) → IcOutput
open_output None = Passed
open_output (Some e) = Unended e.0 e.1

abbrev pub row_told : Option (RowKey × Row) → IcOutput
row_told None = Round
row_told (Some e) = open_output (open_at e.0.kind e.1)

abbrev pub cursor_output : IntentCursor → QueryReply → IcOutput
cursor_output c (found e) = row_told e
cursor_output c t = Round

-- ---- what a turn promises
-- the row is that of an intent which has a body and has not ended
pub record IsUnended (k : RowKey) (r : Row) (id : IntentId) (b : Body) : Type 0 where
  pub intent : IntentRow
  pub key : k.kind ≡ Kind.Intent id
  pub row : r ≡ Row.Intent intent
  pub lasts : is_ended intent ≡ false
  pub body : intent.body ≡ Some b

-- by the row after the cursor
abbrev pub IsOutputOf : IntentCursor → IntentCursor → Rows → IcOutput → Type 0
IsOutputOf c x m Passed = (e : RowKey × Row) × (next_row m c.at ≡ Some e) × (x.at ≡ passing e.0 e.0.kind) × ((id : IntentId) (b : Body) → IsUnended e.0 e.1 id b → ⊥)
IsOutputOf c x m (Unended id b) = (e : RowKey × Row) × (next_row m c.at ≡ Some e) × IsUnended e.0 e.1 id b × (x.at ≡ c.at) × (x.kept ≡ Some e.0)
IsOutputOf c x m Round = (next_row m c.at ≡ None) × (x ≡ first_cursor)

pub record CursorTurn (c x : IntentCursor) (m n : Rows) (s : IcOutput) : Type 0 where
  pub rows : n ≡ m
  pub said : IsOutputOf c x m s

-- so it is of each turn that says something, over every table that tells its rows
abbrev pub NextIntentIsTold : Type 0
NextIntentIsTold = (c x : IntentCursor) (now : ℕ) (old new : TableState) (s : IcOutput) → Turned (cursor_asks c) now (cursor_next c) (cursor_output c) c x old new (Ok s)
    → Tells old.rows new.rows (λ m n. CursorTurn c x m n s)

-- between a row and where the cursor is set past it no intent has its key
abbrev pub NoIntentIsJumped : Type 0
NoIntentIsJumped = (k q : RowKey) (id : IntentId) → key_cmp k q ≡ Less → key_cmp q (passing k k.kind) ≡ Less → q.kind ≡ Kind.Intent id → ⊥
