-- The log collector: it goes from row to row, in the order of keys, and removes rows of intents that are old.
use Rattle.std.specs.Prelude.{ℕ, nat_lt, Bool, true, false, not, ◌&&◌, List, [], ◌∷◌, Option, Some, None, if◌then◌else◌}
use Rattle.beldi_value.specs.{Id.has_no_hops, declared.id.IntentId.IntentId}
use Rattle.beldi_row.specs.Act.{absent, here, is_past, is_old_row}
use Rattle.beldi_row.specs.declared.act.Act.TheVariants.{Look, DropIntent, DropRow, MarkCell, SkipCell, DangleCell, DropCell}
use Rattle.beldi_row.specs.{Key.RowKey, Key.at_row, Key.least_key, Key.row_of, declared.key.Kind.Kind, declared.row.Row.Row}
use Rattle.beldi_query.specs.{declared.query.Query.Query, declared.query.Query.TheVariants.Act, declared.query.Query.TheVariants.After, Query.QueryReply, Query.replied, Query.found}
use Rattle.beldi_intent.specs.Intent.{intent_key}
use Rattle.beldi_prune.specs.{Seat.seat, Unlink.is_did, Unlink.lead_to, Unlink.row_todo, Unlink.told_marked, Unlink.told_next}
use Rattle.beldi_prune.specs.declared.collector.{LogCollector.LogCollector, GcOutput.GcOutput, GcOutput.TheVariants.Going, GcOutput.TheVariants.Marked, GcOutput.TheVariants.Skipped, GcOutput.TheVariants.Dangled, GcOutput.TheVariants.Removed, GcOutput.TheVariants.Round}
use Rattle.beldi_prune.specs.declared.found.Todo.{Todo, TheVariants.Pass, TheVariants.DropIt, TheVariants.LookAt, TheVariants.DropAdrift, TheVariants.LeadPast, TheVariants.Prove}
use Rattle.beldi_prune.specs.declared.collector.CollectorAt.{CollectorAt, TheVariants.Before, TheVariants.ToDropIntent, TheVariants.ToLook, TheVariants.ToDrop, TheVariants.ToProve, TheVariants.ToMark, TheVariants.ToLead, TheVariants.ToSkip, TheVariants.ToDangle, TheVariants.ToDropCell}

-- ---- where it stands
-- before all rows
abbrev pub first_collector : LogCollector
first_collector = record { cursor = least_key; at = Before }

abbrev pub is_before : CollectorAt → Bool
is_before Before = true
is_before a = false

-- past a row that it is done with
abbrev pub past : RowKey → LogCollector
past k = record { cursor = k; at = Before }

-- a row that it has begun it begins anew
abbrev pub anew : LogCollector → LogCollector
anew w = past w.cursor

-- ---- what it asks, by the life
abbrev pub at_asks : ℕ → RowKey → CollectorAt → Query
at_asks life cursor Before = After cursor
at_asks life cursor (ToDropIntent k) = Act k (DropIntent life)
at_asks life cursor (ToLook k) = Act (seat k) Look
at_asks life cursor (ToDrop k) = Act k DropRow
at_asks life cursor (ToProve k i is) = Act (intent_key i k.home) Look
at_asks life cursor (ToMark k) = Act k MarkCell
at_asks life cursor (ToLead k to at) = Act (at_row k at) Look
at_asks life cursor (ToSkip k to at) = Act (at_row k at) (SkipCell (row_of k.kind) to)
at_asks life cursor (ToDangle k) = Act k DangleCell
at_asks life cursor (ToDropCell k) = Act k (DropCell life)

abbrev pub prune_asks : ℕ → LogCollector → Query
prune_asks life w = at_asks life w.cursor w.at

-- ---- what is to be done with a row, by its kind
-- the root of the newest ticket, or of one that was not issued
abbrev pub is_newest : ℕ → IntentId → Bool
is_newest newest i = has_no_hops i.hops && not (nat_lt i.ticket newest)

-- an intent's row goes where it is old, but not that of the newest ticket; a row of an item by its cell; of any other the intent is looked at
abbrev pub todo_of : ℕ → ℕ → ℕ → Kind → Row → Todo
todo_of newest life now (Kind.Intent i) r = if not (is_newest newest i) && is_old_row life now r then DropIt else Pass
todo_of newest life now (Kind.ReadLog a) r = LookAt
todo_of newest life now (Kind.Invoke a) r = LookAt
todo_of newest life now (Kind.Data t k n) r = row_todo n life now r
todo_of newest life now (Kind.Shadow s t k n) r = LookAt
todo_of newest life now (Kind.Lockset i b t k) r = LookAt

-- the cursor stands before a row that is begun
abbrev pub stand : RowKey → CollectorAt → LogCollector
stand cursor a = record { cursor = cursor; at = a }

-- by the intents that are left to be looked at: where there is none, the row is to be marked
abbrev pub to_prove : RowKey → List IntentId → CollectorAt
to_prove k [] = ToMark k
to_prove k (i ∷ is) = ToProve k i is

abbrev pub begins : RowKey → RowKey → Todo → LogCollector
begins cursor k Pass = past k
begins cursor k DropIt = stand cursor (ToDropIntent k)
begins cursor k LookAt = stand cursor (ToLook k)
begins cursor k DropAdrift = stand cursor (ToDropCell k)
begins cursor k (LeadPast to) = stand cursor (ToLead k to 0)
begins cursor k (Prove is) = stand cursor (to_prove k is)

abbrev pub row_next : ℕ → ℕ → ℕ → RowKey → Option (RowKey × Row) → LogCollector
row_next newest life now cursor None = first_collector
row_next newest life now cursor (Some e) = begins cursor e.0 (todo_of newest life now e.0.kind e.1)

-- ---- what a look at an intent's row tells: it is gone, or finished more than a life ago
abbrev pub is_past_row : ℕ → ℕ → Row → Bool
is_past_row life now (Row.Intent i) = is_past life now i.finish
is_past_row life now r = false

abbrev pub is_recyclable : ℕ → ℕ → QueryReply → Bool
is_recyclable life now (replied absent) = true
is_recyclable life now (replied (here r)) = is_past_row life now r
is_recyclable life now t = false

-- .. then it is at this, and else it is done with the row
abbrev pub stand_if : RowKey → RowKey → CollectorAt → Bool → LogCollector
stand_if cursor k a true = stand cursor a
stand_if cursor k a false = past k

-- ---- what follows of the acts that lead past a row
-- it is marked, so the rows of the item are looked at, from the first
abbrev pub marked_next : RowKey → RowKey → Option ℕ → LogCollector
marked_next cursor k None = past k
marked_next cursor k (Some to) = stand cursor (ToLead k to 0)

-- the row that was looked at leads on so, or is absent
abbrev pub led_next : RowKey → RowKey → ℕ → ℕ → Option (Option ℕ) → LogCollector
led_next cursor k to at None = past k
led_next cursor k to at (Some next) = stand cursor (lead_to k to at next)

-- ---- where it stands then, by the newest ticket, the life and the moment
abbrev pub before_next : ℕ → ℕ → ℕ → RowKey → QueryReply → LogCollector
before_next newest life now cursor (found e) = row_next newest life now cursor e
before_next newest life now cursor t = first_collector

abbrev pub at_next : ℕ → ℕ → ℕ → RowKey → CollectorAt → QueryReply → LogCollector
at_next newest life now cursor Before t = before_next newest life now cursor t
at_next newest life now cursor (ToDropIntent k) t = past k
at_next newest life now cursor (ToLook k) t = stand_if cursor k (ToDrop k) (is_recyclable life now t)
at_next newest life now cursor (ToDrop k) t = past k
at_next newest life now cursor (ToProve k i is) t = stand_if cursor k (to_prove k is) (is_recyclable life now t)
at_next newest life now cursor (ToMark k) t = marked_next cursor k (told_marked t)
at_next newest life now cursor (ToLead k to at) t = led_next cursor k to at (told_next t)
at_next newest life now cursor (ToSkip k to at) t = stand_if cursor k (ToDangle k) (is_did t)
at_next newest life now cursor (ToDangle k) t = past k
at_next newest life now cursor (ToDropCell k) t = past k

abbrev pub prune_next : ℕ → ℕ → ℕ → LogCollector → QueryReply → LogCollector
prune_next newest life now w t = at_next newest life now w.cursor w.at t

-- ---- what it says
-- this, only where the act says that it did so
abbrev pub output_if : GcOutput → Bool → GcOutput
output_if s true = s
output_if s false = Going

abbrev pub mark_output : Option ℕ → GcOutput
mark_output None = Going
mark_output (Some to) = Marked

abbrev pub before_output : QueryReply → GcOutput
before_output (found (Some e)) = Going
before_output t = Round

abbrev pub at_output : CollectorAt → QueryReply → GcOutput
at_output Before t = before_output t
at_output (ToDropIntent k) t = output_if Removed (is_did t)
at_output (ToLook k) t = Going
at_output (ToDrop k) t = output_if Removed (is_did t)
at_output (ToProve k i is) t = Going
at_output (ToMark k) t = mark_output (told_marked t)
at_output (ToLead k to at) t = Going
at_output (ToSkip k to at) t = output_if Skipped (is_did t)
at_output (ToDangle k) t = output_if Dangled (is_did t)
at_output (ToDropCell k) t = output_if Removed (is_did t)

abbrev pub prune_output : LogCollector → QueryReply → GcOutput
prune_output w t = at_output w.at t
