-- The intent collector: it goes from row to row, in the order of keys, and finds the intents that have not ended.
use Rattle.std.specs.Prelude.{◌+◌, ◌-◌, ◌^◌, nat_lt, [], Option, Some, None, if◌then◌else◌}
use Rattle.std.specs.Option.{option_map}
use denote.Bor.{Bor}
use Rattle.beldi_value.specs.declared.id.IntentId.{IntentId}
use Rattle.beldi_row.specs.{Key.RowKey, declared.key.Kind.Kind, declared.row.Body.Body, declared.row.Row.Row}
use Rattle.beldi_query.specs.{declared.query.Query.Query, declared.query.Query.TheVariants.After, Query.QueryReply, Query.found}
use Rattle.beldi_intent.specs.Intent.{open_body}
use Rattle.beldi_collect.specs.declared.cursor.Found.{Found, TheVariants.Passed, TheVariants.Unended, TheVariants.Round}

-- the row after the cursor
abbrev pub collect_asks : RowKey → Query
collect_asks cursor = After cursor

-- before the intents of the home that follows; at the last home there is none
abbrev pub next_home : RowKey → RowKey
next_home k = if nat_lt k.home (2 ^ 16 - 1) then record { home = k.home + 1; kind = Kind.Intent (record { ticket = 0; hops = [] }) } else k

-- where the cursor stands after a row: the rows of a home that are no intents are passed at once
abbrev pub passing : RowKey → Kind → RowKey
passing k (Kind.Intent id) = k
passing k other = next_home k

-- the intent of a row, if it has a body and has not ended
abbrev pub open_at : Kind → Row → Option (IntentId × Body)
open_at (Kind.Intent id) (Row.Intent i) = option_map (λ b. (id, b)) (open_body i)
open_at kind r = None

abbrev pub row_output : RowKey → Option (IntentId × Body) → Found
row_output k None = Passed (passing k k.kind)
row_output k (Some e) = Unended k e.0 e.1.func

abbrev pub found_output : Option (RowKey × Row) → Found
found_output None = Round
found_output (Some e) = row_output e.0 (open_at e.0.kind e.1)

abbrev pub collect_output : QueryReply → Found
collect_output (found e) = found_output e
collect_output t = Round

-- an intent, without where it lies in memory
abbrev pub lent_intent : Option (Bor IntentId × Bor Body) → Option (IntentId × Body)
lent_intent None = None
lent_intent (Some e) = Some (e.0.now, e.1.now)
