-- What a store of rows does.
use Rattle.std.specs.Prelude.{◌≡◌, Bool, true, false, Option, Result, Ok, Err, IfSome, IfOk}
use Rattle.std.specs.Option.{option_map}
use Rattle.std.specs.FinMap as map
use Rattle.beldi_row.specs.{Key.RowKey, Table.Rows, Table.next_row, declared.row.Row.Row}

-- the row with a key was looked for: where rows are told it is the one, and none where no row has the key
abbrev pub Reads : {E : Type 0} → RowKey → Option Rows → Result (Option Row) E → Type 0
Reads k told result = IfOk result (λ r. IfSome told (λ m. r ≡ map.get m k))

-- this is the first row past a key, where rows are told
abbrev pub Stepped : RowKey → Option Rows → Option (RowKey × Row) → Type 0
Stepped k told found = IfSome told (λ m. found ≡ next_row m k)

-- the first row past a key was looked for
abbrev pub Steps : {E : Type 0} → RowKey → Option Rows → Result (Option (RowKey × Row)) E → Type 0
Steps k told result = IfOk result (Stepped k told)

-- the rows after a row was to be written: with the row at the key, or as before where it was refused
abbrev pub written : {E : Type 0} → RowKey → Row → Result Unit E → Option Rows → Option Rows
written k r (Ok u) told = option_map (λ m. map.insert m k r) told
written k r (Err e) told = told

-- the rows after the row with a key was to be removed: without it, or as before where that was refused
abbrev pub without : {E : Type 0} → RowKey → Result Unit E → Option Rows → Option Rows
without k (Ok u) told = option_map (λ m. map.remove m k) told
without k (Err e) told = told

-- the rows after an act on a row that is there, by whether the act leaves it
abbrev pub settled : {E : Type 0} → Bool → RowKey → Row → Result Unit E → Option Rows → Option Rows
settled true k r result told = told
settled false k r result told = written k r result told
