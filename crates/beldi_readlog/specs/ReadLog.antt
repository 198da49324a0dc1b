-- What reads were given, by their places.
use Rattle.std.specs.Prelude.{◌≡◌, ℕ, true, false, Option, Some, None}
use Rattle.std.specs.Option.{option_map}
use Rattle.std.specs.FinMap as map
use Rattle.beldi_value.specs.declared.{value.Value.Value, value.Value.TheVariants.Null, place.Place.Place}
use Rattle.beldi_row.specs.{Key.RowKey, declared.key.Kind.TheVariants.ReadLog, declared.row.Row.Row, declared.act.Act.TheVariants.Look, declared.act.Act.TheVariants.PutRead, Act.here, Act.added, Act.kept, Table.Rows, Table.set_row}
use Rattle.beldi_query.specs.{declared.query.Query.Query, declared.query.Query.TheVariants.Act, Query.QueryReply, Query.replied, Query.may_remove, Query.rows_after, Walk.Promises}
use Rattle.beldi_readlog.specs.declared.read_log.{Kept.Kept, Given.Given, Keep.Keep}

-- the row of what the read of a function at a place was given
abbrev pub log_key : ℕ → Place → RowKey
log_key home place = record { home = home; kind = ReadLog place }

-- the value that a row says was given: a row of another kind says null
abbrev pub given_in : Row → Value
given_in (Row.ReadLog v) = v
given_in r = Null

-- the value that was given, none where there is no row
abbrev pub given : Rows → RowKey → Option Value
given m k = option_map given_in (map.get m k)

-- ---- what is asked, and the answers by what was told
abbrev pub given_asks : ℕ → Place → Query
given_asks home p = Act (log_key home p) Look

abbrev pub given_of : QueryReply → Option Value
given_of (replied (here r)) = Some (given_in r)
given_of t = None

abbrev pub keep_asks : ℕ → Place → Value → Query
keep_asks home p v = Act (log_key home p) (PutRead v)

abbrev pub kept_of : Value → QueryReply → Kept
kept_of v (replied added) = record { value = v; added = true }
kept_of v (replied (kept w)) = record { value = w; added = false }
kept_of v t = record { value = Null; added = false }

-- ---- as walks, which stand where they stood
abbrev pub look_asks : Given → Query
look_asks w = given_asks w.home w.at

abbrev pub look_next : Given → QueryReply → Given
look_next w t = w

abbrev pub look_output : Given → QueryReply → Option Value
look_output w t = given_of t

abbrev pub put_asks : Keep → Query
put_asks w = keep_asks w.home w.at w.value

abbrev pub put_next : Keep → QueryReply → Keep
put_next w t = w

-- the value that was there, none where this one was put
abbrev pub put_output : Keep → QueryReply → Option Value
put_output w (replied added) = None
put_output w (replied (kept v)) = Some v
put_output w t = Some Null

abbrev pub kept_so : Value → Option Value → Kept
kept_so v None = record { value = v; added = true }
kept_so v (Some w) = record { value = w; added = false }

-- ---- what the calls promise
-- what was given is told, and all rows stay
abbrev pub GetGives : Type 0
GetGives = (home : ℕ) (at : Place) (now : ℕ) → Promises (given_asks home at) now given_of (λ m n r. (n ≡ m) × (r ≡ given m (log_key home at)))

-- where no row was, the value is put; where one was, what it says was given is told, and all rows stay
abbrev pub PutOn : Value → RowKey → Option Row → Rows → Rows → Kept → Type 0
PutOn v k None m n r = (n ≡ set_row m k (Some (Row.ReadLog v))) × (r ≡ record { value = v; added = true })
PutOn v k (Some w) m n r = (n ≡ m) × (r ≡ record { value = given_in w; added = false })

abbrev pub ValuesArePutOnce : Type 0
ValuesArePutOnce = (home : ℕ) (at : Place) (v : Value) (now : ℕ) → let k = log_key home at in
    Promises (keep_asks home at v) now (kept_of v) (λ m. PutOn v k (map.get m k) m)

-- a row of what a read was given is as it was
abbrev pub IsKept : Option Row → Option Row → Type 0
IsKept r s = (v : Value) → r ≡ Some (Row.ReadLog v) → s ≡ Some (Row.ReadLog v)

-- whatever is asked of a table, wherever, but that a row goes: what a read was given stays
abbrev pub ValuesStay : Type 0
ValuesStay = (q : Query) → may_remove q ≡ false → (now : ℕ) (m : Rows) (k : RowKey) → IsKept (map.get m k) (map.get (rows_after q now m) k)
