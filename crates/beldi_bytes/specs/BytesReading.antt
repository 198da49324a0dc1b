-- What is read of values and rows.
use Rattle.std.specs.Prelude.{◌≡◌, ℕ, Bool, Option, List, [], ◌∷◌, ◌++◌, length, Result, Ok, Err}
use Rattle.beldi_value.specs.Datum.{Datum, null, items_of, fields_of, IsRecord}
use Rattle.beldi_value.specs.{declared.value.Value.Value, Formed.IsFormed, Formed.AreFormed, Formed.HaveForm, Value.datum_of}
use Rattle.beldi_bytes.specs.declared.cursor.ReadErr.{ReadErr}
use Rattle.beldi_bytes.specs.Coding.{Refuses, truth_bytes, option_bytes, IfThere}
use Rattle.beldi_bytes.specs.KeyBytes.{four}
use Rattle.beldi_bytes.specs.RowBytes.{eight, IsMoment, str_bytes, datum_bytes, items_bytes, fields_bytes, IsIntent, IntentInTime, IsCell, CellInTime, IsRow, IsInTime}
use Rattle.beldi_row.specs.{declared.row.Cell.Cell, declared.row.IntentRow.IntentRow, declared.row.Row.Row}

-- a value, read off the front
abbrev pub ReadsValue : List ℕ → List ℕ → Result Value ReadErr → Type 0
ReadsValue old new (Ok v) = (old ≡ datum_bytes (datum_of v) new) × IsFormed (datum_of v)
ReadsValue old new (Err why) = Refuses datum_bytes IsFormed old why

-- the items of a list
abbrev pub list_bytes : List Datum → List ℕ → List ℕ
list_bytes ds s = items_bytes (items_of ds) s

-- they, after their number
abbrev pub counted_items : List Datum → List ℕ → List ℕ
counted_items ds s = four (length ds) (list_bytes ds s)

-- the items of a list, whose parts are as their types keep them
abbrev pub AreItems : List Datum → Type 0
AreItems ds = AreFormed (items_of ds)

-- the fields of a record
abbrev pub record_bytes : List (List ℕ × Datum) → List ℕ → List ℕ
record_bytes fs s = fields_bytes (fields_of fs) s

-- they, after their number
abbrev pub counted_fields : List (List ℕ × Datum) → List ℕ → List ℕ
counted_fields fs s = four (length fs) (record_bytes fs s)

-- the fields of a record, whose keys rise
abbrev pub AreFields : List (List ℕ × Datum) → Type 0
AreFields fs = IsRecord fs × HaveForm (fields_of fs)

-- one field: its key, and its value
abbrev pub field_bytes : List ℕ × Datum → List ℕ → List ℕ
field_bytes f s = str_bytes f.0 (datum_bytes f.1 s)

-- a key above those of the fields
abbrev pub IsNext : List (List ℕ × Datum) → List ℕ → Type 0
IsNext fs k = IsRecord (fs ++ (k, null) ∷ [])

-- a field that may stand behind those
abbrev pub FitsBehind : List (List ℕ × Datum) → List ℕ × Datum → Type 0
FitsBehind fs f = IsNext fs f.0 × HaveForm (fields_of (f ∷ []))

-- a field, read off the front and put behind those that were read
abbrev pub ReadsField : List (List ℕ × Datum) → List (List ℕ × Datum) → List ℕ → List ℕ → Result (Unit {0}) ReadErr → Type 0
ReadsField before after old new (Ok u) = (f : List ℕ × Datum) × (old ≡ field_bytes f new) × FitsBehind before f × (after ≡ before ++ f ∷ [])
ReadsField before after old new (Err why) = Refuses field_bytes (FitsBehind before) old why

-- an intent whose moments are at most 2 ^ 62
abbrev pub IsIntentInTime : IntentRow → Type 0
IsIntentInTime i = IsIntent i × IntentInTime i

-- a row of an item, so
abbrev pub IsCellInTime : Cell → Type 0
IsCellInTime c = IsCell c × CellInTime c

-- a row, so
abbrev pub IsRowInTime : Row → Type 0
IsRowInTime r = IsRow r × IsInTime r

-- the end of a cell: the row after it, whether it is marked, and since when no row leads to it
abbrev pub links_bytes : Option ℕ × Bool × Option ℕ → List ℕ → List ℕ
links_bytes l s = option_bytes four l.0 (truth_bytes l.1 (option_bytes eight l.2 s))

-- its moment
abbrev pub AreLinks : Option ℕ × Bool × Option ℕ → Type 0
AreLinks l = IfThere IsMoment l.2
