-- The bytes of a row.
use Rattle.std.specs.Prelude.{◌≡◌, ◌<◌, ◌≤◌, ◌^◌, ℕ, ℤ, pos, negsuc, ◌/◌, ◌%◌, List, [], ◌∷◌, ◌++◌, length, Option, Some, None}
use lib.Signed.{mag}
use Rattle.beldi_value.specs.Datum.{Datum, Datums, Fields, null, boolean, int, text, list, fields, no_items, item, no_fields, field}
use Rattle.beldi_value.specs.{declared.outcome.Cause.Cause, declared.outcome.Code.Code, declared.outcome.Outcome.Outcome, declared.outcome.Outcome.TheVariants.Value as Gives, declared.outcome.Outcome.TheVariants.Fault, declared.outcome.Outcome.TheVariants.Aborted, declared.place.Caller.Caller, declared.place.Owner.Owner, declared.place.Owner.TheVariants.Intent as OfIntent, declared.place.Owner.TheVariants.Tx as OfTx, declared.place.Place.Place, declared.value.Value.Value, Formed.IsFormed, Injective.list_of, Injective.pairs_of, Value.datum_of}
use Rattle.beldi_value.specs.declared.outcome.Code.TheVariants.{WrongType, Overflow, DivideByZero, Steps, LocksHeld, ValueTooLarge, NoTx}
use Rattle.beldi_row.specs.{declared.notes.Note.Note, declared.row.Body.Body, declared.row.Cell.Cell, declared.row.IntentRow.IntentRow, declared.row.InvokeRow.InvokeRow, declared.row.Row.Row, Log.most_entries}
use Rattle.beldi_row.specs.declared.notes.Note.TheVariants.{Wrote, Cond, Got, Died, Freed}
use Rattle.beldi_row.specs.declared.row.Row.TheVariants.{Intent, ReadLog, Invoke, Cell as OfCell, Lockset}
use Rattle.beldi_bytes.specs.Coding.{truth_bytes, option_bytes, IfThere}
use Rattle.beldi_bytes.specs.KeyBytes.{two, four, id_bytes, place_bytes, tx_bytes, IsId, IsPlace, IsTx}

-- each part stands before the bytes that follow it
-- a number in eight bytes, the greatest first
abbrev pub eight : ℕ → List ℕ → List ℕ
eight n s = four (n / 4294967296) (four (n % 4294967296) s)

-- a whole number: whether it is below 0, and then n for n, or for -(n + 1)
abbrev pub int_bytes : ℤ → List ℕ → List ℕ
int_bytes (pos n) s = 0 ∷ eight n s
int_bytes (negsuc n) s = 1 ∷ eight n s

-- a text, after its length
abbrev pub str_bytes : List ℕ → List ℕ → List ℕ
str_bytes t s = four (length t) (t ++ s)

-- a value, by its structure: lists and records after the number of their parts
abbrev mutual
  pub datum_bytes : Datum → List ℕ → List ℕ
  datum_bytes null s = 0 ∷ s
  datum_bytes (boolean b) s = 1 ∷ truth_bytes b s
  datum_bytes (int z) s = 2 ∷ int_bytes z s
  datum_bytes (text t) s = 3 ∷ str_bytes t s
  datum_bytes (list ds) s = 4 ∷ four (length (list_of ds)) (items_bytes ds s)
  datum_bytes (fields fs) s = 5 ∷ four (length (pairs_of fs)) (fields_bytes fs s)

  pub items_bytes : Datums → List ℕ → List ℕ
  items_bytes no_items s = s
  items_bytes (item d ds) s = datum_bytes d (items_bytes ds s)

  pub fields_bytes : Fields → List ℕ → List ℕ
  fields_bytes no_fields s = s
  fields_bytes (field k d fs) s = str_bytes k (datum_bytes d (fields_bytes fs s))

-- what a value stands for
abbrev pub value_bytes : Value → List ℕ → List ℕ
value_bytes v s = datum_bytes (datum_of v) s

-- the number of a fault
abbrev pub code_of : Code → ℕ
code_of WrongType = 0
code_of Overflow = 1
code_of DivideByZero = 2
code_of Steps = 3
code_of LocksHeld = 4
code_of ValueTooLarge = 5
code_of NoTx = 6

-- a fault, as its number
abbrev pub code_bytes : Code → List ℕ → List ℕ
code_bytes c s = code_of c ∷ s

-- why a transaction was aborted: the place, and the owner that stood in the way
abbrev pub cause_bytes : Cause → List ℕ → List ℕ
cause_bytes c s = place_bytes c.place (option_bytes id_bytes c.holder s)

-- an outcome: 0 and the value, 1 and the fault, or 2 and the cause
abbrev pub outcome_bytes : Outcome → List ℕ → List ℕ
outcome_bytes (Gives v) s = 0 ∷ value_bytes v s
outcome_bytes (Fault c) s = 1 ∷ code_bytes c s
outcome_bytes (Aborted c) s = 2 ∷ cause_bytes c s

-- a caller: the place of the call, the function, and whether it waits
abbrev pub caller_bytes : Caller → List ℕ → List ℕ
caller_bytes c s = place_bytes c.place (two c.func (truth_bytes c.waits s))

-- an owner: 0 and the intent, or 1 and the transaction
abbrev pub owner_bytes : Owner → List ℕ → List ℕ
owner_bytes (OfIntent a) s = 0 ∷ id_bytes a s
owner_bytes (OfTx x) s = 1 ∷ tx_bytes x s

-- a note: its number, and what it has
abbrev pub note_bytes : Note → List ℕ → List ℕ
note_bytes Wrote s = 0 ∷ s
note_bytes (Cond b) s = 1 ∷ truth_bytes b s
note_bytes Got s = 2 ∷ s
note_bytes (Died a) s = 3 ∷ id_bytes a s
note_bytes Freed s = 4 ∷ s

-- an entry of a log: the place, and the note
abbrev pub entry_bytes : Place × Note → List ℕ → List ℕ
entry_bytes e s = place_bytes e.0 (note_bytes e.1 s)

-- entries, one after another
abbrev pub entries_bytes : List (Place × Note) → List ℕ → List ℕ
entries_bytes [] s = s
entries_bytes (e ∷ es) s = entry_bytes e (entries_bytes es s)

-- a log, after the number of its entries
abbrev pub log_bytes : List (Place × Note) → List ℕ → List ℕ
log_bytes es s = four (length es) (entries_bytes es s)

-- what an instance is to do: the function, its arguments, the transaction and the caller
abbrev pub body_bytes : Body → List ℕ → List ℕ
body_bytes b s = two b.func (value_bytes b.args (option_bytes tx_bytes b.tx (option_bytes caller_bytes b.parent s)))

-- an intent: when it was issued, its body, its outcome, and when it was finished
abbrev pub intent_bytes : IntentRow → List ℕ → List ℕ
intent_bytes i s = eight i.issued (option_bytes body_bytes i.body (option_bytes outcome_bytes i.outcome (option_bytes eight i.finish s)))

-- a call: the function, what it gave back, and whether it was registered
abbrev pub invoke_bytes : InvokeRow → List ℕ → List ℕ
invoke_bytes i s = two i.func (option_bytes outcome_bytes i.result (truth_bytes i.registered s))

-- a row of an item: its value, its owner, its log, the row after it, whether it is marked, and since when no row leads to it
abbrev pub cell_bytes : Cell → List ℕ → List ℕ
cell_bytes c s =
    value_bytes c.value (option_bytes owner_bytes c.owner (log_bytes c.log (option_bytes four c.next (truth_bytes c.marked (option_bytes eight c.dangled s)))))

-- a row: the number of its kind, and its fields in their order
abbrev pub row_then : Row → List ℕ → List ℕ
row_then (Intent i) s = 0 ∷ intent_bytes i s
row_then (ReadLog v) s = 1 ∷ value_bytes v s
row_then (Invoke i) s = 2 ∷ invoke_bytes i s
row_then (OfCell c) s = 3 ∷ cell_bytes c s
row_then Lockset s = 4 ∷ s

-- the bytes of a row
abbrev pub row_bytes : Row → List ℕ
row_bytes r = row_then r []

-- what the types of rows keep: whole numbers have 64 bits, texts are UTF-8, the keys of records rise, an id has at most 63 hops, a log at most eight entries
-- a whole number of 64 bits
abbrev pub IsInt : ℤ → Type 0
IsInt z = mag z < 2 ^ 63

-- a value
abbrev pub IsValue : Value → Type 0
IsValue v = IsFormed (datum_of v)

-- a cause
abbrev pub IsCause : Cause → Type 0
IsCause c = IsPlace c.place × IfThere IsId c.holder

-- an outcome
abbrev pub IsOutcome : Outcome → Type 0
IsOutcome (Gives v) = IsValue v
IsOutcome (Fault c) = Unit {0}
IsOutcome (Aborted c) = IsCause c

-- a caller
abbrev pub IsCaller : Caller → Type 0
IsCaller c = IsPlace c.place

-- an owner
abbrev pub IsOwner : Owner → Type 0
IsOwner (OfIntent a) = IsId a
IsOwner (OfTx x) = IsTx x

-- a note
abbrev pub IsNote : Note → Type 0
IsNote Wrote = Unit {0}
IsNote (Cond b) = Unit {0}
IsNote Got = Unit {0}
IsNote (Died a) = IsId a
IsNote Freed = Unit {0}

-- an entry of a log
abbrev pub IsEntry : Place × Note → Type 0
IsEntry e = IsPlace e.0 × IsNote e.1

-- the entries of a log
abbrev pub AreEntries : List (Place × Note) → Type 0
AreEntries [] = Unit {0}
AreEntries (e ∷ es) = IsEntry e × AreEntries es

-- a log has at most eight entries
abbrev pub IsLog : List (Place × Note) → Type 0
IsLog es = (length es ≤ most_entries) × AreEntries es

-- a body
abbrev pub IsBody : Body → Type 0
IsBody b = IsValue b.args × IfThere IsTx b.tx × IfThere IsCaller b.parent

-- an intent
abbrev pub IsIntent : IntentRow → Type 0
IsIntent i = IfThere IsBody i.body × IfThere IsOutcome i.outcome

-- a call
abbrev pub IsInvoke : InvokeRow → Type 0
IsInvoke i = IfThere IsOutcome i.result

-- a row of an item
abbrev pub IsCell : Cell → Type 0
IsCell c = IsValue c.value × IfThere IsOwner c.owner × IsLog c.log

-- a row: every row that a program has is one
abbrev pub IsRow : Row → Type 0
IsRow (Intent i) = IsIntent i
IsRow (ReadLog v) = IsValue v
IsRow (Invoke i) = IsInvoke i
IsRow (OfCell c) = IsCell c
IsRow Lockset = Unit {0}

-- a moment is at most 2 ^ 62
abbrev pub IsMoment : ℕ → Type 0
IsMoment n = n ≤ 2 ^ 62

-- the moments of an intent
abbrev pub IntentInTime : IntentRow → Type 0
IntentInTime i = IsMoment i.issued × IfThere IsMoment i.finish

-- the moment of a row of an item
abbrev pub CellInTime : Cell → Type 0
CellInTime c = IfThere IsMoment c.dangled

-- the moments of a row are at most 2 ^ 62
abbrev pub IsInTime : Row → Type 0
IsInTime (Intent i) = IntentInTime i
IsInTime (ReadLog v) = Unit {0}
IsInTime (Invoke i) = Unit {0}
IsInTime (OfCell c) = CellInTime c
IsInTime Lockset = Unit {0}

-- what reading gives: the row that has these bytes, or none where no row has them
abbrev pub ReadsRow : List ℕ → Option Row → Type 0
ReadsRow bytes (Some r) = (row_bytes r ≡ bytes) × IsRow r × IsInTime r
ReadsRow bytes None = (r : Row) → IsRow r → IsInTime r → row_bytes r ≡ bytes → ⊥

-- rows with the same bytes are one
abbrev pub NoTwoRowsHaveOneBytes : Type 0
NoTwoRowsHaveOneBytes = (r s : Row) → row_bytes r ≡ row_bytes s → r ≡ s

-- a row that was written is read again
abbrev pub WrittenRowsAreRead : Type 0
WrittenRowsAreRead = (r : Row) (o : Option Row) → IsRow r → IsInTime r → ReadsRow (row_bytes r) o → o ≡ Some r

-- a row with a moment above 2 ^ 62 is not read, though it has bytes
abbrev pub LateRowsAreNotRead : Type 0
LateRowsAreNotRead = (r : Row) (o : Option Row) → (IsInTime r → ⊥) → ReadsRow (row_bytes r) o → o ≡ None
