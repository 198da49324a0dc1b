-- What is made of JSON: the value that it is, or a refusal where a number is no whole number of 64 bits.
use Rattle.std.specs.Prelude.{◌≡◌, ℕ, List, Option, Some, None, Result, Ok, Err}
use Rattle.serde_json.specs.Data as json
use Rattle.beldi_value.specs.{declared.value.Value.Value, declared.convert.ConvertErr.ConvertErr, declared.convert.ConvertErr.TheVariants.OutOfMemory, declared.convert.ConvertErr.TheVariants.NotInt, Datum.Datum, Datum.items_of, Datum.fields_of, Value.datum_of, Json.of_json, Json.of_items, Json.of_members}

-- out of memory is a free answer; the other refusal comes where nothing is read
abbrev pub Refuses : {A : Type 0} → Option A → ConvertErr → Type 0
Refuses read OutOfMemory = Unit {0}
Refuses read NotInt = read ≡ None

abbrev pub ConvertsValue : json.Data → Result Value ConvertErr → Type 0
ConvertsValue d (Ok v) = of_json d ≡ Some (datum_of v)
ConvertsValue d (Err e) = Refuses (of_json d) e

abbrev pub ConvertsItems : json.Items → Result (List Datum) ConvertErr → Type 0
ConvertsItems ds (Ok vs) = of_items ds ≡ Some (items_of vs)
ConvertsItems ds (Err e) = Refuses (of_items ds) e

abbrev pub ConvertsMembers : json.Members → Result (List (List ℕ × Datum)) ConvertErr → Type 0
ConvertsMembers ms (Ok fs) = of_members ms ≡ Some (fields_of fs)
ConvertsMembers ms (Err e) = Refuses (of_members ms) e
