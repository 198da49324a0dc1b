-- The canonical text of a value, by what `serde_json` writes.
use Rattle.std.specs.Prelude.{ℕ, ℤ, pos, negsuc, List, Option, Some, option_map, option_and_then}
use Rattle.serde_json.specs.{Written.compact_text, Find.as_i64}
use Rattle.serde_json.specs.Data as json
use Rattle.beldi_value.specs.Datum.{Datum, null, boolean, int, text, list, fields, Datums, no_items, item, Fields, no_fields, field}

abbrev pub number_of : ℤ → json.Num
number_of (pos n) = json.unsigned n
number_of (negsuc n) = json.negative (negsuc n)

-- the JSON that a value is
abbrev mutual
  pub json_of : Datum → json.Data
  json_of null = json.null
  json_of (boolean b) = json.boolean b
  json_of (int z) = json.number (number_of z)
  json_of (text s) = json.string s
  json_of (list ds) = json.array (json_items ds)
  json_of (fields fs) = json.object (json_fields fs)

  pub json_items : Datums → json.Items
  json_items no_items = json.no_items
  json_items (item d ds) = json.item (json_of d) (json_items ds)

  pub json_fields : Fields → json.Members
  json_fields no_fields = json.no_members
  json_fields (field k d fs) = json.member k (json_of d) (json_fields fs)

-- the canonical text
abbrev pub text_of : Datum → List ℕ
text_of d = compact_text (json_of d)

-- a whole number of 64 bits with a sign
abbrev pub int_of : json.Num → Option ℤ
int_of n = as_i64 n

-- the value that JSON is, where its numbers are such whole numbers
abbrev mutual
  pub of_json : json.Data → Option Datum
  of_json json.null = Some null
  of_json (json.boolean b) = Some (boolean b)
  of_json (json.number n) = option_map int (int_of n)
  of_json (json.string s) = Some (text s)
  of_json (json.array ds) = option_map list (of_items ds)
  of_json (json.object ms) = option_map fields (of_members ms)

  pub of_items : json.Items → Option Datums
  of_items json.no_items = Some no_items
  of_items (json.item d ds) = option_and_then (λ x. option_map (item x) (of_items ds)) (of_json d)

  pub of_members : json.Members → Option Fields
  of_members json.no_members = Some no_fields
  of_members (json.member k d ms) = option_and_then (λ x. option_map (field k x) (of_members ms)) (of_json d)
