-- The limits of values: how deep lists and records nest, and how many bytes the canonical text has.
use Rattle.std.specs.Prelude.{ℕ, ◌+◌, max, nat_le, Bool, ◌&&◌, List, length}
use Rattle.json.specs.Print.{quoted}
use Rattle.serde_json.specs.Written.{comma_if}
use Rattle.beldi_value.specs.Datum.{Datum, null, boolean, int, text, list, fields, Datums, no_items, item, Fields, no_fields, field}
use Rattle.beldi_value.specs.{declared.value.Value.Value, Json.text_of, Value.datum_of}

-- how deep lists and records nest: the empty list has one level
abbrev mutual
  pub depth_of : Datum → ℕ
  depth_of null = 0
  depth_of (boolean b) = 0
  depth_of (int z) = 0
  depth_of (text s) = 0
  depth_of (list ds) = items_depth ds + 1
  depth_of (fields fs) = fields_depth fs + 1

  pub items_depth : Datums → ℕ
  items_depth no_items = 0
  items_depth (item d ds) = max (depth_of d) (items_depth ds)

  pub fields_depth : Fields → ℕ
  fields_depth no_fields = 0
  fields_depth (field k d fs) = max (depth_of d) (fields_depth fs)

abbrev pub most_depth : ℕ
most_depth = 32

abbrev pub most_bytes : ℕ
most_bytes = 4096

-- how many bytes the canonical text has
abbrev pub text_size : Datum → ℕ
text_size d = length (text_of d)

-- the same with the comma before it in a list or, after the key, in a record
abbrev pub item_size : Datum → Bool → ℕ
item_size d later = length (comma_if later) + text_size d

abbrev pub field_size : List ℕ × Value → Bool → ℕ
field_size f later = length (comma_if later) + (length (quoted f.0) + (1 + text_size (datum_of f.1)))

-- the value nests no deeper than 32 levels, and its canonical text has 4,096 bytes at most
abbrev pub is_within : Datum → Bool
is_within d = nat_le (depth_of d) most_depth && nat_le (text_size d) most_bytes
