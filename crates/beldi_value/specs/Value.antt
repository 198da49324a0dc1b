-- The value that a `Value` stands for.
use Rattle.std.specs.Prelude.{ℕ, List, map}
use Rattle.beldi_value.specs.Datum.{Datum, null, boolean, int, text, list, fields, items_of, fields_of}
use Rattle.beldi_value.specs.declared.value.Value.{Value, TheVariants.Null, TheVariants.Bool, TheVariants.Int, TheVariants.Text, TheVariants.List as ListOf, TheVariants.Rec}

abbrev pub datum_of : Value → Datum
datum_of Null = null
datum_of (Bool b) = boolean b
datum_of (Int z) = int z
datum_of (Text s) = text s
datum_of (ListOf ds) = list (items_of ds)
datum_of (Rec fs) = fields (fields_of fs)

abbrev pub items_view : List Value → List Datum
items_view vs = map datum_of vs

abbrev pub fields_view : List (List ℕ × Value) → List (List ℕ × Datum)
fields_view fs = map (λ f. (f.0, datum_of f.1)) fs
