-- Each value in a list or a record is smaller than the list or the record.
use Rattle.std.specs.Prelude.{◌≤◌, ℕ, max, List, [], ◌∷◌}
use denote.Param.Weighed.{most}
use Rattle.std.proofs.Common.{arith}
use Rattle.beldi_value.specs.{declared.value.Value.Value, declared.value.Value.TheVariants.Null, declared.value.Value.TheVariants.Bool, declared.value.Value.TheVariants.Int, declared.value.Value.TheVariants.Text, declared.value.Value.TheVariants.List as ListOf, declared.value.Value.TheVariants.Rec, declared.value.Rec.TheDeep.deep-Value, declared.value.Rec.TheShapes.weighed-Rec-fields-at-2, Datum.datum_size, Datum.datums_size, Datum.fields_size, Value.datum_of, Value.items_view, Value.fields_view}

deep_value : (v : Value) → deep-Value v ≤ datum_size (datum_of v)
deep_value Null = omega arith
deep_value (Bool b) = omega arith
deep_value (Int z) = omega arith
deep_value (Text s) = omega arith
deep_value (ListOf ds) = omega arith
deep_value (Rec fs) = omega arith

pub most_items : (vs : List Value) → most deep-Value vs ≤ datums_size (items_view vs)
most_items [] = omega arith
most_items (v ∷ vs) = omega (arith, deep_value v, most_items vs)

abbrev pub field_weight : List ℕ × Value → ℕ
field_weight f = weighed-Rec-fields-at-2.weight Value deep-Value f

field_falls : (f : List ℕ × Value) → field_weight f ≤ datum_size (datum_of f.1)
field_falls f = omega (arith, deep_value f.1)

pub most_fields : (fs : List (List ℕ × Value)) → max (most field_weight fs) 0 ≤ fields_size (fields_view fs)
most_fields [] = omega arith
most_fields (f ∷ fs) = omega (arith, field_falls f, most_fields fs)
