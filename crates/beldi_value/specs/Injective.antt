-- Values that stand for one datum are one value.
use Rattle.std.specs.Coded.{Coded, code_by}
use Rattle.std.proofs.Common.{◌≡◌, ℕ, List, [], ◌∷◌, map, refl, ap, sym, ◌∙◌}
use Rattle.beldi_value.specs.Datum.{coded_datum, Datum, null, boolean, int, text, list, fields, items_of, fields_of, Datums, no_items, item, Fields, no_fields, field}
use Rattle.beldi_value.specs.{declared.value.Value.Value, declared.value.Value.TheVariants.Null, declared.value.Value.TheVariants.Bool, declared.value.Value.TheVariants.Int, declared.value.Value.TheVariants.Text, declared.value.Value.TheVariants.List as ListOf, declared.value.Value.TheVariants.Rec, Value.datum_of, Value.items_view, Value.fields_view}

abbrev pub list_of : Datums → List Datum
list_of no_items = []
list_of (item d ds) = d ∷ list_of ds

abbrev pub pairs_of : Fields → List (List ℕ × Datum)
pairs_of no_fields = []
pairs_of (field k d fs) = (k, d) ∷ pairs_of fs

pub list_back : (ds : List Datum) → list_of (items_of ds) ≡ ds
list_back [] = refl
list_back (d ∷ ds) = ap (λ es. d ∷ es) (list_back ds)

pub pairs_back : (fs : List (List ℕ × Datum)) → pairs_of (fields_of fs) ≡ fs
pairs_back [] = refl
pairs_back (f ∷ fs) = ap (λ es. f ∷ es) (pairs_back fs)

abbrev pub value_of : Datum → Value
value_of null = Null
value_of (boolean b) = Bool b
value_of (int z) = Int z
value_of (text s) = Text s
value_of (list ds) = ListOf (list_of ds)
value_of (fields fs) = Rec (pairs_of fs)

pub value_back : (v : Value) → value_of (datum_of v) ≡ v
value_back Null = refl
value_back (Bool b) = refl
value_back (Int z) = refl
value_back (Text s) = refl
value_back (ListOf ds) = ap ListOf (list_back ds)
value_back (Rec fs) = ap Rec (pairs_back fs)

items_back : (vs : List Value) → map value_of (items_view vs) ≡ vs
items_back [] = refl
items_back (v ∷ vs) = ap (λ w. w ∷ map value_of (items_view vs)) (value_back v) ∙ ap (λ ws. v ∷ ws) (items_back vs)

abbrev pair_of : List ℕ × Datum → List ℕ × Value
pair_of f = (f.0, value_of f.1)

fields_back : (fs : List (List ℕ × Value)) → map pair_of (fields_view fs) ≡ fs
fields_back [] = refl
fields_back (f ∷ fs) = ap (λ w. (f.0, w) ∷ map pair_of (fields_view fs)) (value_back f.1) ∙ ap (λ ws. f ∷ ws) (fields_back fs)

pub same_values : (v w : Value) → datum_of v ≡ datum_of w → v ≡ w
same_values v w e = sym (value_back v) ∙ ap value_of e ∙ value_back w

pub same_items : (vs ws : List Value) → items_view vs ≡ items_view ws → vs ≡ ws
same_items vs ws e = sym (items_back vs) ∙ ap (map value_of) e ∙ items_back ws

pub same_fields : (fs gs : List (List ℕ × Value)) → fields_view fs ≡ fields_view gs → fs ≡ gs
same_fields fs gs e = sym (fields_back fs) ∙ ap (map pair_of) e ∙ fields_back gs

-- a value is stored as what it stands for
abbrev pub coded_value : Coded Value
coded_value = code_by Datum coded_datum datum_of value_of value_back
