use Rattle.std.proofs.Common.{◌≡◌, ℕ, List, ◌++◌, drop}
use Rattle.beldi_value.specs.Datum.{datum_size, datums_size, fields_size, fields_of}
use Rattle.beldi_value.specs.Formed.{HaveForm}
use Rattle.beldi_value.specs.Value.{datum_of, items_view, fields_view}
use Rattle.beldi_bytes.specs.BytesReading.{list_bytes, record_bytes, AreItems}
use Rattle.beldi_bytes.proofs.value_out.+put.Given as goal

abbrev pub decreases-put_value : goal.decreases-put_value
decreases-put_value l = datum_size (datum_of l.value.now)

abbrev pub decreases-put_list : goal.decreases-put_list
decreases-put_list l = datums_size l.values.now

abbrev pub decreases-put_record : goal.decreases-put_record
decreases-put_record l = fields_size l.rec.now

-- what was written, before what is left, is all
abbrev pub invariant-put_list-loop-value : goal.invariant-put_list-loop-value
invariant-put_list-loop-value l = record {
  bytes : (s : List ℕ) → l.out.items ++ list_bytes (items_view (drop l.value-index l.value-items)) s ≡ l.initial.out.items ++ list_bytes (items_view l.value-items) s;
  formed : AreItems (items_view (drop l.value-index l.value-items)) → AreItems (items_view l.value-items);
}

abbrev pub invariant-put_record-loop-field : goal.invariant-put_record-loop-field
invariant-put_record-loop-field l = record {
  bytes : (s : List ℕ) → l.out.items ++ record_bytes (fields_view (drop l.field-index l.all)) s ≡ l.initial.out.items ++ record_bytes (fields_view l.all) s;
  formed : HaveForm (fields_of (fields_view (drop l.field-index l.all))) → HaveForm (fields_of (fields_view l.all));
}
