use Rattle.std.proofs.Common.{◌≡◌, [], ◌∷◌, false, true, length, length-append, sym, ap, subst, ◌∙◌, arith}
use Rattle.std.specs.Prelude.{IsUtf8}
use Rattle.beldi_value.specs.Formed.{IsFormed}
use Rattle.beldi_value.specs.Value.{datum_of}
use Rattle.beldi_bytes.specs.Coding.{one, Any, truth_bytes}
use Rattle.beldi_bytes.specs.RowBytes.{int_bytes, str_bytes, datum_bytes, IsInt}
use Rattle.beldi_bytes.specs.BytesReading.{counted_items, AreItems, counted_fields, AreFields, field_bytes, IsNext}
use Rattle.beldi_bytes.proofs.ByteLists.{next_item, all_items, no_item, items_more, next_field, all_fields, no_field, fields_more, datum_long, field_long, set_end}
use Rattle.beldi_bytes.proofs.RowExact.{str_exact}
use Rattle.beldi_bytes.proofs.Refused.{refused, behind}
use Rattle.beldi_bytes.proofs.Values.{datum_tag, other_tag, bool_in, int_in, text_in, list_in, record_in, list_read, record_read}
use Rattle.beldi_bytes.proofs.value_in.+read.Goals as goal

pub read_value-returns-in-Err : goal.read_value-returns-in-Err
read_value-returns-in-Err t c = refused one Any datum_bytes IsFormed _ _ c.in-Err.why c.in-Err.ensures (λ d s i e. datum_tag _ d s e)

pub read_value-returns-in-Err-truth : goal.read_value-returns-in-Err-truth
read_value-returns-in-Err-truth t c = refused truth_bytes Any datum_bytes IsFormed _ _ c.in-Err-truth.why c.in-Err-truth.ensures (bool_in _ _ c.in-Ok.value c.in-Ok.ensures.0 c.in-1.is)

pub read_value-returns-in-Err-read_int : goal.read_value-returns-in-Err-read_int
read_value-returns-in-Err-read_int t c = refused int_bytes IsInt datum_bytes IsFormed _ _ c.in-Err-read_int.why c.in-Err-read_int.ensures (int_in _ _ c.in-Ok.value c.in-Ok.ensures.0 c.in-2.is)

pub read_value-returns-in-Err-text : goal.read_value-returns-in-Err-text
read_value-returns-in-Err-text t c = refused str_bytes IsUtf8 datum_bytes IsFormed _ _ c.in-Err-text.why c.in-Err-text.ensures (text_in _ _ c.in-Ok.value c.in-Ok.ensures.0 c.in-3.is)

pub read_value-returns-in-Err-read_list : goal.read_value-returns-in-Err-read_list
read_value-returns-in-Err-read_list t c = refused counted_items AreItems datum_bytes IsFormed _ _ c.in-Err-read_list.why c.in-Err-read_list.ensures (list_in _ _ c.in-Ok.value c.in-Ok.ensures.0 c.in-4.is)

pub read_value-returns-in-Err-read_record : goal.read_value-returns-in-Err-read_record
read_value-returns-in-Err-read_record t c = refused counted_fields AreFields datum_bytes IsFormed _ _ c.in-Err-read_record.why c.in-Err-read_record.ensures (record_in _ _ c.in-Ok.value c.in-Ok.ensures.0 c.in-5.is)

pub read_value-returns-in-Ok-read_list : goal.read_value-returns-in-Ok-read_list
read_value-returns-in-Ok-read_list t c =
    (list_read _ _ _ c.in-Ok.value c.in-Ok-read_list.value c.in-Ok.ensures.0 c.in-4.is c.in-Ok-read_list.ensures.0, c.in-Ok-read_list.ensures.1)

pub read_list-returns-in-Err-read_value : goal.read_list-returns-in-Err-read_value
read_list-returns-in-Err-read_value t c =
    no_item c.in-Ok.value _ _ _ c.loop-turn.items c.in-Err-read_value.why c.loop-turn.invariant.way (omega arith) c.in-Ok.ensures.0 c.in-Err-read_value.ensures

pub read_list-loop-turn-preserved : goal.read_list-loop-turn-preserved
read_list-loop-turn-preserved t c =
    let d = datum_of c.in-Ok-read_value.value in
    record {
      way = rw c.in-Ok-or_drop.ensures.ok (next_item c.in-Ok.value _ _ _ c.loop-turn.items d c.loop-turn.invariant.way (omega arith) c.in-Ok-read_value.ensures.0);
      number = omega (arith, ap length c.in-Ok-or_drop.ensures.ok, length-append c.loop-turn.items (d ∷ []));
      formed = rw c.in-Ok-or_drop.ensures.ok (items_more c.loop-turn.items d c.loop-turn.invariant.formed c.in-Ok-read_value.ensures.1);
      short = omega (arith, c.loop-turn.invariant.short, ap length c.in-Ok-read_value.ensures.0, datum_long d c.read_value.new.from);
    }

pub read_list-returns : goal.read_list-returns
read_list-returns t c = (all_items c.in-Ok.value _ _ _ c.loop-turn.items c.loop-turn.invariant.way (omega arith) c.in-Ok.ensures.0, c.loop-turn.invariant.formed)

pub read_record-returns-in-Err-read_field : goal.read_record-returns-in-Err-read_field
read_record-returns-in-Err-read_field t c =
    no_field c.in-Ok.value _ _ _ c.loop-turn.fields c.in-Err-read_field.why c.loop-turn.invariant.way (omega arith) c.in-Ok.ensures.0 c.in-Err-read_field.ensures

pub read_record-loop-turn-preserved : goal.read_record-loop-turn-preserved
read_record-loop-turn-preserved t c =
    let p = c.in-Ok-read_field.ensures in
    record {
      way = rw p.3 (next_field c.in-Ok.value _ _ _ c.loop-turn.fields p.0 c.loop-turn.invariant.way (omega arith) p.1);
      number = omega (arith, ap length p.3, length-append c.loop-turn.fields (p.0 ∷ []));
      formed = rw p.3 (fields_more c.loop-turn.fields p.0 c.loop-turn.invariant.formed p.2);
      short = omega (arith, c.loop-turn.invariant.short, ap length p.1, field_long p.0 c.read_field.new.from);
    }

pub read_record-returns : goal.read_record-returns
read_record-returns t c = (all_fields c.in-Ok.value _ _ _ c.loop-turn.fields c.loop-turn.invariant.way (omega arith) c.in-Ok.ensures.0, c.loop-turn.invariant.formed)

pub read_field-returns-then-not-is_next : goal.read_field-returns-then-not-is_next
read_field-returns-then-not-is_next t c = λ f s i e.
    let p = str_exact c.in-Ok.value f.0 _ _ (sym c.in-Ok.ensures.0 ∙ e) in
    let no : false ≡ true = sym c.if-not-is_next.true ∙ c.is_next.ensures.1 (subst (IsNext c.args.fields.now) (sym p.0) i.0) in
    cc

pub read_field-returns-in-Err-read_value : goal.read_field-returns-in-Err-read_value
read_field-returns-in-Err-read_value t c =
    refused datum_bytes IsFormed field_bytes _ _ _ c.in-Err-read_value.why c.in-Err-read_value.ensures (λ f s i e. (f.1, s, i.1.1, behind str_bytes str_exact _ _ _ _ _ c.in-Ok.ensures.0 e))

pub read_field-returns : goal.read_field-returns
read_field-returns t c =
    let k = c.in-Ok.value in
    let d = datum_of c.in-Ok-read_value.value in
    let above = c.is_next.ensures.0 c.if-not-is_next.false in
    ((k, d), c.in-Ok.ensures.0 ∙ ap (str_bytes k) c.in-Ok-read_value.ensures.0, (above, (c.in-Ok.ensures.1, c.in-Ok-read_value.ensures.1, tt)), c.in_ok-set.ensures.ok ∙ set_end c.args.fields.now k d above)

pub read_value-returns-in-Ok-read_record : goal.read_value-returns-in-Ok-read_record
read_value-returns-in-Ok-read_record t c =
    record_read _ _ _ c.in-Ok.value c.in-Ok-read_record.value c.in-Ok.ensures.0 c.in-5.is c.in-Ok-read_record.ensures.0 c.in-Ok-read_record.ensures.1

pub read_value-returns-in_default : goal.read_value-returns-in_default
read_value-returns-in_default t c = λ d s i e. other_tag _ c.in-Ok.value d s (omega arith) (sym c.in-Ok.ensures.0 ∙ e)
