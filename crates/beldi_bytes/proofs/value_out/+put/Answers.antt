use Rattle.std.proofs.Common.{◌+◌, ◌∷◌, ◌++◌, length, drop, sym, ap, subst, ◌∙◌, arith}
use Rattle.beldi_value.specs.Datum.{fields_of, IsRecord}
use Rattle.beldi_value.specs.Formed.{HaveForm}
use Rattle.beldi_value.specs.Injective.{list_back, pairs_back}
use Rattle.beldi_value.specs.Value.{items_view, fields_view}
use Rattle.beldi_bytes.specs.KeyBytes.{four}
use Rattle.beldi_bytes.specs.RowBytes.{value_bytes}
use Rattle.beldi_bytes.specs.BytesReading.{list_bytes, record_bytes, AreItems}
use Rattle.beldi_bytes.proofs.ByteLists.{at_index, none_after, item_small, field_small}
use Rattle.beldi_bytes.proofs.value_out.+put.Goals as goal

pub put_list-put_value-requires : goal.put_list-put_value-requires
put_list-put_value-requires t c =
    let small = item_small c.as_slice-value-items.result.now c.loop-value.value-index c.value-item.result c.args.values.now (omega arith) c.value-item.is c.as_slice-value-items.ensures in
    (omega (arith, small), tt)

pub put_list-returns : goal.put_list-returns
put_list-returns t c =
    let xs = c.as_slice-value-items.result.now in
    let ds = c.args.values.now in
    let none = none_after xs c.loop-value.value-index (omega arith) in
    let formed = c.loop-value.invariant.formed (subst (λ l. AreItems (items_view l)) (sym none) tt) in (
      λ s.
          ap (λ l. c.loop-value.out.items ++ list_bytes (items_view l) s) (sym none) ∙ c.loop-value.invariant.bytes s
          ∙ ap (λ es. c.put_count.new.out.items ++ list_bytes es s) c.as_slice-value-items.ensures ∙ c.in_ok-put_count.ensures (list_bytes ds s) ∙ c.in_ok-put_byte.ensures (four c.len.result (list_bytes ds s))
          ∙ ap (λ n. c.args.out.now.items ++ 4 ∷ four n (list_bytes ds s)) (c.len.ensures ∙ sym (ap length (list_back ds))),
      subst AreItems c.as_slice-value-items.ensures formed,
    )

pub put_record-put_value-requires : goal.put_record-put_value-requires
put_record-put_value-requires t c =
    let small = field_small c.as_slice-all.result.now c.loop-field.field-index c.field-item.result c.args.rec.now (omega arith) c.field-item.is c.as_slice-all.ensures in
    (omega (arith, small), tt)

pub put_record-loop-field-preserved : goal.put_record-loop-field-preserved
put_record-loop-field-preserved t c =
    let xs = c.as_slice-all.result.now in
    let i = c.loop-field.field-index in
    let first = at_index xs i c.field-item.result (omega arith) c.field-item.is in
    let rest = fields_view (drop (i + 1) xs) in
    record {
      bytes = λ s.
          c.in_ok-put_value.ensures.0 (record_bytes rest s) ∙ c.in_ok-put_str.ensures.0 (value_bytes c.field-item.result.1 (record_bytes rest s))
          ∙ ap (λ l. c.loop-field.out.items ++ record_bytes (fields_view l) s) (sym first) ∙ c.loop-field.invariant.bytes s;
      formed = λ h. c.loop-field.invariant.formed (subst (λ l. HaveForm (fields_of (fields_view l))) (sym first) (c.in_ok-put_str.ensures.1, c.in_ok-put_value.ensures.1, h));
    }

pub put_record-returns : goal.put_record-returns
put_record-returns t c =
    let xs = c.as_slice-all.result.now in
    let fs = c.args.rec.now in
    let none = none_after xs c.loop-field.field-index (omega arith) in
    let formed = c.loop-field.invariant.formed (subst (λ l. HaveForm (fields_of (fields_view l))) (sym none) tt) in (
      λ s.
          ap (λ l. c.loop-field.out.items ++ record_bytes (fields_view l) s) (sym none) ∙ c.loop-field.invariant.bytes s
          ∙ ap (λ gs. c.put_count.new.out.items ++ record_bytes gs s) c.as_slice-all.ensures ∙ c.in_ok-put_count.ensures (record_bytes fs s) ∙ c.in_ok-put_byte.ensures (four c.len.result (record_bytes fs s))
          ∙ ap (λ n. c.args.out.now.items ++ 5 ∷ four n (record_bytes fs s)) (c.len.ensures ∙ sym (ap length (pairs_back fs))),
      (subst IsRecord (c.as_slice-all.ensures ∙ sym (pairs_back fs)) (c.rises.ensures c.if-not-rises.false), subst (λ gs. HaveForm (fields_of gs)) c.as_slice-all.ensures formed),
    )
