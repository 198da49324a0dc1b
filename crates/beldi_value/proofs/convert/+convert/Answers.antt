use Rattle.std.proofs.lemmas.List.{append-nil}
use Rattle.beldi_value.proofs.Names.{Entry, Some, [], add-one, ap, append_assoc, arith, datum_of, drop, drop-cons, fields_of, fields_view, items_of, items_view, json_items_view, keys_of, length-drop, map, members_view, nil_from_length, of_items, of_members, string_bytes, suc, sym, view, ◌++◌, ◌+◌, ◌∙◌, ◌∷◌, ◌≡◌}
use Rattle.beldi_value.proofs.Converting.{onto_items, onto_fields, items_go, items_stop, fields_go, fields_stop, onto_end, fields_end, record_from, keys_push, map_push}
use Rattle.beldi_value.proofs.Names.json
use Rattle.beldi_value.proofs.convert.+convert.Goals as goal

pub values_from-loop-json-preserved : goal.values_from-loop-json-preserved
values_from-loop-json-preserved t c =
    let xs = c.deref-json-items.result.now in
    let i = c.loop-json.json-index in
    let x = c.json-item.result in
    let old = c.loop-json.items.items in
    let first : drop i xs ≡ x ∷ drop (i + 1) xs = drop-cons xs i x (omega arith) ∙ ap (λ a. a ∷ drop (suc i) xs) (sym c.json-item.is) ∙ ap (λ j. x ∷ drop j xs) (sym (add-one i)) in
    items_go (items_view old) (items_view c.push.new.self.items) (datum_of c.in-Ok.value) (view x) (json_items_view (drop (i + 1) xs)) (of_items (json_items_view xs))
    (ap items_view c.in_ok-push-in-Ok.ensures.items ∙ map_push datum_of old c.in-Ok.value) c.in-Ok.ensures
    (ap (λ l. onto_items (items_view old) (of_items (json_items_view l))) (sym first) ∙ c.loop-json.invariant)

pub values_from-returns-in-Err : goal.values_from-returns-in-Err
values_from-returns-in-Err t c =
    let xs = c.deref-json-items.result.now in
    let i = c.loop-json.json-index in
    let x = c.json-item.result in
    let old = c.loop-json.items.items in
    let first : drop i xs ≡ x ∷ drop (i + 1) xs = drop-cons xs i x (omega arith) ∙ ap (λ a. a ∷ drop (suc i) xs) (sym c.json-item.is) ∙ ap (λ j. x ∷ drop j xs) (sym (add-one i)) in
    items_stop c.in-Err.why (items_view old) (view x) (json_items_view (drop (i + 1) xs)) (of_items (json_items_view c.args.list.now.items))
    (ap (λ l. onto_items (items_view old) (of_items (json_items_view l))) (sym first) ∙ c.loop-json.invariant ∙ ap (λ l. of_items (json_items_view l)) c.deref-json-items.ensures.value) c.in-Err.ensures

pub values_from-returns : goal.values_from-returns
values_from-returns t c =
    let xs = c.deref-json-items.result.now in
    let old = c.loop-json.items.items in
    let none : drop c.loop-json.json-index xs ≡ [] = nil_from_length (drop c.loop-json.json-index xs) (omega (arith, length-drop c.loop-json.json-index xs)) in
    ap (λ l. of_items (json_items_view l)) (sym c.deref-json-items.ensures.value) ∙ sym c.loop-json.invariant ∙ ap (λ l. onto_items (items_view old) (of_items (json_items_view l))) none ∙ onto_end (items_view old)
    ∙ ap (λ ds. Some (items_of ds)) (sym c.in_ok-from_vec.ensures)

pub rec_from-loop-key-preserved : goal.rec_from-loop-key-preserved
rec_from-loop-key-preserved t c =
    let l = c.loop-key in
    let done = l.invariant.0 in
    let e : Entry = (c.in-Some.key.now, c.in-Some.json.now) in
    let left = c.next.new.self in
    let old = fields_view l.fields.items in
    let name : c.in_ok-name.name ≡ string_bytes c.in-Some.key.now = c.in_ok-name.ensures ∙ c.as_str.ensures.value in
    let is : fields_view c.push.new.self.items ≡ old ++ (c.in_ok-name.name, datum_of c.in-Ok.value) ∷ [] = ap fields_view c.in_ok-push-in-Ok.ensures.items ∙ map_push _ l.fields.items (c.in_ok-name.name, c.in-Ok.value) in (
      done ++ e ∷ [],
      l.invariant.1 ∙ ap (λ es. done ++ es) c.in-Some.ensures.steps ∙ sym (append_assoc done (e ∷ []) left),
      fields_go old (fields_view c.push.new.self.items) (c.in_ok-name.name, datum_of c.in-Ok.value) (view c.in-Some.json.now) (members_view left) (of_members (members_view c.args.members.now.entries)) is c.in-Ok.ensures
          (ap (λ k. onto_fields old (of_members (json.member k (view c.in-Some.json.now) (members_view left)))) name ∙ ap (λ es. onto_fields old (of_members (members_view es))) (sym c.in-Some.ensures.steps) ∙ l.invariant.2),
      ap keys_of is ∙ keys_push old (c.in_ok-name.name, datum_of c.in-Ok.value) ∙ ap (λ ks. ks ++ c.in_ok-name.name ∷ []) l.invariant.3 ∙ ap (λ k. map string_bytes (keys_of done) ++ k ∷ []) name
          ∙ sym (map_push string_bytes (keys_of done) c.in-Some.key.now) ∙ ap (map string_bytes) (sym (keys_push done e)),
    )

pub rec_from-returns-in-Err : goal.rec_from-returns-in-Err
rec_from-returns-in-Err t c =
    let l = c.loop-key in
    let old = fields_view l.fields.items in
    fields_stop c.in-Err.why old (string_bytes c.in-Some.key.now) (view c.in-Some.json.now) (members_view c.next.new.self) (of_members (members_view c.args.members.now.entries))
    (ap (λ es. onto_fields old (of_members (members_view es))) (sym c.in-Some.ensures.steps) ∙ l.invariant.2) c.in-Err.ensures

pub rec_from-from_vec-requires : goal.rec_from-from_vec-requires
rec_from-from_vec-requires t c =
    let l = c.loop-key in
    let all : c.args.members.now.entries ≡ l.invariant.0 = l.invariant.1 ∙ ap (λ es. l.invariant.0 ++ es) c.in-None.ensures.steps.0 ∙ append-nil l.invariant.0 in
    record_from (fields_view l.fields.items) (keys_of c.args.members.now.entries) (l.invariant.3 ∙ ap (λ d. map string_bytes (keys_of d)) (sym all)) c.iter-key-items.ensures.ordered

pub rec_from-returns : goal.rec_from-returns
rec_from-returns t c =
    let l = c.loop-key in
    let old = fields_view l.fields.items in
    sym l.invariant.2 ∙ ap (λ es. onto_fields old (of_members (members_view es))) c.in-None.ensures.steps.0 ∙ fields_end old ∙ ap (λ ds. Some (fields_of ds)) (sym c.in_ok-from_vec.ensures)
