use Rattle.beldi_value.proofs.Names.{Entry, List, drop, fields_view, items_view, json_items_view, keys_of, map, members_view, of_items, of_members, string_bytes, ◌++◌, ◌≡◌}
use Rattle.beldi_value.proofs.Converting.{onto_items, onto_fields}
use Rattle.beldi_value.proofs.convert.+convert.Given as goal

abbrev pub invariant-rec_from-loop-key : goal.invariant-rec_from-loop-key
invariant-rec_from-loop-key l =
    (done : List Entry) × (l.members.entries ≡ done ++ l.key-iterator) × (onto_fields (fields_view l.fields.items) (of_members (members_view l.key-iterator)) ≡ of_members (members_view l.members.entries))
    × (keys_of (fields_view l.fields.items) ≡ map string_bytes (keys_of done))

abbrev pub invariant-values_from-loop-json : goal.invariant-values_from-loop-json
invariant-values_from-loop-json l = onto_items (items_view l.items.items) (of_items (json_items_view (drop l.json-index l.json-items))) ≡ of_items (json_items_view l.json-items)
