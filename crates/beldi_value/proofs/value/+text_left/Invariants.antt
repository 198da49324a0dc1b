use Rattle.beldi_value.proofs.Names.{drop, false, fields_of, fields_view, items_of, items_text, items_view, json_fields, json_items, length, members_text, ◌+◌, ◌≡◌}
use Rattle.beldi_value.proofs.value.+text_left.Given as goal

-- the budget pays for the whole text, and what is left of it for what is left of the text
abbrev pub invariant-Rec::text_left-loop-field : goal.invariant-Rec::text_left-loop-field
invariant-Rec::text_left-loop-field l = l.left + length (members_text false (json_fields (fields_of (fields_view l.field-items)))) + 1 ≡ l.fn.budget + length (members_text l.later (json_fields (fields_of (fields_view (drop l.field-index l.field-items)))))

abbrev pub invariant-Values::text_left-loop-v : goal.invariant-Values::text_left-loop-v
invariant-Values::text_left-loop-v l = l.left + length (items_text false (json_items (items_of (items_view l.v-items)))) + 1 ≡ l.fn.budget + length (items_text l.later (json_items (items_of (items_view (drop l.v-index l.v-items)))))
