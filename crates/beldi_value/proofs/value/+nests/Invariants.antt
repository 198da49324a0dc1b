use Rattle.beldi_value.proofs.Names.{drop, fields_depth, fields_of, fields_view, items_depth, items_of, items_view, nat_le, ◌≡◌}
use Rattle.beldi_value.proofs.value.+nests.Given as goal

-- it is up to what is left
abbrev pub invariant-Rec::nest_within-loop-field : goal.invariant-Rec::nest_within-loop-field
invariant-Rec::nest_within-loop-field l = nat_le (fields_depth (fields_of (fields_view (drop l.field-index l.field-items)))) l.levels ≡ nat_le (fields_depth (fields_of (fields_view l.field-items))) l.levels

abbrev pub invariant-Values::nest_within-loop-v : goal.invariant-Values::nest_within-loop-v
invariant-Values::nest_within-loop-v l = nat_le (items_depth (items_of (items_view (drop l.v-index l.v-items)))) l.levels ≡ nat_le (items_depth (items_of (items_view l.v-items))) l.levels
