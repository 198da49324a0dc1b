use Rattle.beldi_value.proofs.Names.{drop, field_at, fields_view, ◌≡◌}
use Rattle.beldi_value.proofs.value.Rec.get.Given as goal

-- it is up to what is left
abbrev pub invariant-loop-field : goal.invariant-loop-field
invariant-loop-field l = field_at l.key (fields_view (drop l.field-index l.field-items)) ≡ field_at l.key (fields_view l.field-items)
