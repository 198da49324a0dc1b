use Rattle.beldi_value.proofs.Names.{take, ◌≡◌}
use Rattle.beldi_value.proofs.parts.fields_of.Given as goal

abbrev pub invariant-loop-field : goal.invariant-loop-field
invariant-loop-field l = l.copies.items ≡ take l.field-index l.fields
