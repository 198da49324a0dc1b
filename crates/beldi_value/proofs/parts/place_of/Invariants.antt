use Rattle.beldi_value.proofs.Names.{Datum, drop, fields_view, set_field, take, ◌++◌, ◌≡◌}
use Rattle.beldi_value.proofs.parts.place_of.Given as goal

-- the fields before stay as they are
abbrev pub invariant-loop-i : goal.invariant-loop-i
invariant-loop-i l = (d : Datum) → set_field (fields_view l.fields) l.key d ≡ take l.i (fields_view l.fields) ++ set_field (drop l.i (fields_view l.fields)) l.key d
