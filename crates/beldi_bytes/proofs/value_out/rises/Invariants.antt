use Rattle.std.proofs.Common.{◌-◌, drop}
use Rattle.beldi_value.specs.Datum.{IsRecord}
use Rattle.beldi_value.specs.Value.{fields_view}
use Rattle.beldi_bytes.proofs.value_out.rises.Given as goal

abbrev pub invariant-loop-i : goal.invariant-loop-i
invariant-loop-i l = IsRecord (fields_view (drop (l.i - 1) l.fields)) → IsRecord (fields_view l.fields)
