use Rattle.std.proofs.Common.{◌≡◌, drop}
use Rattle.beldi_row.specs.Log.{note_at}
use Rattle.beldi_region.proofs.region_table.lacks.Given as goal

abbrev pub invariant-loop-index : goal.invariant-loop-index
invariant-loop-index l = note_at (drop l.index l.entries) l.place ≡ note_at l.log l.place
