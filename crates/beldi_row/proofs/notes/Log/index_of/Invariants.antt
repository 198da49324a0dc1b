use Rattle.std.proofs.Common.{◌≡◌, drop}
use Rattle.beldi_row.specs.Log.{index_from}
use Rattle.beldi_row.proofs.notes.Log.index_of.Given as goal

abbrev pub invariant-loop-index : goal.invariant-loop-index
invariant-loop-index l = index_from l.index (drop l.index l.entries) l.place ≡ index_from 0 l.self l.place
