use Rattle.std.proofs.Common.{◌≡◌, length}
use Rattle.beldi_value.specs.declared.place.Place.{Place}
use Rattle.beldi_row.specs.declared.notes.Note.{Note}
use Rattle.beldi_bytes.specs.RowBytes.{entries_bytes, AreEntries}
use Rattle.beldi_bytes.proofs.ByteLists.{AreNoted}
use Rattle.beldi_bytes.proofs.Midway.{Midway}
use Rattle.beldi_bytes.proofs.part_in.read_log.Given as goal

abbrev pub invariant-loop-turn : goal.invariant-loop-turn
invariant-loop-turn l = record {
  way : Midway (Place × Note) entries_bytes (AreNoted l.count) l.initial.from l.from l.log;
  number : length l.log ≡ l._turn;
  formed : AreEntries l.log;
}
