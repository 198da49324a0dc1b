use Rattle.std.proofs.Common.{◌≡◌, ◌≤◌, ℕ, List, length}
use Rattle.beldi_value.specs.Datum.{Datum}
use Rattle.beldi_bytes.specs.BytesReading.{list_bytes, record_bytes, AreItems, AreFields}
use Rattle.beldi_bytes.proofs.ByteLists.{IsList, IsFields}
use Rattle.beldi_bytes.proofs.Midway.{Midway}
use Rattle.beldi_bytes.proofs.value_in.+read.Given as goal

abbrev pub decreases-read_value : goal.decreases-read_value
decreases-read_value l = length l.from.now

abbrev pub decreases-read_list : goal.decreases-read_list
decreases-read_list l = length l.from.now

abbrev pub decreases-read_record : goal.decreases-read_record
decreases-read_record l = length l.from.now

abbrev pub decreases-read_field : goal.decreases-read_field
decreases-read_field l = length l.from.now

abbrev pub invariant-read_list-loop-turn : goal.invariant-read_list-loop-turn
invariant-read_list-loop-turn l = record {
  way : Midway Datum list_bytes (IsList l.count) l.initial.from l.from l.items;
  number : length l.items ≡ l._turn;
  formed : AreItems l.items;
  short : length l.from ≤ length l.initial.from;
}

abbrev pub invariant-read_record-loop-turn : goal.invariant-read_record-loop-turn
invariant-read_record-loop-turn l = record {
  way : Midway (List ℕ × Datum) record_bytes (IsFields l.count) l.initial.from l.from l.fields;
  number : length l.fields ≡ l._turn;
  formed : AreFields l.fields;
  short : length l.from ≤ length l.initial.from;
}
