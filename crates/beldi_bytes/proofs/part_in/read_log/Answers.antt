use Rattle.std.proofs.Common.{[], ◌∷◌, length, length-append, ap, arith}
use Rattle.beldi_bytes.proofs.ByteLists.{next_entry, all_entries, no_entry, entries_more, too_many, room_left, is_log}
use Rattle.beldi_bytes.proofs.part_in.read_log.Goals as goal

pub returns-then-count-gt-MOST_ENTRIES : goal.returns-then-count-gt-MOST_ENTRIES
returns-then-count-gt-MOST_ENTRIES c = too_many c.in-Ok.value _ _ (omega arith) c.in-Ok.ensures.0

pub returns-in-Err-read_entry : goal.returns-in-Err-read_entry
returns-in-Err-read_entry c =
    no_entry c.in-Ok.value _ _ _ c.loop-turn.log c.in-Err-read_entry.why c.loop-turn.invariant.way (omega arith) c.in-Ok.ensures.0 c.in-Err-read_entry.ensures

pub enter-requires : goal.enter-requires
enter-requires c = room_left c.in-Ok.value c.loop-turn.log (omega arith) (omega arith)

pub loop-turn-preserved : goal.loop-turn-preserved
loop-turn-preserved c =
    let x = c.in-Ok-read_entry.value in
    record {
      way = rw c.enter.ensures (next_entry c.in-Ok.value _ _ _ c.loop-turn.log x c.loop-turn.invariant.way (omega arith) c.in-Ok-read_entry.ensures.0);
      number = omega (arith, ap length c.enter.ensures, length-append c.loop-turn.log (x ∷ []));
      formed = rw c.enter.ensures (entries_more c.loop-turn.log x c.loop-turn.invariant.formed c.in-Ok-read_entry.ensures.1);
    }

pub returns : goal.returns
returns c = (
  all_entries c.in-Ok.value _ _ _ c.loop-turn.log c.loop-turn.invariant.way (omega arith) c.in-Ok.ensures.0,
  is_log c.in-Ok.value c.loop-turn.log (omega arith) (omega arith) c.loop-turn.invariant.formed,
)
