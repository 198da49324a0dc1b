use Rattle.std.proofs.Common.{◌≡◌, ℕ, List, ◌++◌, drop}
use Rattle.beldi_bytes.specs.RowBytes.{entries_bytes, AreEntries}
use Rattle.beldi_bytes.proofs.part_out.put_log.Given as goal

-- what was written, before what is left, is all
abbrev pub invariant-loop-entry : goal.invariant-loop-entry
invariant-loop-entry l = record {
  bytes : (s : List ℕ) → l.out.items ++ entries_bytes (drop l.entry-index l.entries) s ≡ l.initial.out.items ++ entries_bytes l.entries s;
  formed : AreEntries (drop l.entry-index l.entries) → AreEntries l.entries;
}
