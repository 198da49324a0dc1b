use Rattle.beldi_session.proofs.Names.{counted, length, lines_of, numbered, ◌+◌, ◌≡◌, ◌≤◌}
use Rattle.beldi_session.proofs.check.count_lines.Given as goal

abbrev pub invariant-loop-rest : goal.invariant-loop-rest
invariant-loop-rest l = record {
  all : counted l.fn.code l.count (numbered l.number (lines_of l.rest)) ≡ counted l.fn.code 0 (numbered l.first (lines_of l.script));
  few : l.count + length l.rest ≤ length l.script;
}

abbrev pub decreases-loop-rest : goal.decreases-loop-rest
decreases-loop-rest l = length l.rest
