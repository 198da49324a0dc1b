use Rattle.std.proofs.Common.{◌≡◌, ◌+◌, ◌≤◌, length}
use Rattle.beldi_script.specs.LineCut.{lines_of}
use Rattle.beldi_generator.specs.Summary.{counted}
use Rattle.beldi_generator.proofs.summary.count.Given as goal

abbrev pub invariant-loop-rest : goal.invariant-loop-rest
invariant-loop-rest l = record {
  all : counted l.count l.front (lines_of l.rest) ≡ counted 0 l.fn.front (lines_of l.fn.text);
  few : l.count + length l.rest ≤ length l.fn.text;
}

abbrev pub decreases-loop-rest : goal.decreases-loop-rest
decreases-loop-rest l = length l.rest
