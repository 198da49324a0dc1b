use Rattle.std.proofs.Common.{◌≡◌, length}
use Rattle.beldi_script.specs.LineCut.{lines_of}
use Rattle.beldi_generator.specs.Summary.{past}
use Rattle.beldi_generator.proofs.summary.past.Given as goal

abbrev pub invariant-loop-head : goal.invariant-loop-head
invariant-loop-head l = past l.head (lines_of l.rest) ≡ past l.fn.head (lines_of l.fn.text)

abbrev pub decreases-loop-head : goal.decreases-loop-head
decreases-loop-head l = length l.rest
