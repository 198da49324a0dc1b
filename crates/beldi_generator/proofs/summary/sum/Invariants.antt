use Rattle.std.proofs.Common.{◌≡◌, length, pos}
use Rattle.beldi_script.specs.LineCut.{lines_of}
use Rattle.beldi_generator.specs.Summary.{summed}
use Rattle.beldi_generator.proofs.summary.sum.Given as goal

abbrev pub invariant-loop-rest : goal.invariant-loop-rest
invariant-loop-rest l = summed l.sum (lines_of l.rest) ≡ summed (pos 0) (lines_of l.fn.text)

abbrev pub decreases-loop-rest : goal.decreases-loop-rest
decreases-loop-rest l = length l.rest
