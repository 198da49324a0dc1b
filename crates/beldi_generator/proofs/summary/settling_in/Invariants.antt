use Rattle.std.proofs.Common.{◌≡◌, length}
use Rattle.beldi_script.specs.LineCut.{lines_of}
use Rattle.beldi_generator.specs.Summary.{settling_in}
use Rattle.beldi_generator.proofs.summary.settling_in.Given as goal

abbrev pub invariant-loop-rest : goal.invariant-loop-rest
invariant-loop-rest l = settling_in (lines_of l.rest) ≡ settling_in (lines_of l.fn.text)

abbrev pub decreases-loop-rest : goal.decreases-loop-rest
decreases-loop-rest l = length l.rest
