use Rattle.std.proofs.Common.{◌≡◌, length}
use Rattle.beldi_generator.specs.Summary.{last_word}
use Rattle.beldi_generator.proofs.summary.last_word.Given as goal

abbrev pub invariant-loop-rest : goal.invariant-loop-rest
invariant-loop-rest l = last_word l.word ≡ last_word l.fn.line

abbrev pub decreases-loop-rest : goal.decreases-loop-rest
decreases-loop-rest l = length l.word
