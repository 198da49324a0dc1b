use Rattle.std.proofs.Common.{ℕ, length}
use Rattle.beldi_bytes.specs.Coding.{Any}
use Rattle.beldi_bytes.specs.KeyBytes.{text_bytes}
use Rattle.beldi_bytes.proofs.Midway.{Midway}
use Rattle.beldi_bytes.proofs.key_in.read_chars.Given as goal

abbrev pub invariant-loop-value : goal.invariant-loop-value
invariant-loop-value l = Midway ℕ text_bytes Any l.fn.from l.from l.text

abbrev pub decreases-loop-value : goal.decreases-loop-value
decreases-loop-value l = length l.from
