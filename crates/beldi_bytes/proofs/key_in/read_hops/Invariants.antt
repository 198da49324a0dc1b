use Rattle.std.proofs.Common.{ℕ, ◌≤◌, length}
use Rattle.beldi_bytes.specs.KeyBytes.{hops_bytes, AreFew}
use Rattle.beldi_bytes.proofs.Midway.{Midway}
use Rattle.beldi_bytes.proofs.key_in.read_hops.Given as goal

abbrev pub invariant-loop-value : goal.invariant-loop-value
invariant-loop-value l = record { few : length l.steps.items ≤ 63; way : Midway ℕ hops_bytes AreFew l.fn.from l.from l.steps.items }

abbrev pub decreases-loop-value : goal.decreases-loop-value
decreases-loop-value l = length l.from
