use Rattle.std.proofs.Common.{◌≡◌, ◌≤◌, ◌++◌, ◌-◌, length}
use Rattle.beldi_outside.specs.Outside.{Observed}
use Rattle.beldi_outside.proofs.transfer.read_up_to.Given as goal

-- what was read and what is left are all the bytes
abbrev pub invariant-loop-piece : goal.invariant-loop-piece
invariant-loop-piece g l =
    let s = g.S.Source in
    record {
      later : s.faults l.fn.source ≤ s.faults l.source;
      most : length l.bytes.items ≤ l.limit;
      bytes : Observed (s.left l.fn.source) (s.left l.source) (λ b c. b ≡ l.bytes.items ++ c);
    }

abbrev pub decreases-loop-piece : goal.decreases-loop-piece
decreases-loop-piece g l = l.limit - length l.bytes.items
