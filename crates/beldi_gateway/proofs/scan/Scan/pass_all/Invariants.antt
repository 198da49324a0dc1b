use Rattle.beldi_gateway.proofs.Names.{length, scan_on, ◌+◌, ◌≡◌, ◌≤◌}
use Rattle.beldi_gateway.proofs.scan.Scan.pass_all.Given as goal

abbrev pub invariant-loop-rest : goal.invariant-loop-rest
invariant-loop-rest l =
    record {
      scanned : scan_on l.scan l.rest ≡ scan_on l.fn.self l.fn.bytes;
      size : l.scan.size + length l.rest ≤ l.fn.self.size + length l.fn.bytes;
      lines : l.scan.lines + length l.rest ≤ l.fn.self.lines + length l.fn.bytes;
    }

abbrev pub decreases-loop-rest : goal.decreases-loop-rest
decreases-loop-rest l = length l.rest
